-- The words of the command line, as lists of bytes.
use Rattle.std.specs.Prelude.{ℕ, List, map, String, Vec, string_bytes}
use Rattle.std.specs.declared.alloc.Global.{Global}

abbrev pub word_list : Vec (String Global) Global → List (List ℕ)
word_list words = map (λ word. string_bytes word) words.items
