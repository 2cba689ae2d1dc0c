-- The sheets of vectors, lookup tables and plugs, from their numbers and lists.
use Rattle.std.specs.Prelude.{ℕ, List, [], ◌∷◌}
use Rattle.player_core.specs.declared.kind.Kind.TheVariants.{MemoryOne, Lookup, Plug}
use Rattle.player_core.specs.State.{no_name}
use Rattle.player_core.specs.Sheet.{SheetData}

abbrev pub vector_with : ℕ → ℕ → List ℕ → SheetData
vector_with den opening weights =
    record { kind = MemoryOne; den = den; own = 0; other = 0; first = 0; opening = opening ∷ []; table = weights; next = []; plug = no_name }

abbrev pub table_with : ℕ → ℕ → ℕ → ℕ → List ℕ → List ℕ → SheetData
table_with den own other first opening table =
    record { kind = Lookup; den = den; own = own; other = other; first = first; opening = opening; table = table; next = []; plug = no_name }

abbrev pub plug_with : List ℕ → SheetData
plug_with name =
    record { kind = Plug; den = 1; own = 0; other = 0; first = 0; opening = []; table = []; next = []; plug = name }
