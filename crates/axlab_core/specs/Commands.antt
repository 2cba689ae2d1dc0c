-- The command words.
use Rattle.std.specs.Prelude.{codes, ℕ, ◌||◌, ◌==◌, Bool, false, List, [], ◌∷◌, bytes_eq}

-- no word of a listed form begins with `-`
abbrev pub is_option : List ℕ → Bool
is_option [] = false
is_option (first ∷ rest) = first == 45

abbrev pub has_option : List (List ℕ) → Bool
has_option [] = false
has_option (word ∷ words) = is_option word || has_option words

-- a command with a lab that isn't built
abbrev pub is_unbuilt : List ℕ → Bool
is_unbuilt word =
    bytes_eq word (codes "rota") || bytes_eq word (codes "board") || bytes_eq word (codes "moran")
    || bytes_eq word (codes "best") || bytes_eq word (codes "mean")
    || bytes_eq word (codes "certificate") || bytes_eq word (codes "summary")

-- a command with a lab and a second file that isn't built
abbrev pub is_unbuilt_pair : List ℕ → Bool
is_unbuilt_pair word = bytes_eq word (codes "resume") || bytes_eq word (codes "check")
