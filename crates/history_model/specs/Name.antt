-- Names of entries.
use Rattle.std.specs.Prelude.{◌≡◌, ℕ, ◌-◌, ◌≤◌, ◌&&◌, ◌==◌, Bool, true, not, nat_le, List, ◌++◌, length, slice_index, take, drop, replicate}
use Rattle.std.specs.List.{list_all}
use Rattle.std.proofs.Common.{arith, take-append-drop, length-take-le}

-- printable ASCII, and no `|`
abbrev pub is_name_byte : ℕ → Bool
is_name_byte b = (nat_le 32 b && nat_le b 126) && not (b == 124)

-- 1 to 32 such bytes, the first and the last no space
abbrev pub is_name : List ℕ → Bool
is_name bs =
    ((nat_le 1 (length bs) && nat_le (length bs) 32) && list_all is_name_byte bs)
    && (not (slice_index bs 0 == 32) && not (slice_index bs (length bs - 1) == 32))

abbrev pub IsName : List ℕ → Type 0
IsName bs = is_name bs ≡ true

-- a name in an array of 32 bytes, with zeros behind it
pub record IsHeldName (len : ℕ) (bytes : List ℕ) : Type 0 where
  pub within : len ≤ 32
  pub whole : length bytes ≡ 32
  pub rest : drop len bytes ≡ replicate (32 - len) 0
  pub name : IsName (take len bytes)

-- what stands before padding, and how long it is, padded again
pub length_back : (bytes : List ℕ) (len : ℕ) → IsHeldName len bytes → length (take len bytes) ≡ len
length_back bytes len h = length-take-le len bytes (omega (arith, h.within, h.whole))

pub padded_back : (bytes : List ℕ) (len : ℕ) → IsHeldName len bytes
    → take len bytes ++ replicate (32 - length (take len bytes)) 0 ≡ bytes
padded_back bytes len h =
    let short : length (take len bytes) ≡ len = length_back bytes len h in
    rw (short, ← h.rest) (take-append-drop len bytes)

-- the bytes stand in front, and zeros behind them
pub record IsPadded (bs whole : List ℕ) : Type 0 where
  pub length_is : length whole ≡ 32
  pub front : take (length bs) whole ≡ bs
  pub rest : drop (length bs) whole ≡ replicate (32 - length bs) 0
