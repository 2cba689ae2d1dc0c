-- A hole with a width and a zero writes so many digits, with zeros before them.
use Rattle.std.proofs.Common.{◌≡◌, ℕ, ◌-◌, ◌^◌, ◌++◌, length, replicate, ap, arith}
use Rattle.std.specs.Fmt.{decimal, padded_integral, char_count, styled_decimal, format_spec}
use Rattle.std.proofs.lemmas.List.{append-nil}
use Rattle.texts.specs.Numbers.{zero_padded}

pub nine_is : (n : ℕ) → styled_decimal (format_spec 32 0 4 9 (2 ^ 64 - 1)) n ≡ zero_padded 9 (decimal n)
unfolding padded_integral char_count
nine_is n =
    let width : 9 - length (decimal n) - 0 - 0 ≡ 9 - length (decimal n) = omega arith in
    rw (append-nil (decimal n)) (ap (λ k. replicate k 48 ++ decimal n) width)

pub twelve_is : (n : ℕ) → styled_decimal (format_spec 32 0 4 12 (2 ^ 64 - 1)) n ≡ zero_padded 12 (decimal n)
unfolding padded_integral char_count
twelve_is n =
    let width : 12 - length (decimal n) - 0 - 0 ≡ 12 - length (decimal n) = omega arith in
    rw (append-nil (decimal n)) (ap (λ k. replicate k 48 ++ decimal n) width)
