-- What the matches of a tournament ask for, field by field, and each of them within the limits of all.
use Rattle.std.proofs.Common.{◌≡◌, ℕ, ◌+◌, ◌<◌, ◌||◌, nat_lt, Bool, true, false, List, [], ◌∷◌, length, get_or, Option, Some, None, Result, Ok, Err, if◌then◌else◌, refl, sym, ◌∙◌, ap, inl, inr, arith}
use Rattle.std.proofs.Math.Bool.{or-false}
use Rattle.std.proofs.lemmas.Bool.{cases_Bool, ltb-false, le-ltb}
use Rattle.std.proofs.lemmas.List.Folds.{list_any_at, list_any-append}
use Rattle.std.proofs.lemmas.List.Sums.{sum_by_push, get_or-le-sum_by}
use Rattle.std.specs.List.{list_any, sum_by}
use Rattle.refusals.specs.declared.refusal.Refusal.{Refusal}
use Rattle.refusals.specs.declared.refusal.Refusal.TheVariants.{TooManyTurns, TooMuchWork}
use Rattle.job_tables.specs.declared.tournament.TournamentJob.{TournamentJob}
use Rattle.lab_file.specs.Limits.{most_work, is_too_long, pair_work, MatchesAreKept}
use Rattle.job_tables.specs.Tournament.{played_before, with_match, tournament_pairs}

pub any_played : (test : ℕ × ℕ → Bool) (job : TournamentJob) (count field : ℕ) (found : Option (ℕ × ℕ)) (pair : ℕ × ℕ)
    → played_before job count (field + 1) ≡ with_match (played_before job count field) found → found ≡ Some pair
    → list_any test (played_before job count (field + 1)) ≡ (list_any test (played_before job count field) || test pair)
any_played test job count field found pair more at =
    ap (list_any test) (more ∙ ap (with_match (played_before job count field)) at)
    ∙ list_any-append test (played_before job count field) (pair ∷ [])
    ∙ ap (λ b. list_any test (played_before job count field) || b) (or-false (test pair))

pub any_passed : (test : ℕ × ℕ → Bool) (job : TournamentJob) (count field : ℕ) (found : Option (ℕ × ℕ))
    → played_before job count (field + 1) ≡ with_match (played_before job count field) found → found ≡ None
    → list_any test (played_before job count (field + 1)) ≡ list_any test (played_before job count field)
any_passed test job count field found more at = ap (list_any test) (more ∙ ap (with_match (played_before job count field)) at)

pub sum_played : (f : ℕ × ℕ → ℕ) (job : TournamentJob) (count field : ℕ) (found : Option (ℕ × ℕ)) (pair : ℕ × ℕ)
    → played_before job count (field + 1) ≡ with_match (played_before job count field) found → found ≡ Some pair
    → sum_by f (played_before job count (field + 1)) ≡ sum_by f (played_before job count field) + f pair
sum_played f job count field found pair more at =
    ap (sum_by f) (more ∙ ap (with_match (played_before job count field)) at) ∙ sum_by_push f (played_before job count field) pair

pub sum_passed : (f : ℕ × ℕ → ℕ) (job : TournamentJob) (count field : ℕ) (found : Option (ℕ × ℕ))
    → played_before job count (field + 1) ≡ with_match (played_before job count field) found → found ≡ None
    → sum_by f (played_before job count (field + 1)) ≡ sum_by f (played_before job count field)
sum_passed f job count field found more at = ap (sum_by f) (more ∙ ap (with_match (played_before job count field)) at)

-- the answers so far, with that at one field more

pub long_kept : (test : ℕ × ℕ → Bool) (job : TournamentJob) (count field : ℕ) (found : Option (ℕ × ℕ)) (pair : ℕ × ℕ) (before : Bool)
    → played_before job count (field + 1) ≡ with_match (played_before job count field) found → found ≡ Some pair
    → before ≡ list_any test (played_before job count field) → before ≡ true → before ≡ list_any test (played_before job count (field + 1))
long_kept test job count field found pair before more at was on =
    let all : list_any test (played_before job count field) ≡ true = cc in
    on ∙ sym (any_played test job count field found pair more at ∙ rw all refl)

pub long_more : (test : ℕ × ℕ → Bool) (job : TournamentJob) (count field : ℕ) (found : Option (ℕ × ℕ)) (pair : ℕ × ℕ) (before here : Bool)
    → played_before job count (field + 1) ≡ with_match (played_before job count field) found → found ≡ Some pair
    → before ≡ list_any test (played_before job count field) → before ≡ false → here ≡ test pair → here ≡ list_any test (played_before job count (field + 1))
long_more test job count field found pair before here more at was off is =
    let none : list_any test (played_before job count field) ≡ false = cc in
    is ∙ sym (any_played test job count field found pair more at ∙ rw none refl)

-- what limits that are kept say of their tests
abbrev answer : Bool → Bool → Result (Unit {0}) Refusal
answer long much = if long then Err TooManyTurns else if much then Err TooMuchWork else Ok tt

tests : (long much : Bool) → answer long much ≡ Ok tt → (long ≡ false) × (much ≡ false)
tests true much kept = absurd (cc)
tests false true kept = absurd (cc)
tests false false kept = (refl, refl)

-- what passes nowhere fails at each place
none_at : {X : Type 0} (test : X → Bool) (xs : List X) (k : ℕ) (d : X) → list_any test xs ≡ false → k < length xs → test (get_or xs k d) ≡ false
none_at test xs k d none inside =
    elim (cases_Bool (test (get_or xs k d))) [
      | inl on ↦ let some : list_any test xs ≡ true = list_any_at test xs k d inside on in absurd (cc)
      | inr off ↦ off
    ]

pub matches_are_kept : MatchesAreKept
matches_are_kept notes entries job kept k d inside =
    let pairs : List (ℕ × ℕ) = tournament_pairs job (length entries) in
    let pair : ℕ × ℕ = get_or pairs k d in
    let parts = tests (list_any (is_too_long notes entries job.turns) pairs) (nat_lt most_work (sum_by (pair_work notes entries job.turns) pairs)) kept in
    let short : is_too_long notes entries job.turns pair ≡ false = none_at (is_too_long notes entries job.turns) pairs k d parts.0 inside in
    let part = get_or-le-sum_by (pair_work notes entries job.turns) pairs k d inside in
    let whole = ltb-false most_work (sum_by (pair_work notes entries job.turns) pairs) parts.1 in
    let light : nat_lt most_work (pair_work notes entries job.turns pair) ≡ false = le-ltb most_work (pair_work notes entries job.turns pair) (omega (arith, part, whole)) in
    rw (short, light) refl
