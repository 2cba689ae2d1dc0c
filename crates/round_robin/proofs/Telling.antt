-- Which contestants are sure, one after the other.
use Rattle.std.proofs.Common.{◌≡◌, ◌≢◌, Bool, false, ℕ, ◌+◌, ◌<◌, ◌≤◌, IsTrue, ◌↔◌, List, length, slice_set, slice_index_or, sym, ◌∙◌, ap, subst, arith, below_more, get_or-set_other, get_or-set_same, length-set, refl}
use Rattle.std.proofs.lemmas.List.{length-map}
use Rattle.player_core.specs.State.{BenchState, lasting_of, players_of}
use Rattle.player_core.specs.Fits.{Fits}
use Rattle.player_core.specs.Bench.{KeepsBench, NoResumesFell, SameTurns}
use Rattle.player_core.specs.Laws.{EntriesPlay, KeepingLasts}
use Rattle.player_core.proofs.Growing.{none_fell_both, none_fell_same}
use Rattle.sheet_rules.specs.declared.contestant.Contestant.{Contestant}
use Rattle.round_robin.specs.Asked.{Turns, AreAsked, AtMostTurns, bench_turns, most_for}
use Rattle.round_robin.specs.Contest.{AreTold, IsSureStrategy, Strategy, strategy_at, strategy_of}
use Rattle.round_robin.specs.OnBench.{strategies_on}
use Rattle.round_robin.proofs.Contesting.{bench_kept, strategies_kept}

-- what is told of a strategy
abbrev pub Tells : List Strategy → List Bool → ℕ → Type 0
Tells strategies sure i = IsTrue (slice_index_or sure i false) ↔ IsSureStrategy (strategy_at strategies i)

-- the first k were asked
pub record ToldSoFar (contestants : List Contestant) (k end : ℕ) (sure : List Bool) (old now : BenchState) : Type 0 where
  pub size : length sure ≡ 64
  pub end_is : end ≡ length contestants
  pub told : (i : ℕ) → i < k → Tells (strategies_on old contestants) sure i
  pub kept : KeepsBench old now
  pub turns : SameTurns old now
  pub returns : NoResumesFell old now

-- before the first
pub none_told : KeepingLasts → (contestants : List Contestant) (end : ℕ) (sure : List Bool) (old : BenchState) → Fits old → length sure ≡ 64 → end ≡ length contestants
    → ToldSoFar contestants 0 end sure old old
none_told keeping contestants end sure old fits size end_is = record {
  size = size;
  end_is = end_is;
  told = λ i inside. absurd (omega (arith, inside));
  kept = record { fits = fits; left_kept = keeping.none _; right_kept = keeping.none _ };
  turns = record { left = refl; right = refl };
  returns = record { left = none_fell_same _; right = none_fell_same _ };
}

-- an answer more
tells_more : (strategies : List Strategy) (sure : List Bool) (answer : Bool) (k : ℕ) → k < length sure → ((i : ℕ) → i < k → Tells strategies sure i)
    → IsTrue answer ↔ IsSureStrategy (strategy_at strategies k) → (i : ℕ) → i < k + 1 → Tells strategies (slice_set sure k answer) i
tells_more strategies sure answer k room so_far here =
    let P : ℕ → Type 0 = λ i. Tells strategies (slice_set sure k answer) i in
    below_more P k
    (λ i below.
    let other : i ≢ k = omega (arith, below) in
    let Q : Bool → Type 0 = λ b. IsTrue b ↔ IsSureStrategy (strategy_at strategies i) in
    subst Q (sym (get_or-set_other sure k i answer false other)) (so_far i below))
    (let Q : Bool → Type 0 = λ b. IsTrue b ↔ IsSureStrategy (strategy_at strategies k) in
    subst Q (sym (get_or-set_same sure k answer false room)) here)

-- one more
pub told_more : KeepingLasts → EntriesPlay → (contestants : List Contestant) (k end : ℕ) (sure : List Bool) (answer : Bool) (old now new : BenchState)
    → Fits old → length contestants ≤ 64 → k < end → ToldSoFar contestants k end sure old now
    → IsTrue answer ↔ IsSureStrategy (strategy_at (strategies_on now contestants) k)
    → KeepsBench now new → SameTurns now new → NoResumesFell now new → ToldSoFar contestants (k + 1) end (slice_set sure k answer) old new
told_more keeping law contestants k end sure answer old now new fits few inside so_far is kept turns returns =
    let same = strategies_kept law (lasting_of old.left) (lasting_of old.right) (lasting_of now.left) fits so_far.kept.left_kept contestants in
    let strategies = strategies_on old contestants in
    let P : List Strategy → Type 0 = λ ss. IsTrue answer ↔ IsSureStrategy (strategy_at ss k) in
    let here = subst P same is in
    let room : k < length sure = omega (arith, inside, so_far.end_is, so_far.size, few) in
    record {
      size = length-set sure k answer ∙ so_far.size;
      end_is = so_far.end_is;
      told = tells_more strategies sure answer k room so_far.told here;
      kept = bench_kept keeping old now new so_far.kept kept;
      turns = record { left = turns.left ∙ so_far.turns.left; right = turns.right ∙ so_far.turns.right };
      returns = record {
        left = none_fell_both _ _ _ so_far.returns.left returns.left;
        right = none_fell_both _ _ _ so_far.returns.right returns.right;
      };
    }

-- all were asked
pub all_told : (contestants : List Contestant) (k end : ℕ) (sure : List Bool) (old now : BenchState) → length contestants ≤ 64 → end ≤ k
    → ToldSoFar contestants k end sure old now → AreTold (strategies_on old contestants) sure
all_told contestants k end sure old now few done so_far =
    let count = length-map contestants (strategy_of (players_of old)) in
    record {
      whole = omega (arith, count, few, so_far.size);
      each = λ i inside. so_far.told i (omega (arith, inside, count, done, so_far.end_is));
    }

-- ---- matches that begin when all were asked

module _ (law : EntriesPlay) (old mid : BenchState) (kept : KeepsBench old mid) (fits : Fits old) (contestants : List Contestant) where
  pub same_strategies : strategies_on mid contestants ≡ strategies_on old contestants
  same_strategies = strategies_kept law (lasting_of old.left) (lasting_of old.right) (lasting_of mid.left) fits kept.left_kept contestants

  -- what is so of what all play is so before and after
  pub then : (P : List Strategy → Type 0) → P (strategies_on old contestants) → P (strategies_on mid contestants)
  then P before = subst P (sym same_strategies) before

  pub first : (P : List Strategy → Type 0) → P (strategies_on mid contestants) → P (strategies_on old contestants)
  first P after = subst P same_strategies after

-- no advance was made before
pub same_turns : (old mid : BenchState) → SameTurns old mid → bench_turns mid ≡ bench_turns old
same_turns old mid same =
    ap (λ (counts : List ℕ). record { left = counts; right = (bench_turns mid).right }) same.left
    ∙ ap (λ (counts : List ℕ). record { left = (bench_turns old).left; right = counts }) same.right

pub at_most_first : EntriesPlay → (old mid : BenchState) (now : Turns) (contestants : List Contestant) (pairs : List (ℕ × ℕ)) → KeepsBench old mid → SameTurns old mid → Fits old
    → AtMostTurns (most_for (strategies_on mid contestants) pairs) (bench_turns mid) now
    → AtMostTurns (most_for (strategies_on old contestants) pairs) (bench_turns old) now
at_most_first law old mid now contestants pairs kept same fits few =
    let P : Turns → Type 0 = λ before. AtMostTurns (most_for (strategies_on mid contestants) pairs) before now in
    first law old mid kept fits contestants (λ ss. AtMostTurns (most_for ss pairs) (bench_turns old) now) (subst P (same_turns old mid same) few)

pub asked_first : EntriesPlay → (old mid : BenchState) (now : Turns) (contestants : List Contestant) (turns : ℕ) (pairs : List (ℕ × ℕ)) → KeepsBench old mid → SameTurns old mid → Fits old
    → AreAsked (strategies_on mid contestants) turns pairs (bench_turns mid) now
    → AreAsked (strategies_on old contestants) turns pairs (bench_turns old) now
asked_first law old mid now contestants turns pairs kept same fits asked =
    let P : Turns → Type 0 = λ before. AreAsked (strategies_on mid contestants) turns pairs before now in
    first law old mid kept fits contestants (λ ss. AreAsked ss turns pairs (bench_turns old) now) (subst P (same_turns old mid same) asked)

-- no advance at all
pub none_at_most : (n : ℕ) (before : Turns) → AtMostTurns n before before
none_at_most n before = record { left = omega arith; right = omega arith }
