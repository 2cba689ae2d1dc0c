-- A strategy that chooses by fractions is a tree.
use Rattle.std.proofs.Common.{ℕ, zero, suc, ◌+◌, ◌≡◌, ◌≤◌, ◌<◌, ℤ, pos, ◌*ℤ◌, [], ◌∷◌, ◌++◌, fold, length, length-append, refl, ap, ◌∙◌, arith}
use Rattle.std.proofs.lemmas.Int.{ints}
use Rattle.history_model.specs.declared.moves.Move.{Move}
use Rattle.history_model.specs.declared.moves.Move.TheVariants.{C, D}
use Rattle.history_model.specs.declared.moves.Play.{Play}
use Rattle.history_model.specs.Noise.{FlipRate}
use Rattle.history_model.specs.History.{History, score}
use Rattle.history_model.specs.Expectation.{Chooser, mass_after, signed_over_histories, player, expectation}
use Rattle.history_model.specs.Tree.{IsTree, tree_weight, tree_next, tree_player}
use Rattle.strategy_trees.specs.Contest.{Contest}
use Rattle.strategy_trees.specs.Bounds.{expected}
use Rattle.strategy_trees.specs.Strategies.{ChoosesByFractions, after, tree_of, StrategiesAreTrees}
use Rattle.strategy_trees.proofs.Sums.{cc, cd, dc, dd}

later : (a : Chooser) (n : ℕ) (play : Play) → ChoosesByFractions a (suc n) → ChoosesByFractions (after a play) n
later a n play h = record { within = λ history short. h.within (play ∷ history) (omega arith) }

is_tree : (n : ℕ) (a : Chooser) → ChoosesByFractions a n → IsTree a.den n (tree_of n a)
is_tree zero a h = tt
is_tree (suc n) a h = (
  h.within [] (omega arith),
  is_tree n (after a cc) (later a n cc h),
  is_tree n (after a cd) (later a n cd h),
  is_tree n (after a dc) (later a n dc h),
  is_tree n (after a dd) (later a n dd h),
)

tree_of-next : (n : ℕ) (a : Chooser) (play : Play) → tree_next (tree_of (suc n) a) play ≡ tree_of n (after a play)
tree_of-next n a play = by_moves play.mine play.theirs
  where
    by_moves : (mine theirs : Move) → tree_next (tree_of (suc n) a) (record { mine = mine; theirs = theirs }) ≡ tree_of n (after a (record { mine = mine; theirs = theirs }))
    by_moves C C = refl
    by_moves C D = refl
    by_moves D C = refl
    by_moves D D = refl

weights : (n : ℕ) (a : Chooser) (history : History) → length history < n → tree_weight (fold tree_next (tree_of n a) history) ≡ a.weight history
weights zero a history h = absurd (omega arith)
weights (suc n) a [] h = refl
weights (suc n) a (play ∷ rest) h =
    ap (λ t. tree_weight (fold tree_next t rest)) (tree_of-next n a play) ∙ weights n (after a play) rest (omega arith)

-- masses of histories of n plays rest on the weights after shorter ones
masses : (a d : Chooser) (na : FlipRate) (b : Chooser) (nb : FlipRate) (n : ℕ) → a.den ≡ d.den → ((history : History) → length history < n → a.weight history ≡ d.weight history) →
    (before rest : History) → length before + length rest ≤ n → mass_after a na b nb before rest ≡ mass_after d na b nb before rest
masses a d na b nb n den same before [] h = refl
masses a d na b nb n den same before (play ∷ rest) h =
    let here : a.weight before ≡ d.weight before = same before (omega arith) in
    let more : length (before ++ play ∷ []) ≡ length before + 1 = length-append before (play ∷ []) in
    let ih : mass_after a na b nb (before ++ play ∷ []) rest ≡ mass_after d na b nb (before ++ play ∷ []) rest =
    masses a d na b nb n den same (before ++ play ∷ []) rest (omega arith) in
    rw (den, here, ih) refl

sums : (n : ℕ) (f g : History → ℤ) → ((history : History) → length history ≡ n → f history ≡ g history) → signed_over_histories n f ≡ signed_over_histories n g
sums zero f g e = e [] refl
sums (suc n) f g e =
    let part : (play : Play) → signed_over_histories n (λ rest. f (play ∷ rest)) ≡ signed_over_histories n (λ rest. g (play ∷ rest)) = λ play.
    sums n (λ rest. f (play ∷ rest)) (λ rest. g (play ∷ rest)) (λ rest size. e (play ∷ rest) (ap suc size)) in
    omega (arith, ints, part cc, part cd, part dc, part dd)

expects : (n : ℕ) (a : Chooser) (c : Contest) (offset : ℕ) → expected c a.den (tree_of n a) offset n ≡ expectation a c.own_noise (player c.opponent) c.noise c.game offset n
expects n a c offset =
    let t = tree_player a.den (tree_of n a) in
    let b = player c.opponent in
    sums n _ _ (λ history size.
    ap (λ m. pos m *ℤ score c.game offset history) (masses t a c.own_noise b c.noise n refl (weights n a) [] history (omega arith)))

pub strategies_are_trees_lem : StrategiesAreTrees
strategies_are_trees_lem a n h = record { is_tree = is_tree n a h; weights = weights n a; expects = expects n a }
