-- The tree of a plan intends the plan's move after each history.
use Rattle.std.proofs.Common.{ℕ, zero, suc, ◌-◌, ◌≡◌, [], ◌∷◌, length, fold, refl, ap, ◌∙◌, arith}
use Rattle.history_model.specs.declared.moves.Move.{Move}
use Rattle.history_model.specs.declared.moves.Move.TheVariants.{C, D}
use Rattle.history_model.specs.declared.moves.Play.{Play}
use Rattle.history_model.specs.Automaton.{Automaton, next_row}
use Rattle.history_model.specs.History.{turned_play}
use Rattle.history_model.specs.Tree.{Plan, plan_tree, tree_next, tree_weight, PlanIsFollowed}

pub plan_tree-next : (plan : Plan) (b : Automaton) (n row : ℕ) (play : Play) → tree_next (plan_tree plan b (suc n) row) play ≡ plan_tree plan b n (next_row b row (turned_play play))
plan_tree-next plan b n row play = by_moves play.mine play.theirs
  where
    by_moves : (mine theirs : Move) → tree_next (plan_tree plan b (suc n) row) (record { mine = mine; theirs = theirs })
        ≡ plan_tree plan b n (next_row b row (record { mine = theirs; theirs = mine }))
    by_moves C C = refl
    by_moves C D = refl
    by_moves D C = refl
    by_moves D D = refl

pub plan_is_followed_lem : PlanIsFollowed
plan_is_followed_lem plan b zero row history h = absurd (omega arith)
plan_is_followed_lem plan b (suc n) row [] h = let e : suc n - 0 ≡ suc n = omega arith in rw e refl
plan_is_followed_lem plan b (suc n) row (play ∷ rest) h =
    let next = next_row b row (turned_play play) in
    let left : suc n - suc (length rest) ≡ n - length rest = omega arith in
    ap (λ t. tree_weight (fold tree_next t rest)) (plan_tree-next plan b n row play)
    ∙ plan_is_followed_lem plan b n next rest (omega arith)
    ∙ rw left refl
