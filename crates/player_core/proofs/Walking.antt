-- Plays in a row, and sureness row by row.
use Rattle.std.proofs.Common.{◌≡◌, ◌⊎◌, ◌||◌, ◌==◌, ℕ, zero, suc, ◌^◌, ◌<◌, true, List, [], ◌∷◌, length, slice_index_or, refl, sym, ◌∙◌, ap, arith}
use Rattle.std.specs.List.{list_all}
use Rattle.std.proofs.lemmas.Bool.Decides.{nat_tests}
use Rattle.history_model.specs.Automaton.{Row, no_row}
use Rattle.history_model.specs.History.{walk}
use Rattle.player_core.specs.State.{PlayerState, more, advanced}
use Rattle.player_core.specs.Laws.{PlaysWalk, SureIsTested}

more_more : (t n : ℕ) → more (more t 1) n ≡ more t (suc n)
more_more t n = omega arith

more_none : (t : ℕ) → t < 2 ^ 64 → more t 0 ≡ t
more_none t h = omega (arith, h)

pub plays_walk : PlaysWalk
plays_walk state [] h = ap (λ t. record state { turns = t }) (sym (more_none state.turns h))
plays_walk state (play ∷ rest) h =
    let next : PlayerState = advanced state play.mine play.theirs in
    plays_walk next rest (omega arith) ∙ ap (λ t. record state { mark = walk state.lasting.automaton next.mark rest; turns = t }) (more_more state.turns (length rest))

sure_at : (den : ℕ) (rows : List Row) → list_all (λ row. row.weight == 0 || row.weight == den) rows ≡ true → (k : ℕ) → k < length rows → ((slice_index_or rows k no_row).weight ≡ 0) ⊎ ((slice_index_or rows k no_row).weight ≡ den)
sure_at den [] e k h = absurd (omega (arith, h))
sure_at den (row ∷ rows) e zero h = grind (arith, nat_tests)
sure_at den (row ∷ rows) e (suc k) h = sure_at den rows (grind (arith, nat_tests)) k (omega (arith, h))

sure_all : (den : ℕ) (rows : List Row) → ((k : ℕ) → k < length rows → ((slice_index_or rows k no_row).weight ≡ 0) ⊎ ((slice_index_or rows k no_row).weight ≡ den)) → list_all (λ row. row.weight == 0 || row.weight == den) rows ≡ true
sure_all den [] h = refl
sure_all den (row ∷ rows) h =
    let here : (row.weight ≡ 0) ⊎ (row.weight ≡ den) = h 0 (omega arith) in
    let rest : list_all (λ r. r.weight == 0 || r.weight == den) rows ≡ true = sure_all den rows (λ k lt. h (suc k) (omega (arith, lt))) in
    grind (arith, nat_tests)

pub sure_is_tested : SureIsTested
sure_is_tested a = (sure_at a.den a.rows, sure_all a.den a.rows)
