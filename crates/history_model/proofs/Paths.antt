-- The path is the one history that follows both automata.
use Rattle.std.proofs.Common.{◌≡◌, ℕ, zero, suc, [], ◌∷◌, ◌++◌, length, refl, arith, ap, sym, ◌∙◌}
use Rattle.history_model.specs.declared.moves.Play.{Play}
use Rattle.history_model.specs.Automaton.{Automaton, next_row}
use Rattle.history_model.specs.History.{History, turned_play, turned, walk}
use Rattle.history_model.specs.Path.{path, sure_play, Follows, PathIsOne}

length-path : (a : Automaton) (u : ℕ) (b : Automaton) (v n : ℕ) → length (path a u b v n) ≡ n
length-path a u b v zero = refl
length-path a u b v (suc n) =
    let play = sure_play a u b v in
    ap suc (length-path a (next_row a u play) b (next_row b v (turned_play play)) n)

-- each play of the path is the one of the rows where those before it lead
path-plays : (a : Automaton) (u : ℕ) (b : Automaton) (v n : ℕ) (before : History) (play : Play) (after : History)
    → path a u b v n ≡ before ++ play ∷ after → play ≡ sure_play a (walk a u before) b (walk b v (turned before))
path-plays a u b v zero [] play after e = cc
path-plays a u b v zero (first ∷ before) play after e = cc
path-plays a u b v (suc n) [] play after e = cc
path-plays a u b v (suc n) (first ∷ before) play after e =
    let one = sure_play a u b v in
    let same : one ≡ first = cc in
    let rest : path a (next_row a u one) b (next_row b v (turned_play one)) n ≡ before ++ play ∷ after = cc in
    let found = path-plays a (next_row a u one) b (next_row b v (turned_play one)) n before play after rest in
    rw (← same) found

path_only : (a : Automaton) (u : ℕ) (b : Automaton) (v n : ℕ) (history : History) → Follows a u b v n history → history ≡ path a u b v n
path_only a u b v zero [] h = refl
path_only a u b v zero (play ∷ rest) h = absurd (omega (arith, h.length_is))
path_only a u b v (suc n) [] h = absurd (omega (arith, h.length_is))
path_only a u b v (suc n) (play ∷ rest) h =
    let first : play ≡ sure_play a u b v = h.plays [] play rest refl in
    let tail : rest ≡ path a (next_row a u play) b (next_row b v (turned_play play)) n =
    path_only a (next_row a u play) b (next_row b v (turned_play play)) n rest (record {
      length_is = omega (arith, h.length_is);
      plays = λ before next after e. h.plays (play ∷ before) next after (ap (λ t. play ∷ t) e);
    }) in
    rw tail (rw first)

pub path_is_one_lem : PathIsOne
path_is_one_lem a u b v n history = (
  path_only a u b v n history,
  λ e. record {
    length_is = rw e (length-path a u b v n);
    plays = λ before play after cut. path-plays a u b v n before play after (sym e ∙ cut);
  },
)
