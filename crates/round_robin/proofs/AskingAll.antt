-- The players of all matches were asked.
use Rattle.std.proofs.Common.{◌≡◌, ◌⊎◌, ◌↔◌, inl, inr, ℕ, zero, suc, ◌+◌, ◌<◌, ◌≤◌, Bool, true, false, IsTrue, List, [], ◌∷◌, ◌++◌, length, take, refl, sym, ◌∙◌, ap, subst, arith}
use Rattle.std.proofs.lemmas.List.{take_more}
use Rattle.player_core.specs.Counts.{IsFull, NoneFell}
use Rattle.product_chain.specs.Expected.{IsSureMatch}
use Rattle.round_robin.specs.Asked.{Turns, MadeTurns, IsAsked, AsksFor, AskFor, PairAsked, AreAsked, AtMostTurns, most_advances, most_of, most_for}
use Rattle.round_robin.specs.Contest.{Strategy, strategy_at, pair_at, IsSurePair}

-- ---- one match

decided : (sure : Bool) (P : Type 0) → (IsTrue sure ↔ P) → P ⊎ (P → ⊥)
decided true P tells = inl (tells.0 refl)
decided false P tells = inr (λ p. let wrong : false ≡ true = tells.1 p in cc)

asked_for : (a b : Strategy) (turns n : ℕ) (before now : Turns)
    → IsSureMatch a.automaton a.noise b.automaton b.noise ⊎ (IsSureMatch a.automaton a.noise b.automaton b.noise → ⊥)
    → IsAsked a.automaton a.noise b.automaton b.noise turns before now → AsksFor a b turns n → MadeTurns n before now
asked_for a b turns n before now (inl sure) asked asks =
    let want = asks.sure sure in
    let P : ℕ → Type 0 = λ m. MadeTurns m before now in
    subst P (sym want.2) (asked.played sure want.0 want.1)
asked_for a b turns n before now (inr unsure) asked asks =
    let P : ℕ → Type 0 = λ m. MadeTurns m before now in subst P (sym (asks.unsure unsure)) (asked.read unsure)

pub pair_asked : (strategies : List Strategy) (pair : ℕ × ℕ) (turns : ℕ) (a b : Strategy) (sure : Bool) (before now : Turns)
    → strategy_at strategies pair.0 ≡ a → strategy_at strategies pair.1 ≡ b → (IsTrue sure ↔ IsSurePair strategies pair)
    → IsAsked a.automaton a.noise b.automaton b.noise turns before now → PairAsked strategies turns pair before now
pair_asked strategies pair turns a b sure before now left right tells asked =
    let l = strategy_at strategies pair.0 in
    let r = strategy_at strategies pair.1 in
    let P : Strategy → Type 0 = λ s. IsAsked s.automaton s.noise b.automaton b.noise turns before now in
    let Q : Strategy → Type 0 = λ s. IsAsked l.automaton l.noise s.automaton s.noise turns before now in
    let here = subst Q (sym right) (subst P (sym left) asked) in
    record {
      least = λ n asks. asked_for l r turns n before now (decided sure (IsSurePair strategies pair) tells) here asks;
      most = here.most;
    }

-- ---- match after match

full_stays : (old new : List ℕ) → NoneFell old new → IsFull old → IsFull new
full_stays old new fell full =
    (full.0, omega (arith, fell.length_is, full.1), omega (arith, fell.grown full.0, full.2))

made_more : (m k : ℕ) (before mid now : Turns) → MadeTurns m before mid → MadeTurns k mid now → NoneFell mid.left now.left → NoneFell mid.right now.right
    → MadeTurns (m + k) before now
made_more m k before mid now (inr (inl full)) more left right = inr (inl (full_stays _ _ left full))
made_more m k before mid now (inr (inr full)) more left right = inr (inr (full_stays _ _ right full))
made_more m k before mid now (inl made) (inl more) left right = inl (omega (arith, made, more))
made_more m k before mid now (inl made) (inr full) left right = inr full

-- what matches ask for, with one more behind them
record AskMore (strategies : List Strategy) (turns : ℕ) (pairs : List (ℕ × ℕ)) (pair : ℕ × ℕ) (n : ℕ) : Type 0 where
  first : ℕ
  last : ℕ
  firsts_ask : AskFor strategies turns pairs first
  last_asks : AsksFor (strategy_at strategies pair.0) (strategy_at strategies pair.1) turns last
  together : n ≡ first + last

ask_more : (strategies : List Strategy) (turns : ℕ) (pairs : List (ℕ × ℕ)) (pair : ℕ × ℕ) (n : ℕ) → AskFor strategies turns (pairs ++ pair ∷ []) n
    → AskMore strategies turns pairs pair n
ask_more strategies turns [] pair n h =
    record { first = 0; last = h.0; firsts_ask = refl; last_asks = h.2; together = omega (arith, h.3, h.4) }
ask_more strategies turns (p ∷ ps) pair n h =
    let m = ask_more strategies turns ps pair h.1 h.3 in
    record {
      first = h.0 + m.first;
      last = m.last;
      firsts_ask = (h.0, m.first, h.2, m.firsts_ask, refl);
      last_asks = m.last_asks;
      together = omega (arith, h.4, m.together);
    }

pub none_asked : (strategies : List Strategy) (turns : ℕ) (before : Turns) → AreAsked strategies turns [] before before
none_asked strategies turns before = record {
  least = λ n none. inl (omega (arith, none));
  most = record { left = omega arith; right = omega arith };
}

-- a pair takes no more advances than the match of what its two play
pub pair_at_most : (strategies : List Strategy) (pair : ℕ × ℕ) (a b : Strategy) (before now : Turns) → strategy_at strategies pair.0 ≡ a
    → strategy_at strategies pair.1 ≡ b → AtMostTurns (most_advances a.automaton b.automaton) before now
    → AtMostTurns (most_of strategies pair) before now
pair_at_most strategies pair a b before now left right few =
    let P : Strategy → Type 0 = λ s. AtMostTurns (most_advances s.automaton b.automaton) before now in
    let Q : Strategy → Type 0 = λ s. AtMostTurns (most_advances (strategy_at strategies pair.0).automaton s.automaton) before now in
    subst Q (sym right) (subst P (sym left) few)

-- no more than so many, with one match more
most_more : (m k : ℕ) (before mid now : Turns) → AtMostTurns m before mid → AtMostTurns k mid now → AtMostTurns (m + k) before now
most_more m k before mid now so_far here = record {
  left = omega (arith, so_far.left, here.left);
  right = omega (arith, so_far.right, here.right);
}

most_push : (strategies : List Strategy) (pairs : List (ℕ × ℕ)) (pair : ℕ × ℕ) → most_for strategies (pairs ++ pair ∷ []) ≡ most_for strategies pairs + most_of strategies pair
most_push strategies [] pair = omega arith
most_push strategies (p ∷ ps) pair = let rest = most_push strategies ps pair in omega (arith, rest)

pub asked_more : (strategies : List Strategy) (turns k : ℕ) (pairs : List (ℕ × ℕ)) (before mid now : Turns) → k < length pairs
    → AreAsked strategies turns (take k pairs) before mid → PairAsked strategies turns (pair_at pairs k) mid now
    → NoneFell mid.left now.left → NoneFell mid.right now.right → AreAsked strategies turns (take (k + 1) pairs) before now
asked_more strategies turns k pairs before mid now inside so_far here left right =
    let cut = take_more pairs k (0, 0) inside in
    let R : ℕ → Type 0 = λ n. AtMostTurns n before now in
    record {
      least = λ n asks.
          let P : List (ℕ × ℕ) → Type 0 = λ ps. AskFor strategies turns ps n in
          let m = ask_more strategies turns (take k pairs) (pair_at pairs k) n (subst P cut asks) in
          let Q : ℕ → Type 0 = λ all. MadeTurns all before now in
          subst Q (sym m.together) (made_more m.first m.last before mid now (so_far.least m.first m.firsts_ask) (here.least m.last m.last_asks) left right);
      most = subst R (sym (ap (most_for strategies) cut ∙ most_push strategies (take k pairs) (pair_at pairs k)))
          (most_more (most_for strategies (take k pairs)) (most_of strategies (pair_at pairs k)) before mid now so_far.most here.most);
    }

-- the first matches take no more advances than all
most_within : (strategies : List Strategy) (pairs : List (ℕ × ℕ)) (k : ℕ) → most_for strategies (take k pairs) ≤ most_for strategies pairs
most_within strategies pairs zero = omega arith
most_within strategies [] (suc k) = omega arith
most_within strategies (p ∷ ps) (suc k) = let rest = most_within strategies ps k in omega (arith, rest)

-- nor with what was made of one more
pub most_stopped : (strategies : List Strategy) (pairs : List (ℕ × ℕ)) (k : ℕ) (before mid now : Turns) → k < length pairs
    → AtMostTurns (most_for strategies (take k pairs)) before mid → AtMostTurns (most_of strategies (pair_at pairs k)) mid now
    → AtMostTurns (most_for strategies pairs) before now
most_stopped strategies pairs k before mid now inside so_far here =
    let cut = ap (most_for strategies) (take_more pairs k (0, 0) inside) ∙ most_push strategies (take k pairs) (pair_at pairs k) in
    let within = most_within strategies pairs (k + 1) in
    record {
      left = omega (arith, so_far.left, here.left, cut, within);
      right = omega (arith, so_far.right, here.right, cut, within);
    }
