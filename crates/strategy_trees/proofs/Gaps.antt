-- Potentials bound every strategy tree: what the greatest one is above a row's serves as the row's upper.
use Rattle.std.proofs.Common.{ℕ, zero, suc, ◌+◌, ◌-◌, ◌*◌, ◌≡◌, ◌≤◌, ◌<◌, ◌⊎◌, inl, inr, ◌==◌, if◌then◌else◌, ℤ, pos, negsuc, ◌+ℤ◌, ◌-ℤ◌, ◌*ℤ◌, ◌≤ℤ◌, Option, Some, None, refl, sym, ap, ◌∙◌, subst, arith}
use Rattle.std.proofs.lemmas.Int.{ints}
use Rattle.std.proofs.lemmas.Bool.Decides.{nat_tests}
use Rattle.std.proofs.Math.Nat.{mul-le-mul_left}
use Rattle.history_model.specs.declared.moves.Move.{Move}
use Rattle.history_model.specs.declared.moves.Move.TheVariants.{C, D}
use Rattle.history_model.specs.declared.moves.Play.{Play}
use Rattle.history_model.specs.Game.{pay, magnitude, magnitude_back}
use Rattle.history_model.specs.Noise.{FlipRate}
use Rattle.history_model.specs.History.{turned_play}
use Rattle.history_model.specs.Automaton.{Automaton, weight_at, next_row}
use Rattle.history_model.specs.Path.{sure_move}
use Rattle.history_model.specs.Mean.{step, step_pay, StepsUp, ArePotentials}
use Rattle.history_model.specs.Expectation.{shown, over_plays, MassesAddUp, OffsetLowers, AutomataAreWeighed}
use Rattle.strategy_trees.specs.Contest.{Contest, IsContest, IsSureContest, rows, one_play, seen_as, worth}
use Rattle.strategy_trees.specs.Bounds.{NoTreeExceeds, BoundsAreLowered}
use Rattle.strategy_trees.specs.Potentials.{AreAtMost, PotentialsBoundTrees}
use Rattle.strategy_trees.proofs.Sums.{over_plays-le}
use Rattle.strategy_trees.proofs.Signed.{pos-less, less-pos}
use Rattle.strategy_trees.proofs.Uppers.{uppers_bound_where}

-- ---- sure moves
move_none : (w den : ℕ) → w ≡ 0 → 1 ≤ den → (if w == den then C else D) ≡ D
move_none w den e h = grind (arith, nat_tests)

move_all : (w den : ℕ) → w ≡ den → (if w == den then C else D) ≡ C
move_all w den e = grind (arith, nat_tests)

shown_none : (noise : FlipRate) (den w : ℕ) → noise.n ≡ 0 → w ≡ 0 → shown noise den w C ≡ 0
shown_none noise den w n e = rw (n, e) (omega arith)

shown_all : (noise : FlipRate) (den w : ℕ) → noise.n ≡ 0 → w ≡ den → shown noise den w D ≡ 0
shown_all noise den w n e = rw (n, e) (let z : den - den ≡ 0 = omega arith in rw z (omega arith))

-- without noise a sure automaton shows one move
pub shows : (b : Automaton) (noise : FlipRate) (row : ℕ) (theirs : Move) → 1 ≤ b.den → noise.n ≡ 0 → (weight_at b row ≡ 0) ⊎ (weight_at b row ≡ b.den) →
    (shown noise b.den (weight_at b row) theirs ≡ 0) ⊎ (theirs ≡ sure_move b row)
shows b noise row C some n (inl e) = inl (shown_none noise b.den (weight_at b row) n e)
shows b noise row D some n (inl e) = inr (sym (move_none (weight_at b row) b.den e some))
shows b noise row C some n (inr e) = inr (sym (move_all (weight_at b row) b.den e))
shows b noise row D some n (inr e) = inl (shown_all noise b.den (weight_at b row) n e)

-- ---- the weights of a move's four plays
seen_sum : (noise : FlipRate) (move : Move) → noise.n ≤ noise.e → seen_as noise move C + seen_as noise move D ≡ noise.e
seen_sum noise C h = omega arith
seen_sum noise D h = omega arith

shown_sum-plain : (w k n j : ℕ) → (w * j + k * n) + (w * n + k * j) ≡ (w + k) * (n + j)
shown_sum-plain w k n j = omega arith

shown_sum : (noise : FlipRate) (den w : ℕ) → noise.n ≤ noise.e → w ≤ den → shown noise den w C + shown noise den w D ≡ den * noise.e
shown_sum noise den w h k =
    let rest : w + (den - w) ≡ den = omega arith in
    let kept : noise.n + (noise.e - noise.n) ≡ noise.e = omega arith in
    shown_sum-plain w (den - w) noise.n (noise.e - noise.n) ∙ ap (λ x. x * (noise.n + (noise.e - noise.n))) rest ∙ ap (λ x. den * x) kept

total : (x y u v z : ℕ) → x * u * z + x * v * z + y * u * z + y * v * z ≡ z * ((x + y) * (u + v))
total x y u v z = omega arith

whole_of : (c : Contest) → IsContest c → (row : ℕ) (move : Move) (z : ℕ) → row < rows c →
    over_plays (λ play. seen_as c.own_noise move play.mine * shown c.noise c.opponent.den (weight_at c.opponent row) play.theirs * z) ≡ z * one_play c
whole_of c ok row move z inside =
    let s : Move → ℕ = shown c.noise c.opponent.den (weight_at c.opponent row) in
    let own : c.own_noise.n ≤ c.own_noise.e = omega (arith, ok.own_rate.half) in
    let other : c.noise.n ≤ c.noise.e = omega (arith, ok.rate.half) in
    total (seen_as c.own_noise move C) (seen_as c.own_noise move D) (s C) (s D) z
    ∙ ap (λ x. z * (x * (s C + s D))) (seen_sum c.own_noise move own)
    ∙ ap (λ x. z * (c.own_noise.e * x)) (shown_sum c.noise c.opponent.den (weight_at c.opponent row) other (ok.automaton.weighed row inside))

-- ---- gaps
abbrev HasSome : Option ℤ → Type 0
HasSome None = ⊥
HasSome (Some h) = Unit {0}

abbrev gap_of : ℤ → Option ℤ → ℕ
gap_of most None = 0
gap_of most (Some h) = magnitude (most -ℤ h)

gap_is : (most h : ℤ) → h ≤ℤ most → pos (magnitude (most -ℤ h)) ≡ most -ℤ h
gap_is most h l = magnitude_back (most -ℤ h) (omega (arith, ints, l))

some_of : (o : Option ℤ) (h : ℤ) → o ≡ Some h → HasSome o
some_of None h e = absurd (cc e)
some_of (Some x) h e = tt

module _ (c : Contest) (ok : IsContest c) (sure : IsSureContest c) (offset den : ℕ) (num most : ℤ) (potential : ℕ → Option ℤ)
    (p : ArePotentials c.opponent c.game offset num (pos den) potential) (below : AreAtMost c potential most) where
  abbrev b : Automaton
  b = c.opponent

  abbrev gap : ℕ → ℕ
  gap row = gap_of most (potential row)

  abbrev IsOn : ℕ → Type 0
  IsOn row = (row < rows c) × HasSome (potential row)

  stepped-inside : (row : ℕ) (move : Move) → row < rows c → step b row move < rows c
  stepped-inside row move h = ok.automaton.closed row (sure_move b row) move h

  -- the potential after a move, by what the definition says of it
  record IsStepped (row : ℕ) (h : ℤ) (move : Move) : Type 0 where
    after : ℤ
    is : potential (step b row move) ≡ Some after
    high : (h +ℤ pos (den * pay c.game move (sure_move b row))) ≤ℤ (after +ℤ (num +ℤ pos (den * offset)))

  by_step : (row : ℕ) (h : ℤ) (move : Move) (o : Option ℤ) → potential (step b row move) ≡ o →
      StepsUp o ((h +ℤ pos den *ℤ step_pay b c.game offset row move) -ℤ num) → IsStepped row h move
  by_step row h move None e s = absurd s
  by_step row h move (Some x) e s = record {
    after = x;
    is = e;
    high = omega (arith, ints, s, pos-less den (pay c.game move (sure_move b row)) offset);
  }

  stepped : (row : ℕ) (h : ℤ) (move : Move) → potential row ≡ Some h → IsStepped row h move
  stepped row h move e = by_step row h move (potential (step b row move)) refl (p.steps row h move e)

  on_step : (row : ℕ) (move : Move) (o : Option ℤ) → potential row ≡ o → HasSome o → row < rows c → IsOn (step b row move)
  on_step row move None e s inside = absurd s
  on_step row move (Some h) e s inside =
      let t = stepped row h move e in
      (stepped-inside row move inside, some_of (potential (step b row move)) t.after t.is)

  gap_step : (r : ℕ) → num +ℤ pos (den * offset) ≡ pos r → (row : ℕ) (move : Move) (o : Option ℤ) → potential row ≡ o → HasSome o → row < rows c →
      pay c.game move (sure_move b row) * den + gap (step b row move) ≤ gap row + r
  gap_step r e row move None is s inside = absurd s
  gap_step r e row move (Some h) is s inside =
      let t = stepped row h move is in
      let here : pos (gap row) ≡ most -ℤ h = ap (λ o. pos (gap_of most o)) is ∙ gap_is most h (below.each row h inside is) in
      let there : pos (gap (step b row move)) ≡ most -ℤ t.after = ap (λ o. pos (gap_of most o)) t.is
      ∙ gap_is most t.after (below.each (step b row move) t.after (stepped-inside row move inside) t.is) in
      omega (arith, ints, here, there, t.high, e)

  abbrev upper : ℕ → ℕ → ℕ → ℕ
  upper r t row = r * t + gap row

  term : (a s x m : ℕ) → (s ≡ 0) ⊎ (x ≤ m) → a * s * x ≤ a * s * m
  term a s x m h = elim h [ inl e ↦ rw e (omega arith) | inr l ↦ mul-le-mul_left (a * s) l ]

  -- a play that can be seen leads to a row with a potential, and the gaps hold there
  seen : (row : ℕ) (play : Play) → row < rows c → (shown c.noise b.den (weight_at b row) play.theirs ≡ 0) ⊎ (play.theirs ≡ sure_move b row)
  seen row play inside = shows b c.noise row play.theirs ok.automaton.some sure.still (sure.sure row inside)

  closed : (row : ℕ) (play : Play) → IsOn row → (shown c.noise b.den (weight_at b row) play.theirs ≡ 0) ⊎ IsOn (next_row b row (turned_play play))
  closed row play h = elim (seen row play h.0) [
    | inl e ↦ inl e
    | inr e ↦ inr (subst (λ m. IsOn (next_row b row (record { mine = m; theirs = play.mine }))) (sym e) (on_step row play.mine (potential row) refl h.1 h.0))
  ]

  above : (r : ℕ) → num +ℤ pos (den * offset) ≡ pos r → (t row : ℕ) (move : Move) → IsOn row → worth c den (upper r t) row move ≤ upper r (suc t) row * one_play c
  above r e t row move h =
      let top = upper r (suc t) row in
      let next : Play → ℕ = λ play. next_row b row (turned_play play) in
      let f : Play → ℕ = λ play. seen_as c.own_noise move play.mine * shown c.noise b.den (weight_at b row) play.theirs in
      let fits : (play : Play) → play.theirs ≡ sure_move b row → pay c.game play.mine play.theirs * den + upper r t (next play) ≤ top = λ play is.
      (let g : pay c.game play.mine (sure_move b row) * den + gap (step b row play.mine) ≤ gap row + r = gap_step r e row play.mine (potential row) refl h.1 h.0 in
      let g2 : pay c.game play.mine play.theirs * den + gap (next play) ≤ gap row + r =
      subst (λ m. pay c.game play.mine m * den + gap (next_row b row (record { mine = m; theirs = play.mine })) ≤ gap row + r) (sym is) g in
      omega (arith, g2)) in
      let each : (play : Play) → f play * (pay c.game play.mine play.theirs * den + upper r t (next play)) ≤ f play * top = λ play.
      term (seen_as c.own_noise move play.mine) (shown c.noise b.den (weight_at b row) play.theirs) (pay c.game play.mine play.theirs * den + upper r t (next play)) top
      (elim (seen row play h.0) [ inl none ↦ inl none | inr is ↦ inr (fits play is) ]) in
      rw (← whole_of c ok row move top h.0) (over_plays-le _ _ each)

  -- with a mean below 0 potentials would rise without end
  record IsClimbed (first : ℤ) (k : ℕ) : Type 0 where
    row : ℕ
    h : ℤ
    inside : row < rows c
    is : potential row ≡ Some h
    high : (first +ℤ pos k) ≤ℤ h

  climbed : (j : ℕ) → num +ℤ pos (den * offset) ≡ negsuc j → (first : ℤ) → potential b.start ≡ Some first → (k : ℕ) → IsClimbed first k
  climbed j e first starts zero = record { row = b.start; h = first; inside = ok.automaton.started; is = starts; high = omega (arith, ints) }
  climbed j e first starts (suc k) =
      let l = climbed j e first starts k in
      let t = stepped l.row l.h C l.is in
      record { row = step b l.row C; h = t.after; inside = stepped-inside l.row C l.inside; is = t.is; high = omega (arith, ints, l.high, t.high, e) }

  never : (j : ℕ) → num +ℤ pos (den * offset) ≡ negsuc j → (first : ℤ) → potential b.start ≡ Some first → ⊥
  never j e first starts =
      let gap₀ : pos (magnitude (most -ℤ first)) ≡ most -ℤ first = gap_is most first (below.each b.start first ok.automaton.started starts) in
      let l = climbed j e first starts (suc (magnitude (most -ℤ first))) in
      let bound : l.h ≤ℤ most = below.each l.row l.h l.inside l.is in
      omega (arith, ints, gap₀, l.high, bound)

  starts_on : (first : ℤ) → potential b.start ≡ Some first → IsOn b.start
  starts_on first starts = (ok.automaton.started, some_of (potential b.start) first starts)

  bounded : MassesAddUp → AutomataAreWeighed → OffsetLowers → (r n : ℕ) → num +ℤ pos (den * offset) ≡ pos r → (first : ℤ) → potential b.start ≡ Some first →
      NoTreeExceeds c 0 n den (pos (upper r n b.start))
  bounded masses weighed lowers r n e first starts =
      uppers_bound_where masses weighed IsOn c ok den n (upper r)
      (record { inside = λ row h. h.0; closed = closed; above = λ t row move in_time h. above r e t row move h })
      lowers (starts_on first starts)

  upper_is : (r n : ℕ) → num +ℤ pos (den * offset) ≡ pos r → (first : ℤ) → potential b.start ≡ Some first →
      pos (upper r n b.start) -ℤ pos (offset * n * den) ≡ (num *ℤ pos n +ℤ most) -ℤ first
  upper_is r n e first starts =
      let g : pos (gap b.start) ≡ most -ℤ first = ap (λ o. pos (gap_of most o)) starts ∙ gap_is most first (below.each b.start first ok.automaton.started starts) in
      let back : num ≡ pos r -ℤ pos (den * offset) = omega (arith, ints, e) in
      let times : num *ℤ pos n ≡ pos (r * n) -ℤ pos (den * offset * n) =
      ap (λ x. x *ℤ pos n) back ∙ less-pos r (den * offset) n in
      omega (arith, ints, g, times)

  by_sign : MassesAddUp → AutomataAreWeighed → OffsetLowers → BoundsAreLowered → (n : ℕ) (raised : ℤ) → num +ℤ pos (den * offset) ≡ raised → (first : ℤ) →
      potential b.start ≡ Some first → NoTreeExceeds c offset n den ((num *ℤ pos n +ℤ most) -ℤ first)
  by_sign masses weighed lowers bounds n (pos r) e first starts =
      subst (NoTreeExceeds c offset n den) (upper_is r n e first starts)
      ((bounds c (λ t row. C) offset n den (pos 0) (pos (upper r n b.start)) ok).exceeds (bounded masses weighed lowers r n e first starts))
  by_sign masses weighed lowers bounds n (negsuc j) e first starts = absurd (never j e first starts)

pub potentials_bound_trees_lem : MassesAddUp → AutomataAreWeighed → OffsetLowers → BoundsAreLowered → PotentialsBoundTrees
potentials_bound_trees_lem masses weighed lowers bounds c offset n den num most first potential ok sure p starts below =
    by_sign c ok sure offset den num most potential p below masses weighed lowers bounds n (num +ℤ pos (den * offset)) refl first starts
