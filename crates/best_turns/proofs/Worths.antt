-- What moves are worth: sums in the order of the code.
use Rattle.std.proofs.Common.{ℕ, ◌+◌, ◌*◌, ◌≡◌, ap, ◌∙◌, arith}
use Rattle.history_model.specs.declared.moves.Move.TheVariants.{C, D}
use Rattle.fixed_span.specs.Span.{score_units}
use Rattle.strategy_trees.specs.Contest.{Contest, worth}
use Rattle.best_turns.specs.declared.meeting.Stance.{Stance}
use Rattle.best_turns.specs.declared.meeting.Terms.{Terms}
use Rattle.best_turns.specs.Meeting.{IsStance, IsTerms}

apart : (k f a b x y z w : ℕ) → k * (a * x + b * y) + f * (a * z + b * w) ≡ k * a * x + k * b * y + f * a * z + f * b * w
apart k f a b x y z w = omega arith

turned_apart : (k f a b x y z w : ℕ) → k * (a * z + b * w) + f * (a * x + b * y) ≡ f * a * x + f * b * y + k * a * z + k * b * w
turned_apart k f a b x y z w = omega arith

module _ (c : Contest) (row : ℕ) (next : ℕ → ℕ) (s : Stance) (terms : Terms) (at : IsStance c row s) (is : IsTerms c terms) (if_c if_d : ℕ)
    (hc : if_c ≡ s.c * (terms.r + next s.cc) + s.d * (terms.s + next s.cd)) (hd : if_d ≡ s.c * (terms.t + next s.dc) + s.d * (terms.p + next s.dd)) where
  pub worth_of_c : terms.kept * if_c + terms.flipped * if_d ≡ worth c score_units next row C
  worth_of_c =
      ap (λ x. terms.kept * x + terms.flipped * if_d) hc
      ∙ ap (λ x. terms.kept * (s.c * (terms.r + next s.cc) + s.d * (terms.s + next s.cd)) + terms.flipped * x) hd
      ∙ apart terms.kept terms.flipped s.c s.d (terms.r + next s.cc) (terms.s + next s.cd) (terms.t + next s.dc) (terms.p + next s.dd)
      ∙ rw (is.kept, is.flipped, at.c_weight, at.d_weight, is.r, is.s, is.t, is.p, at.cc_next, at.cd_next, at.dc_next, at.dd_next)

  pub worth_of_d : terms.kept * if_d + terms.flipped * if_c ≡ worth c score_units next row D
  worth_of_d =
      ap (λ x. terms.kept * x + terms.flipped * if_c) hd
      ∙ ap (λ x. terms.kept * (s.c * (terms.t + next s.dc) + s.d * (terms.p + next s.dd)) + terms.flipped * x) hc
      ∙ turned_apart terms.kept terms.flipped s.c s.d (terms.r + next s.cc) (terms.s + next s.cd) (terms.t + next s.dc) (terms.p + next s.dd)
      ∙ rw (is.kept, is.flipped, at.c_weight, at.d_weight, is.r, is.s, is.t, is.p, at.cc_next, at.cd_next, at.dc_next, at.dd_next)
