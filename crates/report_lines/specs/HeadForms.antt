-- The lines of a report's head, each behind its word.
use Rattle.std.specs.Prelude.{ℕ, ◌==◌, ◌&&◌, ◌||◌, Bool, true, false, pos, ◌+ℤ◌, ◌*ℤ◌, int_lt, List, Option}
use Rattle.texts.specs.Forms.{Form, ◌and◌, shaped, only}
use Rattle.report_lines.specs.declared.line.Kind.{Kind}
use Rattle.report_lines.specs.declared.line.Kind.TheVariants as kinds
use Rattle.report_lines.specs.declared.line.ShownHead.{ShownHead}
use Rattle.report_lines.specs.declared.line.ShownGame.{ShownGame}
use Rattle.report_lines.specs.declared.line.ShownOwn.{ShownOwn}
use Rattle.report_lines.specs.Fields.{a_name, a_count, a_kind, a_payoff, a_dilemma, a_noise}

-- a report of this kind may be of version 2
abbrev pub has_two : Kind → Bool
has_two kinds.Match = true
has_two kinds.Tournament = true
has_two kinds.Drill = false

-- the version is 1, or 2 where the kind has it
abbrev pub is_version : ShownHead → Bool
is_version x = x.version == 1 || (x.version == 2 && has_two x.kind)

-- the version, and what the report is of
abbrev pub head_form : Form ShownHead
head_form = only is_version (shaped (λ x. (x.version, x.kind)) (λ p. record { version = p.0; kind = p.1 }) (a_count and a_kind))

abbrev pub is_head : ShownHead → Bool
is_head x = head_form.is_in x

unfoldable pub head_of : List ℕ → Option ShownHead
head_of t = head_form.read t

-- T > R > P > S and 2R > T + S
abbrev pub is_dilemma : ShownGame → Bool
is_dilemma game =
    (int_lt game.r game.t && int_lt game.p game.r) && (int_lt game.s game.p && int_lt (game.t +ℤ game.s) (pos 2 *ℤ game.r))

-- the payoffs, and whether they make a prisoner's dilemma
abbrev pub game_form : Form ShownGame
game_form =
    shaped (λ x. (x.r, (x.s, (x.t, (x.p, is_dilemma x)))))
    (λ p. record { r = p.0; s = p.1.0; t = p.1.1.0; p = p.1.1.1.0 })
    (a_payoff and a_payoff and a_payoff and a_payoff and a_dilemma)

abbrev pub is_game : ShownGame → Bool
is_game x = game_form.is_in x

unfoldable pub game_of : List ℕ → Option ShownGame
game_of t = game_form.read t

-- the name of an entry, and its noise
abbrev pub own_form : Form ShownOwn
own_form = shaped (λ x. (x.name, x.noise)) (λ p. record { name = p.0; noise = p.1 }) (a_name and a_noise)

abbrev pub is_own : ShownOwn → Bool
is_own x = own_form.is_in x

unfoldable pub own_of : List ℕ → Option ShownOwn
own_of t = own_form.read t
