-- What the responder meets, as data that is at hand in each turn.
use Rattle.std.specs.Prelude.{ℕ, ◌+◌, ◌-◌, ◌*◌, ◌^◌, ◌≡◌, ◌≤◌, ◌<◌, List, length, slice_index, slice_index_or}
use Rattle.history_model.specs.declared.moves.Move.TheVariants.{C, D}
use Rattle.history_model.specs.Game.{IsGame}
use Rattle.history_model.specs.Automaton.{weight_at, row_at, next_of}
use Rattle.history_model.specs.Expectation.{shown}
use Rattle.fixed_span.specs.Span.{score_units}
use Rattle.strategy_trees.specs.Contest.{Contest, contest, IsContest, rows, one_play}
use Rattle.best_turns.specs.declared.meeting.Meeting.{Meeting}
use Rattle.best_turns.specs.declared.meeting.Stance.{Stance}
use Rattle.best_turns.specs.declared.meeting.Terms.{Terms}
use Rattle.best_turns.specs.declared.meeting.Prepared.{Prepared}

abbrev pub met : Meeting → Contest
met m = contest m.own_noise.now m.opponent.now m.noise.now m.game.now

-- the weights with which the opponent is seen to play C and D at a row, and its next rows, by the responder's move first
pub record IsStance (c : Contest) (row : ℕ) (s : Stance) : Type 0 where
  pub c_weight : s.c ≡ shown c.noise c.opponent.den (weight_at c.opponent row) C
  pub d_weight : s.d ≡ shown c.noise c.opponent.den (weight_at c.opponent row) D
  pub few : s.c + s.d ≤ 1000000
  pub cc_next : s.cc ≡ next_of (row_at c.opponent row) C C
  pub cd_next : s.cd ≡ next_of (row_at c.opponent row) D C
  pub dc_next : s.dc ≡ next_of (row_at c.opponent row) C D
  pub dd_next : s.dd ≡ next_of (row_at c.opponent row) D D
  pub cc_row : s.cc < rows c
  pub cd_row : s.cd < rows c
  pub dc_row : s.dc < rows c
  pub dd_row : s.dd < rows c

pub record AreStances (c : Contest) (n : ℕ) (stances : List Stance) : Type 0 where
  pub size : length stances ≡ n
  pub each : (row : ℕ) (d : Stance) → row < n → IsStance c row (slice_index_or stances row d)

-- the weights with which the own move is kept and flipped, the payoffs in units, and the denominator of one play
pub record IsTerms (c : Contest) (terms : Terms) : Type 0 where
  pub kept : terms.kept ≡ c.own_noise.e - c.own_noise.n
  pub flipped : terms.flipped ≡ c.own_noise.n
  pub kept_few : terms.kept ≤ 1000
  pub flipped_few : terms.flipped ≤ 1000
  pub r : terms.r ≡ c.game.r * score_units
  pub s : terms.s ≡ c.game.s * score_units
  pub t : terms.t ≡ c.game.t * score_units
  pub p : terms.p ≡ c.game.p * score_units
  pub r_few : terms.r ≤ 10 ^ 18
  pub s_few : terms.s ≤ 10 ^ 18
  pub t_few : terms.t ≤ 10 ^ 18
  pub p_few : terms.p ≤ 10 ^ 18
  pub q : terms.q ≡ one_play c
  pub q_some : 1 ≤ terms.q
  pub q_few : terms.q ≤ 10 ^ 9

abbrev pub contest_of : Prepared → Contest
contest_of p = met p.meeting.now

pub record IsPrepared (p : Prepared) : Type 0 where
  pub contest : IsContest (contest_of p)
  pub game : IsGame (contest_of p).game
  pub terms : IsTerms (contest_of p) p.terms
  pub stances : AreStances (contest_of p) (rows (contest_of p)) p.stances.items

-- one number for each row, none above 10^22
pub record AreFew (c : Contest) (numbers : List ℕ) : Type 0 where
  pub size : length numbers ≡ rows c
  pub few : (row : ℕ) → row < rows c → slice_index numbers row ≤ 10 ^ 22
