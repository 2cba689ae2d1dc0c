-- Noise, the weight of a history, and expected scores as sums over all histories.
use Rattle.std.specs.Prelude.{ℕ, zero, suc, ◌+◌, ◌-◌, ◌*◌, ◌^◌, ◌≡◌, ◌≤◌, ◌<◌, ℤ, pos, ◌+ℤ◌, ◌-ℤ◌, ◌*ℤ◌, [], ◌∷◌, ◌++◌, fold, length}
use Rattle.history_model.specs.declared.moves.Move.{Move}
use Rattle.history_model.specs.declared.moves.Move.TheVariants.{C, D}
use Rattle.history_model.specs.declared.moves.Play.{Play}
use Rattle.history_model.specs.Game.{Payoffs, pay}
use Rattle.history_model.specs.Noise.{FlipRate, IsFlipRate}
use Rattle.history_model.specs.Automaton.{Automaton, IsAutomaton, weight_at, next_row}
use Rattle.history_model.specs.History.{History, turned_play, turned, points, score}

-- how a player chooses: the weight of C after each history, over one denominator
pub record Chooser : Type 0 where
  pub den : ℕ
  pub weight : History → ℕ

-- no weight is above the denominator
pub record IsWeighed (a : Chooser) : Type 0 where
  pub within : (history : History) → a.weight history ≤ a.den

-- a player that moves from state to state: the chooser of a start state
abbrev pub chooser_of : {S : Type 0} → ℕ → (S → ℕ) → (S → Play → S) → S → Chooser
chooser_of den weight next state = record { den = den; weight = λ history. weight (fold next state history) }

-- an automaton as a player, from a row and from its start
abbrev pub player_from : Automaton → ℕ → Chooser
player_from a row = chooser_of a.den (weight_at a) (next_row a) row

abbrev pub player : Automaton → Chooser
player a = player_from a a.start

-- the weight over den * e with which a player of weight w over den shows a move, where noise n / e flips it
abbrev pub shown : FlipRate → ℕ → ℕ → Move → ℕ
shown noise den w C = w * (noise.e - noise.n) + (den - w) * noise.n
shown noise den w D = w * noise.n + (den - w) * (noise.e - noise.n)

-- the weight of one play after the plays `before`
abbrev pub factor : Chooser → FlipRate → Chooser → FlipRate → History → Play → ℕ
factor a na b nb before play =
    shown na a.den (a.weight before) play.mine * shown nb b.den (b.weight (turned before)) play.theirs

-- the denominator of one play
abbrev pub quotient : Chooser → FlipRate → Chooser → FlipRate → ℕ
quotient a na b nb = (a.den * na.e) * (b.den * nb.e)

-- the weight of the plays of a history after the plays `before`: a product with two factors a play
abbrev pub mass_after : Chooser → FlipRate → Chooser → FlipRate → History → History → ℕ
mass_after a na b nb before [] = 1
mass_after a na b nb before (play ∷ rest) = factor a na b nb before play * mass_after a na b nb (before ++ play ∷ []) rest

-- the weight of a history, over the n-th power of the denominator of one play
abbrev pub mass : Chooser → FlipRate → Chooser → FlipRate → History → ℕ
mass a na b nb history = mass_after a na b nb [] history

-- a number for each of the four plays, added up
abbrev pub over_plays : (Play → ℕ) → ℕ
over_plays f =
    f (record { mine = C; theirs = C }) + f (record { mine = C; theirs = D })
    + f (record { mine = D; theirs = C }) + f (record { mine = D; theirs = D })

-- a number for each of the 4 ^ n histories of n plays, added up
abbrev pub over_histories : ℕ → (History → ℕ) → ℕ
over_histories zero f = f []
over_histories (suc n) f = over_plays (λ play. over_histories n (λ rest. f (play ∷ rest)))

-- the same for numbers of either sign
abbrev pub signed_over_plays : (Play → ℤ) → ℤ
signed_over_plays f =
    f (record { mine = C; theirs = C }) +ℤ f (record { mine = C; theirs = D })
    +ℤ f (record { mine = D; theirs = C }) +ℤ f (record { mine = D; theirs = D })

abbrev pub signed_over_histories : ℕ → (History → ℤ) → ℤ
signed_over_histories zero f = f []
signed_over_histories (suc n) f = signed_over_plays (λ play. signed_over_histories n (λ rest. f (play ∷ rest)))

-- the expected score of a over n plays, where each payoff is less by the offset, times the n-th power of the denominator
abbrev pub expectation : Chooser → FlipRate → Chooser → FlipRate → Payoffs → ℕ → ℕ → ℤ
expectation a na b nb game offset n =
    signed_over_histories n (λ history. pos (mass a na b nb history) *ℤ score game offset history)

-- the same without an offset, as a natural number
abbrev pub expected_points : Chooser → FlipRate → Chooser → FlipRate → Payoffs → ℕ → ℕ
expected_points a na b nb game n = over_histories n (λ history. mass a na b nb history * points game history)

-- the law: the weights of all histories of n plays add up to the power of the denominator
abbrev pub MassesAddUp : Type 0
MassesAddUp =
    (a : Chooser) (na : FlipRate) (b : Chooser) (nb : FlipRate) (n : ℕ) → IsWeighed a → IsFlipRate na → IsWeighed b → IsFlipRate nb →
    over_histories n (mass a na b nb) ≡ quotient a na b nb ^ n

-- the law: an offset lowers the expectation by offset * n times the power of the denominator
abbrev pub OffsetLowers : Type 0
OffsetLowers =
    (a : Chooser) (na : FlipRate) (b : Chooser) (nb : FlipRate) (game : Payoffs) (offset n : ℕ)
    → IsWeighed a → IsFlipRate na → IsWeighed b → IsFlipRate nb →
    expectation a na b nb game offset n
    ≡ pos (expected_points a na b nb game n) -ℤ pos (offset * n * quotient a na b nb ^ n)

-- the law: an automaton chooses by weights up to its denominator
abbrev pub AutomataAreWeighed : Type 0
AutomataAreWeighed = (a : Automaton) (row : ℕ) → IsAutomaton a → row < length a.rows → IsWeighed (player_from a row)

-- the expected points from a pair of rows, by the first play
abbrev pub expected_by_rows : Automaton → FlipRate → Automaton → FlipRate → Payoffs → ℕ → ℕ → ℕ → ℕ
expected_by_rows a na b nb game zero u v = 0
expected_by_rows a na b nb game (suc n) u v =
    over_plays (λ play. shown na a.den (weight_at a u) play.mine * shown nb b.den (weight_at b v) play.theirs
    * (pay game play.mine play.theirs * ((a.den * na.e) * (b.den * nb.e)) ^ n
    + expected_by_rows a na b nb game n (next_row a u play) (next_row b v (turned_play play))))

-- the law: the sum over all histories is the recursion over pairs of rows
abbrev pub HistoriesAgreeWithRows : Type 0
HistoriesAgreeWithRows =
    (a : Automaton) (na : FlipRate) (b : Automaton) (nb : FlipRate) (game : Payoffs) (n u v : ℕ)
    → IsAutomaton a → IsFlipRate na → IsAutomaton b → IsFlipRate nb → u < length a.rows → v < length b.rows →
    expected_points (player_from a u) na (player_from b v) nb game n ≡ expected_by_rows a na b nb game n u v

-- the payoffs to the other player
abbrev pub turned_game : Payoffs → Payoffs
turned_game game = record { r = game.r; s = game.t; t = game.s; p = game.p }

-- the law: what the second player expects is what the first expects of the payoffs to the other
abbrev pub SidesAreAlike : Type 0
SidesAreAlike =
    (a : Automaton) (na : FlipRate) (b : Automaton) (nb : FlipRate) (game : Payoffs) (n u v : ℕ) →
    expected_by_rows b nb a na game n v u ≡ expected_by_rows a na b nb (turned_game game) n u v

-- the same denominator, and the same weight after each history
pub record ChooseAlike (a c : Chooser) : Type 0 where
  pub den : a.den ≡ c.den
  pub weight : (history : History) → a.weight history ≡ c.weight history

-- the law: what is expected rests on nothing but the weights after each history
abbrev pub WeightsDecide : Type 0
WeightsDecide =
    (a c : Chooser) (na : FlipRate) (b d : Chooser) (nb : FlipRate) (game : Payoffs) (offset n : ℕ) → ChooseAlike a c → ChooseAlike b d →
    expectation a na b nb game offset n ≡ expectation c na d nb game offset n
