-- Contestants stay what they are while a bench keeps its plugs, and their matches add up.
use Rattle.std.proofs.Common.{◌≡◌, Bool, ℕ, ◌+◌, ◌<◌, ◌≤◌, IsTrue, ◌↔◌, List, [], ◌∷◌, ◌++◌, length, take, refl, sym, ◌∙◌, ap, subst, arith}
use Rattle.std.specs.List.{All}
use Rattle.std.proofs.lemmas.List.{length-map, map-append, take_all, take_more}
use Rattle.std.proofs.lemmas.List.Elements.{All-push, All-weaker}
use Rattle.history_model.specs.Automaton.{Automaton}
use Rattle.history_model.specs.Game.{Payoffs}
use Rattle.player_core.specs.State.{BenchState, Lasting, PlayerState, lasting_of}
use Rattle.player_core.specs.Sheet.{SheetData}
use Rattle.player_core.specs.Fits.{SidesFit}
use Rattle.player_core.specs.Bench.{KeepsBench, KeepsPlugs, NoAdvancesFell}
use Rattle.player_core.specs.Counts.{turns_of}
use Rattle.player_core.specs.Laws.{EntriesPlay, KeepingLasts}
use Rattle.match_play.specs.Known.{IsKnown}
use Rattle.result_lines.specs.declared.line.MatchLine.{MatchLine}
use Rattle.sheet_rules.specs.declared.contestant.Contestant.{Contestant}
use Rattle.history_model.specs.Noise.{FlipRate}
use Rattle.player_core.specs.Entry.{entry_automaton}
use Rattle.round_robin.specs.Asked.{Turns, AreAsked, AtMostTurns, IsAsked, PairAsked, most_advances, most_for, most_of}
use Rattle.round_robin.specs.Contest.{AreFewTurns, AreTold, IsContestant, IsPair, IsSurePair, Strategy, pair_at, strategies_of, strategy_at, strategy_of}
use Rattle.result_lines.specs.Totals.{HasScores}
use Rattle.round_robin.specs.Totals.{AreLines, IsLineBetween}
use Rattle.round_robin.proofs.AskingAll.{asked_more, most_stopped, none_asked, pair_asked, pair_at_most}

-- ---- a bench that keeps its plugs

pub known_kept : (old new : List Lasting) (sheet : SheetData) → KeepsPlugs old new → IsKnown old sheet → IsKnown new sheet
known_kept old new sheet keeps known absent = known (record {
  plug = absent.plug;
  none = λ k low inside named.
      absent.none k low (omega (arith, inside, keeps.length_is)) ((keeps.places k inside).name ∙ named);
})

module _ (law : EntriesPlay) (left right left_now : List Lasting) (fits : SidesFit left right) (keeps : KeepsPlugs left left_now) where
  strategy_kept : (c : Contestant) → strategy_of left_now c ≡ strategy_of left c
  strategy_kept c =
      ap (λ (a : Automaton). record { automaton = a; noise = c.noise.now }) (law.kept left right left_now c.sheet.now fits keeps)

  pub strategies_kept : (contestants : List Contestant) → strategies_of left_now contestants ≡ strategies_of left contestants
  strategies_kept [] = refl
  strategies_kept (c ∷ cs) =
      ap (λ s. s ∷ strategies_of left_now cs) (strategy_kept c) ∙ ap (λ ss. strategy_of left c ∷ ss) (strategies_kept cs)

pub contestants_kept : (left left_now : List Lasting) → KeepsPlugs left left_now → (contestants : List Contestant)
    → All (IsContestant left) contestants → All (IsContestant left_now) contestants
contestants_kept left left_now keeps contestants are =
    All-weaker (IsContestant left) (IsContestant left_now) (λ c is. known_kept left left_now c.sheet.now keeps is) contestants are

-- a bench that keeps its plugs twice keeps them
pub bench_kept : KeepingLasts → (old mid new : BenchState) → KeepsBench old mid → KeepsBench mid new → KeepsBench old new
bench_kept keeping old mid new first second = record {
  fits = second.fits;
  left_kept = keeping.both _ _ _ first.left_kept second.left_kept;
  right_kept = keeping.both _ _ _ first.right_kept second.right_kept;
}

-- ---- match after match

-- the matches of the first k pairs, on a bench that began with these states
pub record ArePlayed (contestants : List Contestant) (game : Payoffs) (turns : ℕ) (pairs : List (ℕ × ℕ)) (k : ℕ) (lines : List MatchLine) (left right left_now right_now : List PlayerState) : Type 0 where
  pub left_kept : KeepsPlugs (lasting_of left) (lasting_of left_now)
  pub right_kept : KeepsPlugs (lasting_of right) (lasting_of right_now)
  pub lines_are : AreLines (strategies_of (lasting_of left) contestants) game turns (take k pairs) lines
  pub scores : All HasScores lines
  pub asked : AreAsked (strategies_of (lasting_of left) contestants) turns (take k pairs)
      (record { left = turns_of left; right = turns_of right }) (record { left = turns_of left_now; right = turns_of right_now })

-- what a match asks for, from the two sides as they were read
pub pair_asked_on : (players right : List Lasting) (contestants : List Contestant) (pair : ℕ × ℕ) (turns : ℕ) (left_sheet right_sheet : SheetData) (left_noise right_noise : FlipRate) (sure : Bool) (before now : Turns)
    → SidesFit players right
    → ((players : List Lasting) → strategy_at (strategies_of players contestants) pair.0 ≡ record { automaton = entry_automaton players left_sheet; noise = left_noise })
    → ((players : List Lasting) → strategy_at (strategies_of players contestants) pair.1 ≡ record { automaton = entry_automaton players right_sheet; noise = right_noise })
    → (IsTrue sure ↔ IsSurePair (strategies_of players contestants) pair)
    → IsAsked (entry_automaton players left_sheet) left_noise (entry_automaton players right_sheet) right_noise turns before now
    → PairAsked (strategies_of players contestants) turns pair before now
pair_asked_on players right contestants pair turns left_sheet right_sheet left_noise right_noise sure before now fits left_is right_is tells asked =
    pair_asked (strategies_of players contestants) pair turns _ _ sure before now (left_is players) (right_is players) tells asked

-- and takes at most
pub pair_at_most_on : (players right : List Lasting) (contestants : List Contestant) (pair : ℕ × ℕ) (left_sheet right_sheet : SheetData) (left_noise right_noise : FlipRate) (before now : Turns)
    → SidesFit players right
    → ((players : List Lasting) → strategy_at (strategies_of players contestants) pair.0 ≡ record { automaton = entry_automaton players left_sheet; noise = left_noise })
    → ((players : List Lasting) → strategy_at (strategies_of players contestants) pair.1 ≡ record { automaton = entry_automaton players right_sheet; noise = right_noise })
    → AtMostTurns (most_advances (entry_automaton players left_sheet) (entry_automaton players right_sheet)) before now
    → AtMostTurns (most_of (strategies_of players contestants) pair) before now
pair_at_most_on players right contestants pair left_sheet right_sheet left_noise right_noise before now fits left_is right_is few =
    pair_at_most (strategies_of players contestants) pair _ _ before now (left_is players) (right_is players) few

-- before the first match
pub none_played : KeepingLasts → (contestants : List Contestant) (game : Payoffs) (turns : ℕ) (pairs : List (ℕ × ℕ)) (left right : List PlayerState)
    → ArePlayed contestants game turns pairs 0 [] left right left right
none_played keeping contestants game turns pairs left right = record {
  left_kept = keeping.none (lasting_of left);
  right_kept = keeping.none (lasting_of right);
  lines_are = record { places = refl; each = λ k d inside. absurd (omega (arith, inside)) };
  scores = λ k d inside. absurd (omega (arith, inside));
  asked = none_asked (strategies_of (lasting_of left) contestants) turns (record { left = turns_of left; right = turns_of right });
}

pair_is : (p q : ℕ × ℕ) → p.0 ≡ q.0 → p.1 ≡ q.1 → p ≡ q
pair_is p q first second = ap (λ (x : ℕ). (x, p.1)) first ∙ ap (λ (y : ℕ). (q.0, y)) second

-- a line behind the others
lines_more : (strategies : List Strategy) (game : Payoffs) (turns k : ℕ) (pairs : List (ℕ × ℕ)) (lines : List MatchLine) (line : MatchLine)
    → k < length pairs → line.left ≡ (pair_at pairs k).0 → line.right ≡ (pair_at pairs k).1
    → AreLines strategies game turns (take k pairs) lines → IsLineBetween strategies game turns line
    → AreLines strategies game turns (take (k + 1) pairs) (lines ++ line ∷ [])
lines_more strategies game turns k pairs lines line inside left right so_far is = record {
  places = map-append (λ (l : MatchLine). (l.left, l.right)) lines (line ∷ [])
      ∙ ap (λ (ps : List (ℕ × ℕ)). ps ++ (line.left, line.right) ∷ []) so_far.places
      ∙ ap (λ (p : ℕ × ℕ). take k pairs ++ p ∷ []) (pair_is (line.left, line.right) (pair_at pairs k) left right)
      ∙ sym (take_more pairs k (0, 0) inside);
  each = All-push (IsLineBetween strategies game turns) lines line so_far.each is;
}

-- what a match of a pair brings, where the sides come from the first states to the second
pub record IsPlayedOn (contestants : List Contestant) (game : Payoffs) (turns : ℕ) (pair : ℕ × ℕ) (line : MatchLine) (left right left_new right_new : List PlayerState) : Type 0 where
  pub left_kept : KeepsPlugs (lasting_of left) (lasting_of left_new)
  pub right_kept : KeepsPlugs (lasting_of right) (lasting_of right_new)
  pub line_is : IsLineBetween (strategies_of (lasting_of left) contestants) game turns line
  pub left_place : line.left ≡ pair.0
  pub right_place : line.right ≡ pair.1
  pub scores : HasScores line
  pub asked : PairAsked (strategies_of (lasting_of left) contestants) turns pair
      (record { left = turns_of left; right = turns_of right }) (record { left = turns_of left_new; right = turns_of right_new })
  pub fell : NoAdvancesFell (record { left = left; right = right }) (record { left = left_new; right = right_new })

pub played_more : KeepingLasts → EntriesPlay → (contestants : List Contestant) (game : Payoffs) (turns k : ℕ) (pairs : List (ℕ × ℕ)) (lines more : List MatchLine) (line : MatchLine) (left right left_now right_now left_new right_new : List PlayerState)
    → SidesFit (lasting_of left) (lasting_of right) → k < length pairs → more ≡ lines ++ line ∷ []
    → ArePlayed contestants game turns pairs k lines left right left_now right_now
    → IsPlayedOn contestants game turns (pair_at pairs k) line left_now right_now left_new right_new
    → ArePlayed contestants game turns pairs (k + 1) more left right left_new right_new
played_more keeping law contestants game turns k pairs lines more line left right left_now right_now left_new right_new fits inside pushed so_far on =
    let strategies = strategies_of (lasting_of left) contestants in
    let same = strategies_kept law (lasting_of left) (lasting_of right) (lasting_of left_now) fits so_far.left_kept contestants in
    let first : Turns = record { left = turns_of left; right = turns_of right } in
    let before : Turns = record { left = turns_of left_now; right = turns_of right_now } in
    let now : Turns = record { left = turns_of left_new; right = turns_of right_new } in
    let P : List Strategy → Type 0 = λ ss. IsLineBetween ss game turns line in
    let Q : List Strategy → Type 0 = λ ss. PairAsked ss turns (pair_at pairs k) before now in
    let S : List MatchLine → Type 0 = λ ls. ArePlayed contestants game turns pairs (k + 1) ls left right left_new right_new in
    subst S (sym pushed) (record {
      left_kept = keeping.both _ _ _ so_far.left_kept on.left_kept;
      right_kept = keeping.both _ _ _ so_far.right_kept on.right_kept;
      lines_are = lines_more strategies game turns k pairs lines line inside on.left_place on.right_place so_far.lines_are (subst P same on.line_is);
      scores = All-push HasScores lines line so_far.scores on.scores;
      asked = asked_more strategies turns k pairs first before now inside so_far.asked (subst Q same on.asked) on.fell.left on.fell.right;
    })

-- the matches made no more advances than all take at most, where one was cut short
pub stopped_at_most : EntriesPlay → (contestants : List Contestant) (game : Payoffs) (turns k : ℕ) (pairs : List (ℕ × ℕ)) (lines : List MatchLine) (left right left_now right_now left_new right_new : List PlayerState)
    → SidesFit (lasting_of left) (lasting_of right) → k < length pairs → ArePlayed contestants game turns pairs k lines left right left_now right_now
    → AtMostTurns (most_of (strategies_of (lasting_of left_now) contestants) (pair_at pairs k))
    (record { left = turns_of left_now; right = turns_of right_now }) (record { left = turns_of left_new; right = turns_of right_new })
    → AtMostTurns (most_for (strategies_of (lasting_of left) contestants) pairs)
    (record { left = turns_of left; right = turns_of right }) (record { left = turns_of left_new; right = turns_of right_new })
stopped_at_most law contestants game turns k pairs lines left right left_now right_now left_new right_new fits inside so_far here =
    let same = strategies_kept law (lasting_of left) (lasting_of right) (lasting_of left_now) fits so_far.left_kept contestants in
    let before : Turns = record { left = turns_of left_now; right = turns_of right_now } in
    let now : Turns = record { left = turns_of left_new; right = turns_of right_new } in
    let P : List Strategy → Type 0 = λ ss. AtMostTurns (most_of ss (pair_at pairs k)) before now in
    most_stopped (strategies_of (lasting_of left) contestants) pairs k _ before now inside so_far.asked.most (subst P same here)

-- what is told of a pair is told on the bench as it is now
pub told_kept : EntriesPlay → (contestants : List Contestant) (both : Bool) (sure : List Bool) (k : ℕ) (pairs : List (ℕ × ℕ)) (left right left_now : List Lasting)
    → SidesFit left right → KeepsPlugs left left_now → k < length pairs → All (IsPair (length contestants)) pairs
    → AreTold (strategies_of left contestants) sure
    → ((strategies : List Strategy) → AreTold strategies sure → IsPair (length strategies) (pair_at pairs k) → IsTrue both ↔ IsSurePair strategies (pair_at pairs k))
    → IsTrue both ↔ IsSurePair (strategies_of left_now contestants) (pair_at pairs k)
told_kept law contestants both sure k pairs left right left_now fits keeps inside are told tells =
    let P : List Strategy → Type 0 = λ ss. IsTrue both ↔ IsSurePair ss (pair_at pairs k) in
    let Q : ℕ → Type 0 = λ n. IsPair n (pair_at pairs k) in
    let pair = subst Q (sym (length-map contestants (strategy_of left))) (are k (0, 0) inside) in
    subst P (sym (strategies_kept law left right left_now fits keeps contestants)) (tells (strategies_of left contestants) told pair)

-- a pair of contestants is one of what is told
pub pair_told : (players right : List Lasting) (contestants : List Contestant) (sure : List Bool) (k : ℕ) (pairs : List (ℕ × ℕ)) → SidesFit players right → k < length pairs
    → All (IsPair (length contestants)) pairs → AreTold (strategies_of players contestants) sure → IsPair (length sure) (pair_at pairs k)
pair_told players right contestants sure k pairs fits inside are told =
    let pair = are k (0, 0) inside in
    record { ordered = pair.ordered; inside = omega (arith, pair.inside, told.whole, length-map contestants (strategy_of players)) }

-- the turns of a pair are few on the bench as it is now
pub few_turns_kept : EntriesPlay → (contestants : List Contestant) (turns k : ℕ) (pairs : List (ℕ × ℕ)) (left right left_now : List Lasting)
    → SidesFit left right → KeepsPlugs left left_now → k < length pairs
    → All (AreFewTurns (strategies_of left contestants) turns) pairs → AreFewTurns (strategies_of left_now contestants) turns (pair_at pairs k)
few_turns_kept law contestants turns k pairs left right left_now fits keeps inside few =
    let P : List Strategy → Type 0 = λ ss. AreFewTurns ss turns (pair_at pairs k) in
    subst P (sym (strategies_kept law left right left_now fits keeps contestants)) (few k (0, 0) inside)

-- behind the last match
pub all_asked : (contestants : List Contestant) (game : Payoffs) (turns k : ℕ) (pairs : List (ℕ × ℕ)) (lines : List MatchLine) (left right left_now right_now : List PlayerState)
    → length pairs ≤ k → ArePlayed contestants game turns pairs k lines left right left_now right_now
    → AreAsked (strategies_of (lasting_of left) contestants) turns pairs
    (record { left = turns_of left; right = turns_of right }) (record { left = turns_of left_now; right = turns_of right_now })
all_asked contestants game turns k pairs lines left right left_now right_now done played =
    let P : List (ℕ × ℕ) → Type 0 = λ ps. AreAsked (strategies_of (lasting_of left) contestants) turns ps
    (record { left = turns_of left; right = turns_of right }) (record { left = turns_of left_now; right = turns_of right_now }) in
    subst P (take_all k pairs done) played.asked

pub all_at_most : (contestants : List Contestant) (game : Payoffs) (turns k : ℕ) (pairs : List (ℕ × ℕ)) (lines : List MatchLine) (left right left_now right_now : List PlayerState)
    → length pairs ≤ k → ArePlayed contestants game turns pairs k lines left right left_now right_now
    → AtMostTurns (most_for (strategies_of (lasting_of left) contestants) pairs)
    (record { left = turns_of left; right = turns_of right }) (record { left = turns_of left_now; right = turns_of right_now })
all_at_most contestants game turns k pairs lines left right left_now right_now done played =
    (all_asked contestants game turns k pairs lines left right left_now right_now done played).most
