-- What matches are paid can be shown.
use Rattle.std.proofs.Common.{◌≡◌, ℕ, ◌+◌, ◌*◌, ◌^◌, ◌<◌, ◌≤◌, true, pos, ◌-ℤ◌, arith}
use Rattle.std.specs.Prelude.{unsigned_abs}
use Rattle.std.proofs.Math.Nat.{mul-le-mul, mul-le-mul_right}
use Rattle.std.proofs.lemmas.Int.{ints}
use Rattle.history_model.specs.declared.tally.Tally.{Tally}
use Rattle.history_model.specs.Game.{Payoffs, IsGame}
use Rattle.history_model.specs.Tally.{total, left_points, right_points}
use Rattle.texts.specs.Cuts.{lacks}
use Rattle.rota_rows.specs.declared.row.RotaRow.{RotaRow}
use Rattle.rota_rows.specs.Lines.{AreScoresLine, RotaLinesAreExact}
use Rattle.checkpoint.specs.Texts.{score_line, score_of, shown_scores}

pay_few : (pay count : ℕ) → pay ≤ 1000000 → pay * count ≤ 1000000 * count
pay_few pay count few = mul-le-mul_right count few

points_few : (a b c d : ℕ) (tally : Tally) → a ≤ 1000000 → b ≤ 1000000 → c ≤ 1000000 → d ≤ 1000000 → total tally ≤ 10 ^ 12
    → a * tally.cc + b * tally.cd + c * tally.dc + d * tally.dd ≤ 10 ^ 18
points_few a b c d tally ha hb hc hd few =
    omega (arith, few, pay_few a tally.cc ha, pay_few b tally.cd hb, pay_few c tally.dc hc, pay_few d tally.dd hd)

between : (a b most : ℕ) → a ≤ most → b ≤ most → unsigned_abs (pos a -ℤ pos b) ≤ most
between a b most ha hb = grind (arith, ints)

score_few : (offset turns points : ℕ) → offset ≤ 1000000 → turns ≤ 10 ^ 12 → points ≤ 10 ^ 18 → unsigned_abs (score_of offset turns points) ≤ 10 ^ 37
score_few offset turns points near few rich =
    let less : offset * turns ≤ 1000000 * 10 ^ 12 = mul-le-mul near few in
    between (points * 1000000000000) (offset * turns * 1000000000000) (10 ^ 37) (omega (arith, rich)) (omega (arith, less))

scores_few : (game : Payoffs) (offset m : ℕ) (row : RotaRow) → IsGame game → offset ≤ 1000000 → m < 2 ^ 32 → total row.tally ≤ 10 ^ 12 → AreScoresLine (shown_scores game offset m row)
scores_few game offset m row g near small few = record {
  number = small;
  left = score_few offset (total row.tally) (left_points game row.tally) near few (points_few _ _ _ _ row.tally g.reward g.sucker g.temptation g.punishment few);
  right = score_few offset (total row.tally) (right_points game row.tally) near few (points_few _ _ _ _ row.tally g.reward g.temptation g.sucker g.punishment few);
}

pub score_lacks : RotaLinesAreExact → (game : Payoffs) (offset m : ℕ) (row : RotaRow) → IsGame game → offset ≤ 1000000 → m < 2 ^ 32 → total row.tally ≤ 10 ^ 12
    → lacks 10 (score_line game offset m row) ≡ true
score_lacks l game offset m row g near small few =
    l.scores.one_line (shown_scores game offset m row) ((l.scores_range (shown_scores game offset m row)).1 (scores_few game offset m row g near small few))
