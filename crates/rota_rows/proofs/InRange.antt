-- What the tests of the lines of a rota say, both ways.
use Rattle.std.proofs.Common.{◌≡◌, ℕ, ◌^◌, ◌<◌, ◌≤◌, true, leb, ltb, ◌&&◌, refl, arith}
use Rattle.std.specs.Prelude.{unsigned_abs}
use Rattle.std.proofs.lemmas.Bool.Decides.{nat_tests}
use Rattle.history_model.specs.declared.tally.Tally.{Tally}
use Rattle.history_model.specs.Name.{is_name}
use Rattle.history_model.specs.Tally.{total}
use Rattle.rota_rows.specs.declared.lines.ShownRow.{ShownRow}
use Rattle.rota_rows.specs.declared.lines.ShownScores.{ShownScores}
use Rattle.rota_rows.specs.Fields.{are_plays, is_count, is_mark, is_score}
use Rattle.rota_rows.specs.Lines.{AreScoresLine, IsRowLine, are_few, are_scores, is_row, tally_form}
use Rattle.rota_rows.proofs.FieldLaws.{both_true, leb_is, ltb_is}

pub leb_back : (a b : ℕ) → a ≤ b → leb a b ≡ true
leb_back a b h = grind (arith, nat_tests)

pub ltb_back : (a b : ℕ) → a < b → ltb a b ≡ true
ltb_back a b h = grind (arith, nat_tests)

tally_few : (tally : Tally) → tally_form.is_in tally ≡ true → total tally ≤ 10 ^ 12
tally_few tally h = leb_is (total tally) (10 ^ 12) (both_true (are_plays tally.cc && (are_plays tally.cd && (are_plays tally.dc && are_plays tally.dd))) (are_few tally) h).1

pub tally_back : (tally : Tally) → total tally ≤ 10 ^ 12 → tally_form.is_in tally ≡ true
tally_back tally few =
    let cc : are_plays tally.cc ≡ true = leb_back tally.cc (10 ^ 12) (omega (arith, few)) in
    let cd : are_plays tally.cd ≡ true = leb_back tally.cd (10 ^ 12) (omega (arith, few)) in
    let dc : are_plays tally.dc ≡ true = leb_back tally.dc (10 ^ 12) (omega (arith, few)) in
    let dd : are_plays tally.dd ≡ true = leb_back tally.dd (10 ^ 12) (omega (arith, few)) in
    let all : are_few tally ≡ true = leb_back (total tally) (10 ^ 12) few in
    rw (cc, cd, dc, dd, all) refl

pub row_is : (x : ShownRow) → is_row x ≡ true → IsRowLine x
row_is x h =
    let tally = tally_form.is_in x.tally in
    let a = both_true (is_count x.number) (is_name x.left && (is_name x.right && (is_mark x.left_mark && (is_mark x.right_mark && tally)))) h in
    let b = both_true (is_name x.left) (is_name x.right && (is_mark x.left_mark && (is_mark x.right_mark && tally))) a.1 in
    let c = both_true (is_name x.right) (is_mark x.left_mark && (is_mark x.right_mark && tally)) b.1 in
    let d = both_true (is_mark x.left_mark) (is_mark x.right_mark && tally) c.1 in
    let e = both_true (is_mark x.right_mark) tally d.1 in
    record {
      number = ltb_is x.number (2 ^ 32) a.0;
      left = b.0;
      right = c.0;
      left_mark = ltb_is x.left_mark 512 d.0;
      right_mark = ltb_is x.right_mark 512 e.0;
      few_turns = tally_few x.tally e.1;
    }

pub row_back : (x : ShownRow) → IsRowLine x → is_row x ≡ true
row_back x v = rw (ltb_back x.number (2 ^ 32) v.number, v.left, v.right, ltb_back x.left_mark 512 v.left_mark, ltb_back x.right_mark 512 v.right_mark, tally_back x.tally v.few_turns) refl

pub scores_are : (x : ShownScores) → are_scores x ≡ true → AreScoresLine x
scores_are x h =
    let a = both_true (is_count x.number) (is_score x.left && is_score x.right) h in
    let b = both_true (is_score x.left) (is_score x.right) a.1 in
    record { number = ltb_is x.number (2 ^ 32) a.0; left = leb_is (unsigned_abs x.left) (10 ^ 37) b.0; right = leb_is (unsigned_abs x.right) (10 ^ 37) b.1 }

pub scores_back : (x : ShownScores) → AreScoresLine x → are_scores x ≡ true
scores_back x v = rw (ltb_back x.number (2 ^ 32) v.number, leb_back (unsigned_abs x.left) (10 ^ 37) v.left, leb_back (unsigned_abs x.right) (10 ^ 37) v.right) refl
