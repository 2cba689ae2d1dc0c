use Rattle.std.proofs.Common.{◌≡◌, if◌then◌else◌}
use Rattle.std.specs.Str.{bytes_eq}
use Rattle.report_making.proofs.MatchMade.{Given, first_place, second_place, valid_made}
use Rattle.report_making.proofs.matches.match_report.Goals as goal
use Rattle.report_making.proofs.matches.match_report.Goals.{then-is_same, else-is_same}

pub returns-clause-valid : goal.returns-clause-valid
returns-clause-valid c =
    let left = c.args.left.now in
    let right = c.args.right.now in
    let g : Given c.args.head.now left right c.args.left_noise.now c.args.right_noise.now c.args.line.now = record {
      is_head = c.requires.head;
      is_game = c.unsigned.ensures.game;
      is_noise = c.denominator.ensures.rate;
      left_name = c.len.ensures.name;
      right_name = c.len-2.ensures.name;
      left_rate = c.denominator-2.ensures.rate;
      right_rate = c.denominator-3.ensures.rate;
      showable = c.requires.showable;
    } in
    let place : c.if-is_same.result ≡ (if bytes_eq left right then 0 else 1) = elim c.if-is_same.branch [
      | then-is_same w ↦ first_place c.is_same.result left right c.if-is_same.result c.is_same.ensures w.if-is_same.true w.result-is
      | else-is_same w ↦ second_place c.is_same.result left right c.if-is_same.result c.is_same.ensures w.if-is_same.false w.result-is
    ] in
    valid_made c.args.head.now left right c.args.left_noise.now c.args.right_noise.now c.args.line.now c.in_ok-noises.noises c.in_ok-names.names c.if-is_same.result g c.in_ok-noises.ensures c.in_ok-names.ensures place
