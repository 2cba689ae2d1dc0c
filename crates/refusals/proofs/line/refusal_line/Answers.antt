use Rattle.std.proofs.Common.{◌≡◌, rules, length, refl}
use Rattle.refusals.proofs.Joining.{joined_six}
use Rattle.refusals.proofs.line.refusal_line.Goals as goal

pub returns : goal.returns
returns c =
    let six : length c.detail_of.result ≡ 6 = search rules in
    rw (c.number.ensures, c.name.ensures, joined_six c.detail_of.result _ _ six, c.detail_of.ensures) refl
