use Rattle.report_rules.proofs.RoomLaws.{inner_room, drill_room}
use Rattle.report_rules.proofs.rules.after.Goals as goal

pub returns-in-InBody-clause-room : goal.returns-in-InBody-clause-room
returns-in-InBody-clause-room c =
    inner_room c.after_inner.result c.args.state c.in-InBody.head c.in-InBody.own c.in-InBody.names c.in-InBody.body c.args.next c.in-InBody.is c.requires.room c.requires.line c.requires.allowed c.after_inner.ensures

pub returns-in-InDrill-clause-room : goal.returns-in-InDrill-clause-room
returns-in-InDrill-clause-room c =
    drill_room c.after_drill.result c.args.state c.in-InDrill.names c.in-InDrill.drill c.args.next c.in-InDrill.is c.requires.room c.requires.allowed c.after_drill.ensures
