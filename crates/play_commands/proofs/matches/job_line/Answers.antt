use Rattle.std.proofs.Common.{ap, inr}
use Rattle.lab_file.specs.Lab.{LabData}
use Rattle.sheet_rules.specs.Entrants.{entrant_of}
use Rattle.play_commands.proofs.Entries.{is_entry, is_short}
use Rattle.play_commands.proofs.Reports.{right_between}
use Rattle.play_commands.proofs.TableLines.{line_showable}
use Rattle.play_commands.proofs.matches.job_line.Goals as goal

pub entry_line-requires-clause-left : goal.entry_line-requires-clause-left
entry_line-requires-clause-left g c =
    is_entry c.notes_tell.ensures _ _ c.requires.fits c.args.lab.now c.requires.noted c.args.job.now.left (entrant_of c.contestant-left.result) c.requires.sound.left
    c.contestant-left.ensures.is c.contestant-left.ensures.valid

pub entry_line-requires-clause-right : goal.entry_line-requires-clause-right
entry_line-requires-clause-right g c =
    is_entry c.notes_tell.ensures _ _ c.requires.fits c.args.lab.now c.requires.noted c.args.job.now.right (entrant_of c.contestant-right.result) c.requires.sound.right
    c.contestant-right.ensures.is c.contestant-right.ensures.valid

pub entry_line-requires-clause-few_turns : goal.entry_line-requires-clause-few_turns
entry_line-requires-clause-few_turns g c =
    is_short c.notes_tell.ensures _ _ c.requires.fits c.args.lab.now c.requires.noted (c.args.job.now.left, c.args.job.now.right) (entrant_of c.contestant-left.result) (entrant_of c.contestant-right.result)
    c.requires.sound.left c.requires.sound.right c.contestant-left.ensures.is c.contestant-right.ensures.is c.args.job.now.turns c.requires.sound.few_turns c.requires.limits

pub returns-clause-right : goal.returns-clause-right
returns-clause-right g c =
    right_between _ _ c.requires.fits c.args.lab.now c.args.job.now.left c.args.job.now.right c.args.job.now.turns (entrant_of c.contestant-left.result) (entrant_of c.contestant-right.result)
    _ _ c.entry_line.result (ap (λ (l : LabData). l.game) c.lab.view_is) (ap (λ (l : LabData). l.offset) c.lab.view_is) c.contestant-left.ensures.is c.contestant-right.ensures.is c.entry_line.ensures.turns c.entry_line.ensures.right

pub returns-clause-showable : goal.returns-clause-showable
returns-clause-showable g c =
    line_showable _ _ c.requires.fits c.args.lab.now c.shape.ensures _ _ (entrant_of c.contestant-left.result) (entrant_of c.contestant-right.result) c.args.job.now.turns c.entry_line.result
    (ap (λ (l : LabData). l.game) c.lab.view_is) (ap (λ (l : LabData). l.offset) c.lab.view_is) c.requires.sound.some_turns c.requires.sound.few_turns c.entry_line.ensures.turns c.entry_line.ensures.range c.entry_line.ensures.right

pub returns-clause-most : goal.returns-clause-most
returns-clause-most g c =
    (inr (record {
      left = entrant_of c.contestant-left.result;
      right = entrant_of c.contestant-right.result;
      left_is = c.contestant-left.ensures.is;
      right_is = c.contestant-right.ensures.is;
      most = c.entry_line.ensures.most;
    }))
