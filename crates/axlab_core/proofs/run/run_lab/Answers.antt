use Rattle.std.proofs.Common.{refl}
use Rattle.axlab_core.specs.WordList.{word_list}
use Rattle.axlab_core.proofs.Ending.{ends_earlier, ends_unnoted}
use Rattle.axlab_core.proofs.run.run_lab.Goals as goal

pub returns-in-Ok-clause-ends : goal.returns-in-Ok-clause-ends
returns-in-Ok-clause-ends g c =
    ends_earlier (word_list c.args.words.now) _ _ _ (record {
      players = c.in-Ok.ensures.lasting.left;
      turns = c.in-Ok.ensures.turns;
      returns = c.in-Ok.ensures.returns;
      holding = refl;
      asked = refl;
      read_faults = refl;
      taken = refl;
      write_faults = refl;
    }) _ c.answer_lab.ensures.ends

pub returns-in-Err-clause-ends : goal.returns-in-Err-clause-ends
returns-in-Err-clause-ends g c = ends_unnoted _ _ c.args.command c.requires.form c.in-Err.ensures.turns refl refl
