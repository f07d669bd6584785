use Rattle.run_plans.proofs.InlinedPrograms.Puts.{not_taken}
use Rattle.run_plans.proofs.inlined_programs.taken.take_step.Goals as goal

pub made_step-requires-clause-read : goal.made_step-requires-clause-read
made_step-requires-clause-read c =
    c.requires.may.read c.in-Ok.log c.progress_before-progress.result (record { log = c.in-Ok.ensures; progress_is = c.progress_before-progress.ensures })

pub returns-in-Err-clause-refused : goal.returns-in-Err-clause-refused
returns-in-Err-clause-refused c =
    not_taken c.args.program.now c.args.counts.now c.args.first c.in-Ok.log c.progress_before-progress.result c.in-Err.fault
    (record { log = c.in-Ok.ensures; progress_is = c.progress_before-progress.ensures }) c.in-Err.ensures.refused

pub put_taken-requires-clause-put : goal.put_taken-requires-clause-put
put_taken-requires-clause-put c =
    c.requires.may.put c.in-Ok.log c.progress_before-progress.result c.in-Ok-made_step.made (record { log = c.in-Ok.ensures; progress_is = c.progress_before-progress.ensures })
    c.in-Ok-made_step.ensures.made

pub put_taken-requires-clause-of_origin : goal.put_taken-requires-clause-of_origin
put_taken-requires-clause-of_origin c = c.requires.may.of_origin c.in-Ok.log.offset

pub returns-in-Ok-put_taken-clause-taken : goal.returns-in-Ok-put_taken-clause-taken
returns-in-Ok-put_taken-clause-taken c =
    record {
      log = c.in-Ok.log;
      progress = c.progress_before-progress.result;
      comes = record { log = c.in-Ok.ensures; progress_is = c.progress_before-progress.ensures };
      step = c.in-Ok-made_step.made;
      is_step = c.in-Ok-made_step.ensures.made;
      put = c.in-Ok-put_taken.ensures.put;
    }
