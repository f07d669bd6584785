use Rattle.run_by_steps.proofs.NextPrograms.TextsRead.{texts_read}
use Rattle.run_by_steps.proofs.next_programs.step_texts_are_read.Goals as goal

pub returns : goal.returns
returns c = texts_read
