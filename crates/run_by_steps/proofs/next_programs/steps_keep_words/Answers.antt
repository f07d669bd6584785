use Rattle.run_by_steps.proofs.NextPrograms.Supported.{steps_keep_words}
use Rattle.run_by_steps.proofs.next_programs.steps_keep_words.Goals as goal

pub returns : goal.returns
returns c = steps_keep_words
