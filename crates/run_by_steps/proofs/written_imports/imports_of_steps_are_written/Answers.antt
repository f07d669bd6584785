use Rattle.run_by_steps.proofs.WrittenImports.StepImports.{imports_are_written}
use Rattle.run_by_steps.proofs.written_imports.imports_of_steps_are_written.Goals as goal

pub returns : goal.returns
returns c = imports_are_written
