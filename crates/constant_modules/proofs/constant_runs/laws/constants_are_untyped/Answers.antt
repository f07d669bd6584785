use Rattle.constant_modules.proofs.ConstantRuns.Untyped.{none_written}
use Rattle.constant_modules.proofs.constant_runs.laws.constants_are_untyped.Goals as goal

pub returns : goal.returns
returns c = none_written
