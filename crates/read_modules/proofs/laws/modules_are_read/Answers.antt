use Rattle.read_modules.proofs.Modules.{modules_read}
use Rattle.read_modules.proofs.laws.modules_are_read.Goals as goal

pub returns : goal.returns
returns c = modules_read
