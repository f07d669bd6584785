use Rattle.read_modules.proofs.Modules.{may_be_loaded}
use Rattle.read_modules.proofs.laws.modules_may_be_loaded.Goals as goal

pub returns : goal.returns
returns c = may_be_loaded
