use Rattle.go_kernel.proofs.CarefulList.{safe_too}
use Rattle.go_kernel.proofs.arguments.careful_list_serves.Goals as goal

pub returns : goal.returns
returns c = λ all g b os rows I w q m k s. safe_too all g b I w m k os rows q s
