use Rattle.go_kernel.proofs.Growth.{free_shows_less}
use Rattle.go_kernel.proofs.budgets.free_prices_are_covered.Goals as goal

pub returns : goal.returns
returns c = free_shows_less
