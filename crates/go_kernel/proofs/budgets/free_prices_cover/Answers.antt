use Rattle.go_kernel.proofs.Growth.{free_shows_more}
use Rattle.go_kernel.proofs.budgets.free_prices_cover.Goals as goal

pub returns : goal.returns
returns c = free_shows_more
