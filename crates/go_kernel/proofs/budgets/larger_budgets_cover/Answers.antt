use Rattle.go_kernel.proofs.Growth.{shows_grow}
use Rattle.go_kernel.proofs.budgets.larger_budgets_cover.Goals as goal

pub returns : goal.returns
returns c = shows_grow
