use Rattle.go_translation.proofs.PackageBudgets.{budgets_grow, freely_more, freely_less, freely_alike}
use Rattle.go_translation.proofs.laws.budgets_and_free_prices_of_packages.Goals as goal

pub returns-clause-larger : goal.returns-clause-larger
returns-clause-larger c = budgets_grow

pub returns-clause-free : goal.returns-clause-free
returns-clause-free c = freely_more

pub returns-clause-paid : goal.returns-clause-paid
returns-clause-paid c = freely_less

pub returns-clause-meaning : goal.returns-clause-meaning
returns-clause-meaning c = freely_alike
