use Rattle.go_kernel.proofs.SameShows.{both_ways}
use Rattle.go_kernel.proofs.budgets.equal_free_shows_cover.Goals as goal

pub returns : goal.returns
returns c = λ P P' free A init init' main choices n e. both_ways free A main choices n P P' init init' e
