use Rattle.run_rules.specs.Run.{here_of}
use Rattle.run_rules.specs.Steps.{At}
use Rattle.constant_steps.proofs.PlaceMeanings.PlacesMean.{blocks_local, read_blocks_local}
use Rattle.constant_steps.proofs.place_meanings.laws.blocks_are_local.Goals as goal

pub returns-clause-read : goal.returns-clause-read
returns-clause-read c = λ ps w text i d reads there scoped. read_blocks_local ps w text i d reads there scoped

pub returns-clause-standing : goal.returns-clause-standing
returns-clause-standing c = λ ps w text i d reads there scoped. blocks_local At here_of ps w text i d reads there scoped
