use Rattle.run_rules.specs.Run.{here_of}
use Rattle.name_places.proofs.Walk.{names_apart}
use Rattle.name_places.proofs.laws.names_stand_apart.Goals as goal

pub returns : goal.returns
returns c = λ ps w text i d reads there. names_apart here_of ps w text i d reads there
