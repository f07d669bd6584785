use Rattle.run_rules.specs.Run.{here_of}
use Rattle.put_nodes.proofs.ReadFiles.{parts_swapped}
use Rattle.put_nodes.proofs.laws.parts_are_nodes.Goals as goal

pub returns : goal.returns
returns c = λ text tree reads ps k p file i d e. parts_swapped here_of text tree reads ps k p file i d e
