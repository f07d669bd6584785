use Rattle.run_rules.specs.Run.{here_of}
use Rattle.put_nodes.proofs.TypeNodes.TopWalk.{types-swapped}
use Rattle.put_nodes.proofs.TypeNodes.TypesPut.{type-name-put}
use Rattle.put_nodes.proofs.type_nodes.type_names_are_put.Goals as goal

pub returns-clause-nodes : goal.returns-clause-nodes
returns-clause-nodes c = λ text tree reads i d e. types-swapped here_of text tree reads i d e

pub returns-clause-put : goal.returns-clause-put
returns-clause-put c = λ text tree reads undotted z s p literal q n new h is. type-name-put here_of text tree reads undotted z s p q n new is literal h
