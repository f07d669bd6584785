use Rattle.run_rules.specs.Respanned.{file_with}
use Rattle.run_rules.specs.Run.{here_of}
use Rattle.put_nodes.proofs.NamesPut.{name_put}
use Rattle.put_nodes.proofs.laws.names_are_put.Goals as goal

pub returns : goal.returns
returns c = λ text tree reads undotted z p u old new x none begins is. name_put here_of text (file_with here_of tree) reads undotted z p u old new x none begins is
