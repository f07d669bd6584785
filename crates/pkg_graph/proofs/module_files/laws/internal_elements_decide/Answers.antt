use Rattle.std.proofs.Common.{length}
use Rattle.pkg_graph.specs.ModuleFiles.Internal.{passes}
use Rattle.pkg_graph.proofs.ModuleFiles.InternalLaws.{below_all, below_each}
use Rattle.pkg_graph.proofs.module_files.laws.internal_elements_decide.Goals as goal

pub returns-clause-allowed : goal.returns-clause-allowed
returns-clause-allowed c = λ from path. below_all (passes from path) (length path)

pub returns-clause-each : goal.returns-clause-each
returns-clause-each c = λ from path. below_each (passes from path) (length path)
