use Rattle.pkg_graph.proofs.FaultsUnique.{faults_are_unique, linked_have_no_fault}
use Rattle.pkg_graph.proofs.laws.one_fault_at_most.Goals as goal

pub returns-clause-unique : goal.returns-clause-unique
returns-clause-unique c = faults_are_unique

pub returns-clause-none : goal.returns-clause-none
returns-clause-none c = linked_have_no_fault
