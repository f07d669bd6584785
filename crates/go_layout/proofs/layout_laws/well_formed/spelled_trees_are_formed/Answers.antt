use Rattle.go_layout.proofs.LayoutLaws.WrittenTrees.{spelled_sig, spelled_expr}
use Rattle.go_layout.proofs.layout_laws.well_formed.spelled_trees_are_formed.Goals as goal

pub returns-clause-of_expression : goal.returns-clause-of_expression
returns-clause-of_expression c = λ e s. spelled_expr e s

pub returns-clause-of_signature : goal.returns-clause-of_signature
returns-clause-of_signature c = λ v g s. spelled_sig v g s
