use Rattle.go_layout.proofs.LayoutLaws.WrittenTrees.{sig_written, expr_written}
use Rattle.go_layout.proofs.layout_laws.written.formed_trees_are_written.Goals as goal

pub returns-clause-of_expression : goal.returns-clause-of_expression
returns-clause-of_expression c = λ e i level header f sp. expr_written e i level header f sp

pub returns-clause-of_signature : goal.returns-clause-of_signature
returns-clause-of_signature c = λ v g f. sig_written v g f
