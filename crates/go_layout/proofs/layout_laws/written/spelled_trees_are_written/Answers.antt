use Rattle.go_layout.proofs.LayoutLaws.WrittenTrees.{types_written, sigs_written, exprs_written}
use Rattle.go_layout.proofs.layout_laws.written.spelled_trees_are_written.Goals as goal

pub returns-clause-of_type : goal.returns-clause-of_type
returns-clause-of_type c = λ t s. types_written t s

pub returns-clause-of_expression : goal.returns-clause-of_expression
returns-clause-of_expression c = λ e s i level header sp. exprs_written e s i level header sp

pub returns-clause-of_signature : goal.returns-clause-of_signature
returns-clause-of_signature c = λ v g s. sigs_written v g s
