use Rattle.go_tree.specs.declared.spans.Span.{Span}
use Rattle.go_kernel.specs.Alike.{MeanSame, Below}
use Rattle.meaning_in_place.proofs.Statements.{stmts_mentions, stmts_in}
use Rattle.meaning_in_place.proofs.Operands.{operand_in}
use Rattle.meaning_in_place.proofs.laws.statements_stand.Goals as goal

pub returns-clause-mentions : goal.returns-clause-mentions
returns-clause-mentions z = λ P free A rank k around h b c q. stmts_mentions h q

pub returns-clause-terms : goal.returns-clause-terms
returns-clause-terms z = λ P free A rank k around h b c q. stmts_in h q

pub returns-clause-operands : goal.returns-clause-operands
returns-clause-operands z = λ P free A rank k around h e f q. operand_in Span (MeanSame P free A k) (Below free rank k) around h q
