use Rattle.field_keys.proofs.Typing.{parts-alike, all_parts-alike, used_stmts-alike, stmts-alike}
use Rattle.field_keys.proofs.laws.looked_up_names_are_typed_alike.Goals as goal

pub returns-clause-operand : goal.returns-clause-operand
returns-clause-operand c = λ top a e m around g h. parts-alike a e m around g h

pub returns-clause-operands : goal.returns-clause-operands
returns-clause-operands c = λ top a es m around g h. all_parts-alike a es m around g h

pub returns-clause-bodies : goal.returns-clause-bodies
returns-clause-bodies c = λ k top a before b m around g h. stmts-alike k a before b m around g h

pub returns-clause-uses : goal.returns-clause-uses
returns-clause-uses c = λ top a b m around g h. used_stmts-alike a b m around g h
