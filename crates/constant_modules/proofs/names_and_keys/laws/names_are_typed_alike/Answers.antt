use Rattle.constant_modules.proofs.NamesAndKeys.TypingMarked.{parts-alike, all_parts-alike, used_stmts-alike, stmts-alike}
use Rattle.constant_modules.proofs.names_and_keys.laws.names_are_typed_alike.Goals as goal

pub returns-clause-operand : goal.returns-clause-operand
returns-clause-operand c = λ a e m around g h. parts-alike a e m around g h

pub returns-clause-operands : goal.returns-clause-operands
returns-clause-operands c = λ a es m around g h. all_parts-alike a es m around g h

pub returns-clause-bodies : goal.returns-clause-bodies
returns-clause-bodies c = λ t a before b m around g h. stmts-alike t a before b m around g h

pub returns-clause-uses : goal.returns-clause-uses
returns-clause-uses c = λ a b m around g h. used_stmts-alike a b m around g h
