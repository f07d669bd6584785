use Rattle.typed_in_place.proofs.TypingReplaced.{parts-in, place-in, declares-in, stmt-in, stmts-in, used_stmts-in}
use Rattle.typed_in_place.proofs.laws.typed_alike_after_a_replacement.Goals as goal

pub returns-clause-operands : goal.returns-clause-operands
returns-clause-operands c = λ around a e f d. parts-in d

pub returns-clause-places : goal.returns-clause-places
returns-clause-places c = λ around a e f d. place-in d

pub returns-clause-declarations : goal.returns-clause-declarations
returns-clause-declarations c = λ around a s r d. declares-in d

pub returns-clause-statements : goal.returns-clause-statements
returns-clause-statements c = λ around a s r d k. stmt-in d k

pub returns-clause-bodies : goal.returns-clause-bodies
returns-clause-bodies c = λ around a s r d k before. stmts-in k before d

pub returns-clause-uses : goal.returns-clause-uses
returns-clause-uses c = λ around a s r d. used_stmts-in d
