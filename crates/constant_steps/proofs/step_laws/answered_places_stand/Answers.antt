use Rattle.constant_steps.specs.StepLaws.NamesOutside.{NamesOutside}
use Rattle.constant_steps.proofs.StepLaws.Walking.{expr-walks, stmts-walk}
use Rattle.constant_steps.proofs.StepLaws.OutsideHolds.{outside_holds}
use Rattle.constant_steps.proofs.StepLaws.UsesFree.{uses-are-free}
use Rattle.constant_steps.proofs.step_laws.answered_places_stand.Goals as goal

pub returns-clause-expressions : goal.returns-clause-expressions
returns-clause-expressions c = λ d top around env p u x r a. expr-walks d (NamesOutside top) (outside_holds top) around env p u x r a

pub returns-clause-bodies : goal.returns-clause-bodies
returns-clause-bodies c = λ d top around env p x r a. stmts-walk d (NamesOutside top) (outside_holds top) around env p x r a

pub returns-clause-outside : goal.returns-clause-outside
returns-clause-outside c = λ top. outside_holds top

pub returns-clause-known : goal.returns-clause-known
returns-clause-known c = λ ps home there p names new all outside top around env h t r. record { home_file = h; there_file = t; not_around = r.outer; blank = r.blank }

pub returns-clause-free : goal.returns-clause-free
returns-clause-free c = λ ps marks w p top x r n m q e. uses-are-free ps marks w p top x r n m q e
