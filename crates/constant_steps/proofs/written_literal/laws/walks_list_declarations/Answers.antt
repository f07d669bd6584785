use Rattle.constant_steps.proofs.WrittenLiteral.ListedHeads.{listing}
use Rattle.constant_steps.proofs.WrittenLiteral.BodyAnswers.{body_answers}
use Rattle.constant_steps.proofs.WrittenLiteral.LiteralsHere.{literal_here}
use Rattle.constant_steps.proofs.written_literal.laws.walks_list_declarations.Goals as goal

pub returns-clause-listed : goal.returns-clause-listed
returns-clause-listed c = listing

pub returns-clause-changes : goal.returns-clause-changes
returns-clause-changes c = λ same ps d names p u x. body_answers same ps d names p u x

pub returns-clause-at_home : goal.returns-clause-at_home
returns-clause-at_home c = λ site a t es h. literal_here site a t es h
