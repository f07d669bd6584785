use Rattle.form_meaning.proofs.FormInPlace.PlaceLaws.{call_operand_law, call_uses_law}
use Rattle.form_meaning.proofs.form_in_place.call_is_the_operand_of_its_literal.Goals as goal

pub returns-clause-operand : goal.returns-clause-operand
returns-clause-operand start = call_operand_law

pub returns-clause-uses : goal.returns-clause-uses
returns-clause-uses start = call_uses_law
