use Rattle.form_meaning.proofs.FormInPlace.PlaceLaws.{operands_law, places_law, uses_law, bodies_law}
use Rattle.form_meaning.proofs.form_in_place.written_body_is_typed_alike.Goals as goal

pub returns-clause-operands : goal.returns-clause-operands
returns-clause-operands start = operands_law

pub returns-clause-places : goal.returns-clause-places
returns-clause-places start = places_law

pub returns-clause-uses : goal.returns-clause-uses
returns-clause-uses start = uses_law

pub returns-clause-bodies : goal.returns-clause-bodies
returns-clause-bodies start = bodies_law
