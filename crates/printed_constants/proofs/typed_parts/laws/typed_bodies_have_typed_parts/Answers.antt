use Rattle.printed_constants.proofs.TypedParts.Walk.{all_stand, stmts_stand}
use Rattle.printed_constants.proofs.typed_parts.laws.typed_bodies_have_typed_parts.Goals as goal

pub returns-clause-statements : goal.returns-clause-statements
returns-clause-statements c = λ p c before b ends e. stmts_stand p c before b ends e

pub returns-clause-lists : goal.returns-clause-lists
returns-clause-lists c = λ p us es os e. all_stand p us es os e
