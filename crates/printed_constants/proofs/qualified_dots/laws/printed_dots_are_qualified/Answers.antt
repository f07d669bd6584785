use Rattle.printed_constants.proofs.QualifiedDots.Blocks.{names_untyped}
use Rattle.printed_constants.proofs.QualifiedDots.Dots.{dots_qualified}
use Rattle.printed_constants.proofs.QualifiedDots.Uses.{uses_undotted}
use Rattle.printed_constants.proofs.qualified_dots.laws.printed_dots_are_qualified.Goals as goal

pub returns-clause-names : goal.returns-clause-names
returns-clause-names c = names_untyped

pub returns-clause-dots : goal.returns-clause-dots
returns-clause-dots c = dots_qualified

pub returns-clause-uses : goal.returns-clause-uses
returns-clause-uses c = uses_undotted c.constant_uses_stand_once.ensures c.well_typed_files_are_dotted.ensures.dotted dots_qualified
