use Rattle.printed_constants.proofs.TypedParts.DottedImports.Stand.{files_dotted, files_stand}
use Rattle.printed_constants.proofs.typed_parts.dotted_imports.laws.well_typed_files_are_dotted.Goals as goal

pub returns-clause-dotted : goal.returns-clause-dotted
returns-clause-dotted c = files_dotted

pub returns-clause-stand : goal.returns-clause-stand
returns-clause-stand c = files_stand c.well_typed_files_are_scoped.ensures.scoped
