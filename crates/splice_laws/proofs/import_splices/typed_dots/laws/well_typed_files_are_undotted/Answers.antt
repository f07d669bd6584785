use Rattle.splice_laws.proofs.ImportSplices.TypedDots.UndottedFiles.{files_are_undotted}
use Rattle.splice_laws.proofs.import_splices.typed_dots.laws.well_typed_files_are_undotted.Goals as goal

-- src/laws.rt
pub returns : goal.returns
returns c = record { with_spans = λ ps e. files_are_undotted ps e; without_spans = λ ps e. files_are_undotted ps e }
