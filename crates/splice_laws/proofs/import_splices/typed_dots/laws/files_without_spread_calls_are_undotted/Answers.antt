use Rattle.splice_laws.proofs.ImportSplices.TypedDots.UndottedFiles.{files_are_undotted}
use Rattle.splice_laws.proofs.ImportSplices.TypedDots.UnspreadDots.{packages_dots}
use Rattle.splice_laws.proofs.ImportSplices.TypedDots.UnspreadKept.{file_kept}
use Rattle.splice_laws.proofs.import_splices.typed_dots.laws.files_without_spread_calls_are_undotted.Goals as goal

-- src/laws.rt
pub returns-clause-with_spans : goal.returns-clause-with_spans
returns-clause-with_spans c = λ ps e. packages_dots ps (files_are_undotted ps e)

pub returns-clause-without_spans : goal.returns-clause-without_spans
returns-clause-without_spans c = λ ps e. packages_dots ps (files_are_undotted ps e)

pub returns-clause-kept : goal.returns-clause-kept
returns-clause-kept c = λ w f g p n d. file_kept w n p d
