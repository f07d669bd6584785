use Rattle.splice_laws.proofs.ImportSplices.ImportPlaces.CommentsStand.{comments_ascend}
use Rattle.splice_laws.proofs.ImportSplices.ImportPlaces.FilesLaid.{tokens_in_order, imports_laid}
use Rattle.splice_laws.proofs.import_splices.import_places.laws.imports_of_read_files_lie.Goals as goal

pub returns-clause-tokens : goal.returns-clause-tokens
returns-clause-tokens c = tokens_in_order

pub returns-clause-comments : goal.returns-clause-comments
returns-clause-comments c = comments_ascend

pub returns-clause-laid : goal.returns-clause-laid
returns-clause-laid c = imports_laid
