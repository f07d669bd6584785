use Rattle.splice_laws.proofs.ImportSplices.Files.{unused_go, unused_go_again}
use Rattle.splice_laws.proofs.import_splices.laws.unused_imports_go.Goals as goal

-- src/laws.rt
pub returns-clause-reads : goal.returns-clause-reads
returns-clause-reads c = unused_go

pub returns-clause-again : goal.returns-clause-again
returns-clause-again c = unused_go_again
