use Rattle.splice_laws.proofs.ImportSplices.Grown.{settled_go, settled_go_again}
use Rattle.splice_laws.proofs.import_splices.laws.imports_are_settled.Goals as goal

-- src/laws.rt
pub returns-clause-reads : goal.returns-clause-reads
returns-clause-reads c = settled_go

pub returns-clause-again : goal.returns-clause-again
returns-clause-again c = settled_go_again
