use Rattle.splice_laws.proofs.ImportSplices.SupportedWords.Constraints.{constraints_stay}
use Rattle.splice_laws.proofs.import_splices.supported_words.laws.constraints_stay.Goals as goal

pub returns : goal.returns
returns c = constraints_stay
