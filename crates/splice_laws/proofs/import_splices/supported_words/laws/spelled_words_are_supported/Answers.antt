use Rattle.splice_laws.proofs.ImportSplices.SupportedWords.Words.{words_supported, texts_supported}
use Rattle.splice_laws.proofs.import_splices.supported_words.laws.spelled_words_are_supported.Goals as goal

pub returns-clause-words : goal.returns-clause-words
returns-clause-words c = words_supported

pub returns-clause-texts : goal.returns-clause-texts
returns-clause-texts c = texts_supported
