use Rattle.constant_modules.proofs.NamesAndKeys.TranslationMarked.{stmts_term-alike}
use Rattle.constant_modules.proofs.names_and_keys.laws.names_are_translated_alike.Goals as goal

pub returns : goal.returns
returns c = λ h b m l around g o. stmts_term-alike h b m l around g o
