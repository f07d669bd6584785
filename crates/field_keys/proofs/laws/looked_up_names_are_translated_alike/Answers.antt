use Rattle.field_keys.proofs.Translation.{stmts_term-alike}
use Rattle.field_keys.proofs.laws.looked_up_names_are_translated_alike.Goals as goal

pub returns : goal.returns
returns c = λ top h b m l around g o. stmts_term-alike h b m l around g o
