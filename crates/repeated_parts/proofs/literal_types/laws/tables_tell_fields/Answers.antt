use Rattle.repeated_parts.proofs.LiteralTypes.Fields.{fields_told}
use Rattle.repeated_parts.proofs.literal_types.laws.tables_tell_fields.Goals as goal

pub returns-clause-read : goal.returns-clause-read
returns-clause-read c = λ ts meant env t g es each rows names m e. fields_told ts meant env t g es each rows names m e

pub returns-clause-standing : goal.returns-clause-standing
returns-clause-standing c = λ ts meant env t g es each rows names m e. fields_told ts meant env t g es each rows names m e
