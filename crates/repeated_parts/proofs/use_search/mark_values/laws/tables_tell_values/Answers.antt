use Rattle.repeated_parts.proofs.UseSearch.MarkValues.Told.{tables_tell}
use Rattle.repeated_parts.proofs.use_search.mark_values.laws.tables_tell_values.Goals as goal

pub returns : goal.returns
returns c = λ ps cs fs marks t m home n e same a h d. tables_tell ps cs fs marks t m home n e same a h d
