use Rattle.put_names.proofs.PutTypes.AliasNames.{alias-becomes}
use Rattle.put_names.proofs.put_types.aliases_become_type_names.Goals as goal

pub returns : goal.returns
returns c = λ marks st l after n reads used uses are. alias-becomes marks st l after n reads used uses are
