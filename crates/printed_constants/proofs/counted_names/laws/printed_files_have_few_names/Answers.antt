use Rattle.printed_constants.proofs.CountedNames.Counted.{names_few}
use Rattle.printed_constants.proofs.counted_names.laws.printed_files_have_few_names.Goals as goal

pub returns : goal.returns
returns c = λ tokens f d h. names_few tokens f d h
