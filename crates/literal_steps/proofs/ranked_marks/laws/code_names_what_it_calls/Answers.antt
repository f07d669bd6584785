use Rattle.literal_steps.proofs.RankedMarks.CallsNamed.{code-names}
use Rattle.literal_steps.proofs.ranked_marks.laws.code_names_what_it_calls.Goals as goal

pub returns : goal.returns
returns c = λ h p b e built f asked. code-names h p b e built f asked
