use Rattle.typed_in_place.proofs.SamePrograms.{same_collected}
use Rattle.typed_in_place.proofs.ProgramsReplaced.{replaced_values_stand}
use Rattle.typed_in_place.proofs.NameRounds.ButForSpans.{but_for_spans}
use Rattle.typed_in_place.proofs.name_rounds.laws.same_programs_declare_the_same.Goals as goal

pub returns-clause-alike : goal.returns-clause-alike
returns-clause-alike c = λ ps qs d. same_collected ps qs d

pub returns-clause-spans : goal.returns-clause-spans
returns-clause-spans c = λ ps qs n e. but_for_spans ps qs n e

pub returns-clause-replaced : goal.returns-clause-replaced
returns-clause-replaced c = λ w h k r. replaced_values_stand w h k r
