use Rattle.constant_modules.proofs.TypedForms.Standing.{stand_between}
use Rattle.constant_modules.proofs.typed_forms.laws.steps_stand_between.Goals as goal

pub returns : goal.returns
returns c = λ marks st l after n h typed. stand_between marks st l after n h typed
