use Rattle.constant_modules.proofs.TypedForms.Standing.{first_typed}
use Rattle.constant_modules.proofs.typed_forms.laws.first_uses_are_typed.Goals as goal

pub returns : goal.returns
returns c = first_typed c.first_uses_have_next.ensures c.first_uses_are_typed_before.ensures
