use Rattle.constant_modules.proofs.TypedUses.Before.{typed_before}
use Rattle.constant_modules.proofs.typed_uses.laws.first_uses_are_typed_before.Goals as goal

pub returns : goal.returns
returns c = typed_before c.forms_name_no_import.ensures c.well_typed_files_are_dotted.ensures.stand
