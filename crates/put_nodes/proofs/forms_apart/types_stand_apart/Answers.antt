use Rattle.put_nodes.proofs.FormsApart.TypesApart.{types_apart}
use Rattle.put_nodes.proofs.forms_apart.types_stand_apart.Goals as goal

pub returns : goal.returns
returns c = λ text tokens comments file of_text spells at t formed none. types_apart text tokens comments file of_text spells at t formed none
