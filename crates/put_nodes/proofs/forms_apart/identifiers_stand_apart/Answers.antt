use Rattle.put_nodes.proofs.FormsApart.Apart.{name_apart}
use Rattle.put_nodes.proofs.forms_apart.identifiers_stand_apart.Goals as goal

pub returns : goal.returns
returns c = λ text tokens comments file of_text spells at name is none. name_apart text tokens comments file of_text spells at name is none
