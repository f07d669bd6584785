use Rattle.put_nodes.proofs.FormsApart.Apart.{forms_apart}
use Rattle.put_nodes.proofs.forms_apart.forms_stand_apart.Goals as goal

pub returns : goal.returns
returns c = λ text tokens comments file of_text spells at c cs begins none. forms_apart text tokens comments file of_text spells at c cs begins none
