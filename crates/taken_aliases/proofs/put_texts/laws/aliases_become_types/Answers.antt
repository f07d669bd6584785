use Rattle.taken_aliases.proofs.PutTexts.Steps.{alias-becomes, aliases-settle}
use Rattle.taken_aliases.proofs.PutTexts.Packages.{texts-name, texts-add-led}
use Rattle.taken_aliases.proofs.put_texts.laws.aliases_become_types.Goals as goal

pub returns-clause-shape : goal.returns-clause-shape
returns-clause-shape c = λ marks st l after n reads used uses fits are. alias-becomes marks st l after n reads used uses fits are

pub returns-clause-packages : goal.returns-clause-packages
returns-clause-packages c = λ marks st l after n reads ordered uses. texts-name marks st l after n reads uses ordered

pub returns-clause-led : goal.returns-clause-led
returns-clause-led c = λ marks st l after n reads links uses. texts-add-led marks st l after n reads uses links

pub returns-clause-settle : goal.returns-clause-settle
returns-clause-settle c = λ marks st l after n reads links writable undotted used uses fits few removes. aliases-settle marks st l after n reads used uses fits links writable undotted few removes
