use Rattle.alias_runs.proofs.SettledTypes.Rounds.{types-settled, texts-settled, meant-settled}
use Rattle.alias_runs.proofs.settled_types.types_are_settled.Goals as goal

pub returns-clause-names : goal.returns-clause-names
returns-clause-names c = λ ps w end p n. types-settled ps w end p n

pub returns-clause-texts : goal.returns-clause-texts
returns-clause-texts c = λ ps w end p is i t. texts-settled ps w end p is i t

pub returns-clause-meant : goal.returns-clause-meant
returns-clause-meant c = λ ps w end p is i t. meant-settled ps w end p is i t
