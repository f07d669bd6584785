use Rattle.printed_constants.proofs.UsedImports.Linked.{typed_look_up, looked_used}
use Rattle.printed_constants.proofs.UsedImports.Stay.{imports_are_used}
use Rattle.printed_constants.proofs.used_imports.laws.printed_imports_are_used.Goals as goal

pub returns-clause-looked : goal.returns-clause-looked
returns-clause-looked c = λ ps printed ordered typed. typed_look_up ps printed ordered typed

pub returns-clause-used : goal.returns-clause-used
returns-clause-used c = λ ps printed look more. looked_used ps printed look more

pub returns-clause-stay : goal.returns-clause-stay
returns-clause-stay c = imports_are_used c.constants_settle.ensures.writes c.constants_settle.ensures.names c.constants_settle.ensures.spelled
