use Rattle.field_keys.proofs.Headers.{constants_same, variables_same}
use Rattle.field_keys.proofs.laws.specs_declare_the_same.Goals as goal

pub returns-clause-constants : goal.returns-clause-constants
returns-clause-constants c = λ top a m g s ns t es o h. constants_same top a m g s ns t es o h

pub returns-clause-variables : goal.returns-clause-variables
returns-clause-variables c = λ top a m g s ns t es o h. variables_same top a m g s ns t es o h
