use Rattle.value_calls.proofs.UsesInFunctions.{declarations-none, stands-in-function}
use Rattle.value_calls.proofs.NameForms.{form-outside}
use Rattle.value_calls.proofs.laws.values_call_no_function.Goals as goal

pub returns-clause-values : goal.returns-clause-values
returns-clause-values c = λ ps o t w pe fe i d de f. declarations-none ps o t w pe fe i d de f

pub returns-clause-uses : goal.returns-clause-uses
returns-clause-uses c = λ marks st l after n t k. stands-in-function marks st l after n t k

pub returns-clause-forms : goal.returns-clause-forms
returns-clause-forms c = λ marks st l after n t k o. form-outside marks st l after n t k o
