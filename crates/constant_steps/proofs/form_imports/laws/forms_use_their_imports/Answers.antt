use Rattle.constant_steps.proofs.FormImports.NamesMean.{constant_forms_are_used, alias_forms_are_used, names_of_constants_mean, names_of_aliases_mean}
use Rattle.constant_steps.proofs.FormImports.CallsUsed.{literal_forms_are_used, expression_forms_are_used, block_forms_are_used, names_of_literals_mean, names_of_expressions_mean, names_of_blocks_mean}
use Rattle.constant_steps.proofs.form_imports.laws.forms_use_their_imports.Goals as goal

pub returns-clause-constants : goal.returns-clause-constants
returns-clause-constants c = constant_forms_are_used

pub returns-clause-aliases : goal.returns-clause-aliases
returns-clause-aliases c = alias_forms_are_used

pub returns-clause-mean_of_constants : goal.returns-clause-mean_of_constants
returns-clause-mean_of_constants c = names_of_constants_mean

pub returns-clause-mean_of_aliases : goal.returns-clause-mean_of_aliases
returns-clause-mean_of_aliases c = names_of_aliases_mean

pub returns-clause-literals : goal.returns-clause-literals
returns-clause-literals c = literal_forms_are_used

pub returns-clause-mean_of_literals : goal.returns-clause-mean_of_literals
returns-clause-mean_of_literals c = names_of_literals_mean

pub returns-clause-expressions : goal.returns-clause-expressions
returns-clause-expressions c = expression_forms_are_used

pub returns-clause-mean_of_expressions : goal.returns-clause-mean_of_expressions
returns-clause-mean_of_expressions c = names_of_expressions_mean

pub returns-clause-blocks : goal.returns-clause-blocks
returns-clause-blocks c = block_forms_are_used

pub returns-clause-mean_of_blocks : goal.returns-clause-mean_of_blocks
returns-clause-mean_of_blocks c = names_of_blocks_mean
