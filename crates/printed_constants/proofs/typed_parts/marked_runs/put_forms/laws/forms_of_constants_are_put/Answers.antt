use Rattle.printed_constants.proofs.TypedParts.MarkedRuns.PutForms.Forms.{puts_form, named_in_program}
use Rattle.printed_constants.proofs.TypedParts.MarkedRuns.PutForms.Wide.{form_wide}
use Rattle.printed_constants.proofs.typed_parts.marked_runs.put_forms.laws.forms_of_constants_are_put.Goals as goal

pub returns-clause-put : goal.returns-clause-put
returns-clause-put c = λ marks st f old ready is uses. puts_form c.well_typed_files_are_scoped.ensures.scoped marks st f old ready is uses

pub returns-clause-some : goal.returns-clause-some
returns-clause-some c = λ marks st f old ready is uses. form_wide st f old (puts_form c.well_typed_files_are_scoped.ensures.scoped marks st f old ready is uses)

pub returns-clause-named : goal.returns-clause-named
returns-clause-named c = λ marks st f old ready is uses. named_in_program c.well_typed_files_are_scoped.ensures.scoped marks st f old ready is uses
