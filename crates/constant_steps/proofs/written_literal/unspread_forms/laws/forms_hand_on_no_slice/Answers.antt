use Rattle.constant_steps.proofs.WrittenLiteral.UnspreadForms.StepsUnspread.{forms-unspread, step-unspread, run-unspread, expression-unspread, statement-unspread}
use Rattle.constant_steps.proofs.written_literal.unspread_forms.laws.forms_hand_on_no_slice.Goals as goal

pub returns-clause-forms : goal.returns-clause-forms
returns-clause-forms c = λ marks st x k f range named h i e. forms-unspread marks st x k f range named h i e

pub returns-clause-steps : goal.returns-clause-steps
returns-clause-steps c = λ marks st l after n h. step-unspread marks st l after n h

pub returns-clause-runs : goal.returns-clause-runs
returns-clause-runs c = λ marks st log last r h. run-unspread marks r h

pub returns-clause-expressions : goal.returns-clause-expressions
returns-clause-expressions c = λ e new k u level header old. expression-unspread e new k u level header old

pub returns-clause-statements : goal.returns-clause-statements
returns-clause-statements c = λ z old new. statement-unspread z old new
