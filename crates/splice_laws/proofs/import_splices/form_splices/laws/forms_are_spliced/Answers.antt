use Rattle.splice_laws.proofs.ImportSplices.FormSplices.FormLayouts.{operand-spliced, callee-spliced, deferred-spliced, type-spliced, statement-spliced, block-spliced}
use Rattle.splice_laws.proofs.import_splices.form_splices.laws.forms_are_spliced.Goals as goal

pub returns-clause-operands : goal.returns-clause-operands
returns-clause-operands c = λ f z range s e old new k q. operand-spliced f z range s e old new k q

pub returns-clause-callees : goal.returns-clause-callees
returns-clause-callees c = λ f z range header e old new k. callee-spliced f z range header e old new k

pub returns-clause-deferred : goal.returns-clause-deferred
returns-clause-deferred c = λ f z x range g xs rest old new k. deferred-spliced f z range x g xs rest old new k

pub returns-clause-types : goal.returns-clause-types
returns-clause-types c = λ f z range s t old new k. type-spliced f z range s t old new k

pub returns-clause-statements : goal.returns-clause-statements
returns-clause-statements c = λ f z range s e old new h k. statement-spliced f z range s e old new h k

pub returns-clause-blocks : goal.returns-clause-blocks
returns-clause-blocks c = λ f z x range s b old new k. block-spliced f z range s x b old new k
