use Rattle.form_meaning.proofs.MeaningLaws.{method_law, deferred_method_law}
use Rattle.form_meaning.proofs.laws.method_call_means_its_written_literal.Goals as goal

pub returns-clause-operand : goal.returns-clause-operand
returns-clause-operand start = method_law

pub returns-clause-deferred : goal.returns-clause-deferred
returns-clause-deferred start = deferred_method_law
