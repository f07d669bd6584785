use Rattle.std.proofs.Common.{refl}
use Rattle.run_rules.specs.FormTrees.{ExprForm}
use Rattle.literal_cycles.proofs.BodyForms.BodiesCall.{blocks_call, expressions_call, expressions_through}
use Rattle.literal_cycles.proofs.body_forms.laws.bodies_call_through.Goals as goal

pub returns-clause-blocks : goal.returns-clause-blocks
returns-clause-blocks c = λ commented rs marks x k u b q at. blocks_call commented rs marks x k u b q at

pub returns-clause-expressions : goal.returns-clause-expressions
returns-clause-expressions c = λ commented rs marks x u n e f at. expressions_call commented rs marks x ExprForm u refl n e f at

pub returns-clause-through : goal.returns-clause-through
returns-clause-through c = λ commented rs marks x u n e f at. expressions_through commented rs marks x ExprForm u refl n e f at
