use Rattle.literal_cycles.proofs.FormCycles.BodySteps.{step-declares, step-imports, body-settles}
use Rattle.literal_cycles.proofs.FormCycles.FormSteps.{calls-change, body-step, expression-step}
use Rattle.literal_cycles.proofs.form_cycles.laws.body_steps_keep_cycles.Goals as goal

pub returns-clause-declared : goal.returns-clause-declared
returns-clause-declared c = λ marks st l after n i b. step-declares marks st l after n i b

pub returns-clause-settled : goal.returns-clause-settled
returns-clause-settled c = λ marks st l after n i b calls. body-settles marks st l after n i b calls

pub returns-clause-kept : goal.returns-clause-kept
returns-clause-kept c = λ marks st l after n h s b calls m. body-step marks st l after n h s b calls m

pub returns-clause-calls : goal.returns-clause-calls
returns-clause-calls c = λ marks st l after n i b. calls-change marks st l after n i b

pub returns-clause-expressions : goal.returns-clause-expressions
returns-clause-expressions c = λ marks st l after n h s b e f i stands calls m. expression-step marks st l after n h s (calls-change marks st l after n i b) e f i stands calls m

pub returns-clause-imports : goal.returns-clause-imports
returns-clause-imports c = λ marks st l after n i b order commented sound by. step-imports marks st l after n i b order commented sound by
