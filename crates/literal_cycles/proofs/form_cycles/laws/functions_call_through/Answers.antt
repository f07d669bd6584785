use Rattle.literal_cycles.proofs.FormCycles.BlockCalls.{block-through, literal-through}
use Rattle.literal_cycles.proofs.FormCycles.FormSteps.{calls-change, function-step}
use Rattle.literal_cycles.proofs.form_cycles.laws.functions_call_through.Goals as goal

pub returns-clause-blocks : goal.returns-clause-blocks
returns-clause-blocks c = λ ps marks v at m q y s k. block-through ps marks v at m q y s k

pub returns-clause-literals : goal.returns-clause-literals
returns-clause-literals c = λ ps marks v at m q y x k. literal-through ps marks v at m q y x k

pub returns-clause-kept : goal.returns-clause-kept
returns-clause-kept c = λ marks st l after n h s b i puts m. function-step marks st l after n h s (calls-change marks st l after n i b) i puts m
