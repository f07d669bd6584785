use Rattle.literal_cycles.proofs.FormCycles.BodiesPut.{statements-give}
use Rattle.literal_cycles.proofs.FormCycles.FormSteps.{calls-change, call-step}
use Rattle.literal_cycles.proofs.form_cycles.laws.bodies_give_way.Goals as goal

pub returns-clause-bodies : goal.returns-clause-bodies
returns-clause-bodies c = λ ps marks w at m led same z f none p b al. statements-give same z f none ps marks w at m led p b al

pub returns-clause-kept : goal.returns-clause-kept
returns-clause-kept c = λ marks st l after n h s b i puts m. call-step marks st l after n h s (calls-change marks st l after n i b) i puts m
