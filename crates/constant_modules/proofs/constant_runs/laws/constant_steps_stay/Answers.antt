use Rattle.constant_modules.proofs.ConstantRuns.Predeclared.{none_after}
use Rattle.constant_modules.proofs.ConstantRuns.Steps.{steps_stay}
use Rattle.constant_modules.proofs.constant_runs.laws.constant_steps_stay.Goals as goal

pub returns-clause-none : goal.returns-clause-none
returns-clause-none c = none_after

pub returns-clause-kept : goal.returns-clause-kept
returns-clause-kept c =
    steps_stay c.constant_steps_take_names.ensures c.keyed_marks_stay_named.ensures.writes c.runs_anywhere_keep.ensures.step c.keyed_marks_stay_named.ensures.stay c.members_are_linked.ensures.stay c.steps_keep_keys_apart.ensures.keeps
    c.marked_constants_name_constants.ensures.named none_after c.constants_stay_untyped.ensures
