use Rattle.constant_modules.proofs.ConstantRuns.FirstUses.{steps_take_there, uses_constants, uses_typed}
use Rattle.constant_modules.proofs.constant_runs.laws.first_uses_are_of_constants.Goals as goal

pub returns-clause-there : goal.returns-clause-there
returns-clause-there c =
    steps_take_there c.steps_use_expressions.ensures c.steps_avoid_few_names.ensures.few c.constants_settle.ensures.writes c.constant_uses_are_there.ensures.stand c.steps_put_names.ensures.puts c.steps_put_names.ensures.removes
    c.steps_keep_uses.ensures

pub returns-clause-uses : goal.returns-clause-uses
returns-clause-uses c = uses_constants c.first_uses_use_constants.ensures

pub returns-clause-typed : goal.returns-clause-typed
returns-clause-typed c = uses_typed (returns-clause-there c) (returns-clause-uses c) c.first_uses_are_typed.ensures
