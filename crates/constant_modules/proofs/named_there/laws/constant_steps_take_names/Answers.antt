use Rattle.constant_modules.proofs.NamedThere.Steps.{steps_take}
use Rattle.constant_modules.proofs.named_there.laws.constant_steps_take_names.Goals as goal

pub returns : goal.returns
returns c =
    steps_take c.steps_use_expressions.ensures c.steps_avoid_few_names.ensures.few c.constants_settle.ensures.writes c.constant_uses_are_there.ensures.stand c.steps_put_names.ensures.puts c.steps_put_names.ensures.removes c.steps_keep_uses.ensures
    c.steps_are_over_names.ensures c.imports_stay_used.ensures.takes
