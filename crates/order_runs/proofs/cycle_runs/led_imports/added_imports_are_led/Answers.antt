use Rattle.order_runs.proofs.CycleRuns.LedImports.Steps.{added-led}
use Rattle.order_runs.proofs.cycle_runs.led_imports.added_imports_are_led.Goals as goal

pub returns : goal.returns
returns c = λ marks st l after n own all led spelled. added-led marks st l after n own all led spelled
