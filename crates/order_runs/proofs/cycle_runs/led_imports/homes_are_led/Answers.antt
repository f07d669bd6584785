use Rattle.order_runs.proofs.CycleRuns.LedImports.Homes.{home-led}
use Rattle.order_runs.proofs.cycle_runs.led_imports.homes_are_led.Goals as goal

pub returns : goal.returns
returns c = λ marks st l after n i. home-led marks st l after n i
