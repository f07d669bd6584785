use Rattle.printed_constants.proofs.TypedParts.MarkedRuns.SettledConstants.Settled.{uses_named, adds_led, constant_writes, constant_settles}
use Rattle.printed_constants.proofs.TypedParts.MarkedRuns.SettledConstants.Spelled.{uses_spelled}
use Rattle.printed_constants.proofs.typed_parts.marked_runs.settled_constants.constants_settle.Goals as goal

pub returns-clause-names : goal.returns-clause-names
returns-clause-names c = λ marks st l after n uses e part. uses_named marks st l after n uses e part

pub returns-clause-spelled : goal.returns-clause-spelled
returns-clause-spelled c = λ marks st l after n reads named uses e part. uses_spelled marks st l after n reads named uses e part

pub returns-clause-led : goal.returns-clause-led
returns-clause-led c = λ marks st l after n reads named links uses e part. adds_led marks st l after n reads named links uses e part

pub returns-clause-writes : goal.returns-clause-writes
returns-clause-writes c = λ marks st l after n ready uses e part few. constant_writes marks st l after n c.well_typed_files_are_scoped.ensures.scoped ready uses e part few

pub returns-clause-settle : goal.returns-clause-settle
returns-clause-settle c = λ marks st l after n ready over. constant_settles marks st l after n c.well_typed_files_are_scoped.ensures.scoped ready over
