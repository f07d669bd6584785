use Rattle.printed_constants.proofs.TypedParts.MarkedRuns.ReadyModules.Read.{read_ready}
use Rattle.printed_constants.proofs.TypedParts.MarkedRuns.ReadyModules.Typed.{typed_as_read}
use Rattle.printed_constants.proofs.typed_parts.marked_runs.ready_modules.read_modules_are_ready.Goals as goal

pub returns-clause-ready : goal.returns-clause-ready
returns-clause-ready c = λ files ps texts r octets typed unspread. read_ready c.read_modules_are_ordered.ensures.ordered files ps texts r octets typed unspread

pub returns-clause-typed : goal.returns-clause-typed
returns-clause-typed c = λ ps texts typed. typed_as_read ps typed
