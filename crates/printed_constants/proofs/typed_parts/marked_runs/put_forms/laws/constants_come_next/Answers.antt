use Rattle.printed_constants.proofs.TypedParts.MarkedRuns.PutForms.Reached.{come_next, made_next, made_stay, reached_ready}
use Rattle.printed_constants.proofs.typed_parts.marked_runs.put_forms.laws.constants_come_next.Goals as goal

pub returns-clause-next : goal.returns-clause-next
returns-clause-next c = λ marks st f old ready is uses. come_next c.well_typed_files_are_scoped.ensures.scoped marks st f old ready is uses

pub returns-clause-made : goal.returns-clause-made
returns-clause-made c = λ marks st f old new tree ready is uses m. made_next c.well_typed_files_are_scoped.ensures.scoped marks st f old new tree ready is uses m

pub returns-clause-stay : goal.returns-clause-stay
returns-clause-stay c = λ marks st f old new tree ready is uses n removes typed. made_stay c.well_typed_files_are_scoped.ensures.scoped marks st f old new tree ready is uses n removes typed

pub returns-clause-ready : goal.returns-clause-ready
returns-clause-ready c = reached_ready
