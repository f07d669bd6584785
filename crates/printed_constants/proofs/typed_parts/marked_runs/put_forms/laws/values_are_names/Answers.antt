use Rattle.printed_constants.proofs.TypedParts.MarkedRuns.PutForms.Values.{values_are_names}
use Rattle.printed_constants.proofs.typed_parts.marked_runs.put_forms.laws.values_are_names.Goals as goal

pub returns : goal.returns
returns c = values_are_names
