-- A step among constants and functions that print them is over a marked constant, as kept_marks asks.
use Rattle.splice_laws.specs.ImportSplices.FormSplices.Laws.{MakesForm}
use Rattle.splice_laws.proofs.ImportSplices.FormSplices.FormsFound.{step-makes-form}
use Rattle.printed_constants.proofs.TypedParts.MarkedRuns.NamedMarks.Used.{named-used}
use Rattle.printed_constants.proofs.FormNames.Forms.{form_not_blank}
use Rattle.put_names.specs.Uses.{UsesConstant}
use Rattle.put_names.proofs.Constants.{constant_becomes}
use Rattle.printed_constants.specs.PrintedUses.Laws.{PrintedStepsAreOver}
use Rattle.order_runs.specs.CycleRuns.OrderCycles.NewNames.{AvoidsFew}
use Rattle.printed_constants.proofs.CountedNames.Avoided.{avoided_few}
use Rattle.printed_constants.proofs.PrintedUses.Expressions.{site_expression}
use Rattle.printed_constants.proofs.RemovedImports.Removed.{removes_none}

pub steps_over : PrintedStepsAreOver
steps_over marks st l after n ready printed own named small =
    let m : MakesForm marks st n.found = step-makes-form marks st l after n in
    let e = site_expression st.packages marks printed n.found.site m.is_use in
    let uses : UsesConstant n = named-used marks st l after n e.0 e.1 named in
    let few : AvoidsFew st.packages n.found = avoided_few marks st l after n ready.reads ready.paths printed named small in
    record {
      old = e.0;
      part = e.1;
      few = few;
      removes = removes_none marks st l after n ready.reads printed named;
      spelled = form_not_blank marks st l after n own few (constant_becomes marks st l after n ready.reads uses).0;
    }
