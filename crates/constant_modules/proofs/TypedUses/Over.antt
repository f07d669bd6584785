-- The first use of a typed program is that of a constant which is declared as a name, and each step is over one.
use Rattle.splice_laws.specs.ImportSplices.FormSplices.Laws.{MakesForm}
use Rattle.order_runs.proofs.RunSteps.SeatedUses.{Seated}
use Rattle.put_names.specs.Uses.{UsesConstant}
use Rattle.put_names.proofs.Constants.{constant_becomes}
use Rattle.printed_constants.specs.TypedParts.MarkedRuns.NamedMarks.Named.{IsNamedConstant}
use Rattle.printed_constants.proofs.TypedParts.MarkedRuns.NamedMarks.Used.{of-expr, named-used}
use Rattle.printed_constants.proofs.TypedParts.MarkedRuns.PutForms.FirstUses.{makes, seated}
use Rattle.printed_constants.proofs.FormNames.Forms.{form_not_blank}
use Rattle.constant_modules.specs.TypedUses.Laws.{FirstUsesUseConstants, StepsAreOverNames}
use Rattle.constant_modules.proofs.TypedUses.NoTypes.{uses_expressions, steps_use}

pub first_uses : FirstUsesUseConstants
first_uses marks st f old ready typed all is few =
    let m : MakesForm marks st f = makes marks st f old is.is_first is.there in
    let e = uses_expressions marks st ready typed all f.site m.is_use in
    let s : Seated st.packages marks f.site = seated marks st f old is.is_first is.there in
    let c : IsNamedConstant st.packages f.site.mark = all f.site.mark (of-expr st.packages marks f.site.at f.site.place e.0 f.site.mark (s.is_use e.0 e.1)) in
    record { home = c.home; home_is = c.home_is; name = c.name; value = c.value; declared = c.declared; as_name = c.as_name; expr = e.0; part = e.1; few = few }

pub steps_over : StepsAreOverNames
steps_over marks st l after n ready typed own all few kept =
    let e = steps_use marks st l after n ready typed all in
    let uses : UsesConstant n = named-used marks st l after n e.0 e.1 all in
    record { old = e.0; part = e.1; few = few; kept = kept; spelled = form_not_blank marks st l after n own few (constant_becomes marks st l after n ready.reads uses).0 }
