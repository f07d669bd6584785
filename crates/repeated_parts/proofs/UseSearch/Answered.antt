-- What is answered of a use of which constant_forms is told.
use Rattle.std.proofs.Common.{Option, Some, None}
use Rattle.std.specs.Prelude.{MatchOption}
use Rattle.constant_forms.specs.declared.uses.ConstantUse.{ConstantUse}
use Rattle.constant_forms.specs.declared.reduced.ReducedConstant.{ReducedConstant}
use Rattle.constant_forms.specs.Told.{AreInPackages}
use Rattle.repeated_parts.specs.declared.use_search.uses_of_marks.uses.MarkedUse.{MarkedUse}
use Rattle.repeated_parts.specs.declared.use_search.views.FileView.{FileView}
use Rattle.repeated_parts.specs.declared.use_search.views.ProgramView.{ProgramView}
use Rattle.repeated_parts.specs.UseSearch.Answers.{IsTold, IsReduction, IsAnswer}

pub answered : (p : ProgramView) (f : FileView) (u : MarkedUse) (c : ConstantUse) (r : Option ReducedConstant) → IsTold p f u c → MatchOption r (AreInPackages c → ⊥) (IsReduction c)
    → IsAnswer p f u r
answered p f u c None t m = λ v e h k. (c, (t, m))
answered p f u c (Some r) t m = (c, (t, m))
