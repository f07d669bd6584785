-- Steps that put a literal in the place of its call, in the bodies of functions of well-typed packages (Go
-- specification, Calls; Function literals; Function declarations; Method declarations; Packages).
use Rattle.std.specs.Prelude.{List}
use Rattle.go_translation.specs.Packages as translated
use Rattle.run_rules.specs.Run.{Standing, Logged, Next, is_commented}
use Rattle.run_rules.specs.Sites.{MarkRef}
use Rattle.run_rules.specs.Steps.{At, same_here}
use Rattle.literal_steps.specs.CalledAt.{Linked}
use Rattle.literal_steps.specs.LiteralUse.{LiteralUse, PlainCall}
use Rattle.literal_steps.specs.ServedPackages.ServedFunctions.{NeedsNoImport}
use Rattle.literals_in_place.specs.TypedSteps.Uses.{StandsInBody}

-- In the body of a function or method of well-typed packages, the step's use is the call of a function that becomes its
-- literal, and the literal needs no import that isn't there. The use stands once in the body, and in no group of
-- variables.
pub record PutsLiteralInBody {marks : List MarkRef} {st : Standing} {l : Logged} {after : Standing}
    (n : Next marks st l after) : Type 0 where
  pub becomes : LiteralUse same_here (is_commented st) st.packages marks n.found.site
  pub plain : PlainCall same_here (is_commented st) st.packages marks n.found.site becomes
  pub packages : List (translated.Package At)
  pub linked : Linked st.packages packages n.found.site same_here (is_commented st) marks becomes
  pub no_import : NeedsNoImport same_here (is_commented st) st.packages marks n.found.site becomes
  pub stands : StandsInBody same_here n.found.site st.packages becomes.tree packages
