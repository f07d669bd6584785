-- A table of what constants are declared as, of which the part of the file of a step is found anew. Each law is the
-- contract of a function of this crate (Go specification, Constant declarations; Declarations and scope).
use Rattle.std.specs.Prelude.{◌≡◌, false, List, map, Some, slice_get}
use Rattle.pkg_graph.specs.Views.{package_view}
use Rattle.pkg_graph.specs.declared.packages.Package.{Package}
use Rattle.pkg_graph.specs.declared.packages.SourceTree.{SourceTree}
use Rattle.run_rules.specs.Respanned.{packages_with}
use Rattle.run_rules.specs.Run.{Standing, Logged, Next, here_of}
use Rattle.run_rules.specs.Sites.{MarkRef}
use Rattle.run_rules.specs.Steps.{At, Found}
use Rattle.member_uses.specs.Laws.{AllConstants}
use Rattle.repeated_parts.specs.UseSearch.MarkValues.Tables.{DeclKey, Known, values_at}
use Rattle.programs.specs.FileValues.Filled.{HasFileValues}
use Rattle.programs.specs.Programs.{TellsValues}
use Rattle.stepped_programs.specs.SearchedSites.SettledFiles.Left.{AreSameBut}
use Rattle.stepped_programs.specs.SteppedValues.OfSteps.{is_of_step}

-- The new table has what the constants of the file of the step are declared as among these packages, and of other files
-- what the old one has.
pub record IsFilledAnew (packages : List Package) (f : Found At) (old new : Known) : Type 0 where
  pub home : Package
  pub home_is : slice_get packages f.site.at.number ≡ Some home
  pub source : SourceTree
  pub source_is : slice_get home.files f.site.at.file_number ≡ Some source
  pub here : HasFileValues packages f.site.at.number home f.site.at.file_number source new
  pub others : (q : DeclKey) → is_of_step f q ≡ false → values_at q new ≡ values_at q old

-- Marks that are all of constants before a step are so after it.
abbrev pub ConstantsStayMarked : Type 0
ConstantsStayMarked =
    (marks ms : List MarkRef) (st : Standing) (l : Logged) (after : Standing) → Next marks st l after
    → AllConstants st.packages ms → AllConstants after.packages ms

-- Such a table tells what marked constants are declared as after the step, if the old one told that before it.
abbrev pub ValuesAreToldAfterSteps : Type 0
ValuesAreToldAfterSteps =
    (marks : List MarkRef) (st : Standing) (l : Logged) (after : Standing) (n : Next marks st l after)
    (packages : List Package) (old new : Known)
    → map package_view packages ≡ packages_with here_of after.packages → AllConstants st.packages marks
    → TellsValues marks st.packages old → IsFilledAnew packages n.found old new
    → TellsValues marks after.packages new

-- Of the constants of other files it tells the same.
abbrev pub FilledValuesStayElsewhere : Type 0
FilledValuesStayElsewhere =
    (packages : List Package) (f : Found At) (old new : Known) → IsFilledAnew packages f old new
    → AreSameBut (is_of_step f) old new
