-- Programs of constants and of functions that print them, on the way of a run (Go specification, Constant declarations;
-- Packages; Package clause; the limits are this project's own).
use Rattle.std.specs.Prelude.{◌≡◌, ◌+◌, ◌≤◌, true, List, []}
use Rattle.pkg_graph.specs.Reads.{Source}
use Rattle.constant_steps.specs.FormImports.OwnNames.{AllOwn}
use Rattle.go_translation.specs.SameMeaning.{WellTyped}
use Rattle.printed_constants.specs.TypedParts.MarkedRuns.LinkedMembers.Laws.{HaveFiles}
use Rattle.printed_constants.specs.TypedParts.MarkedRuns.NamedMarks.Named.{AllNamed}
use Rattle.printed_constants.specs.TypedParts.MarkedRuns.SettledConstants.Programs.{IsReady}
use Rattle.order_runs.specs.RunSteps.RunPackages.{packages_of}
use Rattle.run_by_steps.specs.RunProgress.Laws.{are_paths_apart}
use Rattle.run_rules.specs.Run.{Standing, module_file_size, texts_size, the_limits}
use Rattle.run_rules.specs.Sites.{MarkRef}
use Rattle.printed_constants.specs.NamedUses.Names.{AllConstantsNames}
use Rattle.run_rules.specs.Printed.{ArePrinted}

-- The program is ready and well typed, all its declarations are constants and functions that print them, and its marks
-- are those of constants that are declared as names of constants. Each package has a file and a name of its own, and
-- each text a path of its own; with `go.mod` the texts are within the limit of a run.
pub record IsPrintedProgram (files : List Source) (marks : List MarkRef) (st : Standing) : Type 0 where
  pub ready : IsReady st
  pub typed : WellTyped (packages_of st.packages [])
  pub printed : ArePrinted st.packages
  pub named : AllNamed st.packages marks
  pub constants : AllConstantsNames st.packages marks
  pub own : AllOwn st.packages
  pub have_files : HaveFiles st.packages
  pub apart : are_paths_apart st.texts ≡ true
  pub small : module_file_size files + texts_size st.texts ≤ the_limits.total
