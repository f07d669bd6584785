-- A use with the imports of its form added to its file, in a program of constants and of functions that print them
-- (Go specification, Constant declarations; Qualified identifiers; Import declarations).
use Rattle.std.specs.Prelude.{◌≡◌, List, Some, Contains, slice_get}
use Rattle.go_tree.specs.File.{Decl}
use Rattle.order_runs.specs.CycleRuns.ImportCycles.ImportSteps.{packages_added}
use Rattle.printed_constants.specs.TypedParts.MarkedRuns.Marked.{decl_there}
use Rattle.constant_steps.specs.QualifiedSteps.NamedUse.{NamedUse}
use Rattle.run_rules.specs.FormTrees.{as_expr}
use Rattle.run_rules.specs.Run.{Standing, Logged, Next, is_commented}
use Rattle.run_rules.specs.Sites.{MarkRef}
use Rattle.run_rules.specs.Steps.{At, same_here}
use Rattle.run_rules.specs.Surroundings.{Use, Place, seen}
use Rattle.printed_constants.specs.TypedParts.MarkedRuns.TakenNames.Taken.{site_there}

-- With the imports of the form added the use stands at this place, is a name of a constant that is declared as
-- another's name, and becomes that name.
pub record IsNamedThere {marks : List MarkRef} {st : Standing} {l : Logged} {after : Standing}
    (n : Next marks st l after) : Type 0 where
  pub place : Place At
  pub use_ : NamedUse same_here (is_commented st) (packages_added st.packages n.found) marks (site_there n.found place)
  pub used_as : Use
  pub there :
      (d : Decl At) → slice_get n.found.site.at.source.tree.decls n.found.site.decl ≡ Some d
      → Contains (decl_there n d) (seen place used_as use_.use_)
  pub form : n.found.form ≡ as_expr use_.new
