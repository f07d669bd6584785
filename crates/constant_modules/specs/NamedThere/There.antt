-- A use with the imports of its form added to its file, in a program of any declarations (Go specification, Constant
-- declarations; Qualified identifiers; Import declarations; Blocks).
use Rattle.std.specs.Prelude.{◌≡◌, true, None, List, Some, Contains, slice_get}
use Rattle.go_tree.specs.File.{Decl}
use Rattle.pkg_graph.specs.Package.{Package}
use Rattle.order_runs.specs.CycleRuns.ImportCycles.ImportSteps.{packages_added}
use Rattle.printed_constants.specs.TypedParts.MarkedRuns.Marked.{decl_there}
use Rattle.run_rules.specs.FormTrees.{as_expr}
use Rattle.run_rules.specs.Run.{Standing, Logged, Next, is_commented}
use Rattle.run_rules.specs.Sites.{MarkRef, is_among_marks}
use Rattle.run_rules.specs.Steps.{At, same_here}
use Rattle.run_rules.specs.Surroundings.{Use, Place, seen}
use Rattle.constant_modules.specs.ConstantsOfGroups.Groups.{marked_type}
use Rattle.constant_modules.specs.NamedAnywhere.Taken.{site_there}
use Rattle.constant_modules.specs.NamedAnywhere.Use.{ConstantUse}
use Rattle.constant_modules.specs.NamedThere.Alike.{StandsAlike}

-- With the imports of the form added the use stands at a place alike, where the walk over its declaration lists it;
-- there it is a name of a constant that is declared as another's name, and becomes that name.
pub record IsUsedThere {marks : List MarkRef} {st : Standing} {l : Logged} {after : Standing}
    (n : Next marks st l after) : Type 0 where
  pub place : Place At
  pub alike : StandsAlike n.found.site.place place
  pub use_ :
      ConstantUse same_here (is_commented st) (packages_added st.packages n.found) marks (site_there n.found place)
  pub used_as : Use
  pub there :
      (d : Decl At) → slice_get n.found.site.at.source.tree.decls n.found.site.decl ≡ Some d
      → Contains (decl_there n d) (seen place used_as use_.use_)
  pub form : n.found.form ≡ as_expr use_.new

-- no type is written for a marked constant, whichever names share its spec: as for each that a mark can hold for
abbrev pub AllUntyped : List (Package At) → List MarkRef → Type 0
AllUntyped ps marks = (m : MarkRef) → is_among_marks marks m ≡ true → marked_type ps m ≡ None
