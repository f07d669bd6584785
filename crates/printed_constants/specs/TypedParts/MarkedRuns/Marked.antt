-- Runs over marked constants: what is asked of each step besides its mark (Go specification, Constant declarations;
-- Qualified identifiers; Import declarations).
use Rattle.std.specs.Prelude.{◌≡◌, List, map, Some, Contains, slice_get}
use Rattle.go_tree.specs.File.{Decl}
use Rattle.go_kernel.specs.Kernel.{FuncName}
use Rattle.go_translation.specs.Packages.{Package}
use Rattle.go_translation.specs.SameMeaning.{WellTyped, with_further}
use Rattle.run_rules.specs.FormTrees.{as_expr}
use Rattle.run_rules.specs.Sites.{MarkRef}
use Rattle.run_rules.specs.Surroundings.{Use, Place, Seen, seen}
use Rattle.run_rules.specs.Programs.{linked_file, decl_seen}
use Rattle.run_rules.specs.Steps.{At, same_here}
use Rattle.run_rules.specs.Run.{Standing, Logged, Next, Run, ends, goes_on, is_commented}
use Rattle.constant_steps.specs.Alone.{PlainFiles}
use Rattle.constant_steps.specs.PlainUse.{AllSimple}
use Rattle.order_runs.specs.CycleRuns.ImportCycles.ImportSteps.{file_added, packages_added, where_added}
use Rattle.order_runs.specs.ImportCodes.PackagesMoved.{ImportsStand}
use Rattle.constant_steps.specs.QualifiedSteps.NamedUse.{NamedUse}
use Rattle.order_runs.specs.RunSteps.RunPackages.{members_of, packages_of}
use Rattle.printed_constants.specs.TypedParts.MarkedRuns.TakenNames.Taken.{site_there}
use Rattle.printed_constants.specs.TypedParts.MarkedRuns.KeptMarks.Over.{IsOverName}

-- the parts of a declaration of the use's file with the imports of the form added
abbrev pub decl_there : {marks : List MarkRef} {st : Standing} {l : Logged} {after : Standing}
    → Next marks st l after → Decl At → List (Seen At)
decl_there {st = st} n d =
    decl_seen
    (packages_added st.packages n.found)
    n.found.site.at.number
    (where_added n.found).of
    (file_added n.found)
    d

-- What taken_names asks of it (`TakesName`), but what follows: that nothing else stands at the span of the use, that
-- each identifier is the name of the same import, or of none, and that imports may be declared. With the imports of the
-- form added the use stands at this place, is a name of a constant that is declared as another's name, and becomes that
-- name. All declarations of its package, of that of the constant and of that of the other are plain, and the parts of
-- its own are simple; the imports are right at last.
pub record StandsAdded {marks : List MarkRef} {st : Standing} {l : Logged} {after : Standing}
    (n : Next marks st l after) : Type 0 where
  pub place : Place At
  pub use_ : NamedUse same_here (is_commented st) (packages_added st.packages n.found) marks (site_there n.found place)
  pub used_as : Use
  pub there :
      (d : Decl At) → slice_get n.found.site.at.source.tree.decls n.found.site.decl ≡ Some d
      → Contains (decl_there n d) (seen place used_as use_.use_)
  pub plain : PlainFiles (map (linked_file (packages_added st.packages n.found)) (where_added n.found).of.files)
  pub home_plain : PlainFiles (map (linked_file (packages_added st.packages n.found)) use_.home.of.files)
  pub new_plain : PlainFiles (map (linked_file (packages_added st.packages n.found)) use_.new_home.of.files)
  pub simple :
      (d : Decl At) → slice_get n.found.site.at.source.tree.decls n.found.site.decl ≡ Some d
      → AllSimple (decl_there n d)
  pub form : n.found.form ≡ as_expr use_.new
  pub imports :
      (marked : List FuncName) (Q : List (Package At)) → WellTyped (with_further (packages_of st.packages marked) Q)
      → ImportsStand Q (members_of after.packages)

-- Each step of a run is so, and is over a marked constant as kept_marks asks.
abbrev pub AllOverNames : {marks : List MarkRef} {st last : Standing} {log : List Logged} → Run marks st log last
    → Type 0
AllOverNames (ends st over) = Unit {0}
AllOverNames (goes_on st next last l log n run) = IsOverName n × (StandsAdded n × AllOverNames run)
