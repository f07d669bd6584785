-- Runs over marked constants, whose uses stand in declarations of any form: what is asked of each step (Go
-- specification, Constant declarations; Qualified identifiers; Import declarations).
use Rattle.std.specs.Prelude.{◌≡◌, List, Some, Contains, slice_get}
use Rattle.go_tree.specs.File.{Decl}
use Rattle.go_kernel.specs.Kernel.{FuncName}
use Rattle.go_translation.specs.Packages.{Package}
use Rattle.go_translation.specs.SameMeaning.{WellTyped, with_further}
use Rattle.run_rules.specs.FormTrees.{as_expr}
use Rattle.run_rules.specs.Sites.{MarkRef}
use Rattle.run_rules.specs.Steps.{At, same_here}
use Rattle.run_rules.specs.Surroundings.{Use, Place, seen}
use Rattle.run_rules.specs.Run.{Standing, Logged, Next, Run, ends, goes_on, is_commented}
use Rattle.order_runs.specs.CycleRuns.ImportCycles.ImportSteps.{packages_added}
use Rattle.order_runs.specs.ImportCodes.PackagesMoved.{ImportsStand}
use Rattle.order_runs.specs.RunSteps.RunPackages.{members_of, packages_of}
use Rattle.printed_constants.specs.TypedParts.MarkedRuns.Marked.{decl_there}
use Rattle.printed_constants.specs.TypedParts.MarkedRuns.SettledConstants.Programs.{IsOverConstant, PutsOtherName}
use Rattle.constant_modules.specs.KeyedImports.Steps.{IsOverNameKeyed}
use Rattle.constant_modules.specs.NamedAnywhere.Taken.{site_there, TakesNameAnywhere}
use Rattle.constant_modules.specs.NamedAnywhere.Use.{ConstantUse}

-- Each step of a run is over a constant that is declared as a name, puts another name of it, and takes that name.
abbrev pub AllTakeAnywhere : {marks : List MarkRef} {st last : Standing} {log : List Logged} → Run marks st log last
    → Type 0
AllTakeAnywhere (ends st over) = Unit {0}
AllTakeAnywhere (goes_on st next last l log n run) =
    IsOverConstant n × (PutsOtherName n × (TakesNameAnywhere n × AllTakeAnywhere run))

-- What marked_runs asks of a step (`StandsAdded`), but that nothing is asked of the other declarations of the packages
-- nor of the parts of the declaration of the use, and of what the constant is declared as only that a declaration of
-- constants declares it; nor that the imports are right at last.
pub record StandsNamedThere {marks : List MarkRef} {st : Standing} {l : Logged} {after : Standing}
    (n : Next marks st l after) : Type 0 where
  pub place : Place At
  pub use_ :
      ConstantUse same_here (is_commented st) (packages_added st.packages n.found) marks (site_there n.found place)
  pub used_as : Use
  pub there :
      (d : Decl At) → slice_get n.found.site.at.source.tree.decls n.found.site.decl ≡ Some d
      → Contains (decl_there n d) (seen place used_as use_.use_)
  pub form : n.found.form ≡ as_expr use_.new

-- And the imports are right at last.
pub record StandsAnywhere {marks : List MarkRef} {st : Standing} {l : Logged} {after : Standing}
    (n : Next marks st l after) : Type 0 where
  pub stands : StandsNamedThere n
  pub imports :
      (marked : List FuncName) (Q : List (Package At)) → WellTyped (with_further (packages_of st.packages marked) Q)
      → ImportsStand Q (members_of after.packages)

-- Each step of a run is so, and is over a marked constant as keyed_imports asks.
abbrev pub AllOverAnywhere : {marks : List MarkRef} {st last : Standing} {log : List Logged} → Run marks st log last
    → Type 0
AllOverAnywhere (ends st over) = Unit {0}
AllOverAnywhere (goes_on st next last l log n run) = IsOverNameKeyed n × (StandsAnywhere n × AllOverAnywhere run)
