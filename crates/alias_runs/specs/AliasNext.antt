-- Steps of a run over aliases, with the imports that their forms need; and runs of such steps and of those over
-- constants (Go specification, Alias declarations; Constant declarations; Qualified identifiers; Import
-- declarations; Program initialization).
use Rattle.std.specs.Prelude.{◌≡◌, List}
use Rattle.go_kernel.specs.Kernel.{FuncName}
use Rattle.go_translation.specs.Packages.{Package}
use Rattle.go_translation.specs.SameMeaning.{WellTyped, with_further}
use Rattle.run_rules.specs.Sites.{MarkRef}
use Rattle.run_rules.specs.Steps.{At, same_here}
use Rattle.run_rules.specs.Run.{Standing, Logged, Next, Run, ends, goes_on, is_commented}
use Rattle.order_runs.specs.CycleRuns.ImportCycles.ImportSteps.{packages_added}
use Rattle.order_runs.specs.CycleRuns.OrderCycles.Steps.{site_added, KeepsImportNames}
use Rattle.order_runs.specs.RunSteps.RunPackages.{members_of, packages_of}
use Rattle.order_runs.specs.ImportCodes.PackagesMoved.{ImportsStand}
use Rattle.order_runs.specs.ImportRuns.ImportingNext.{IsImporting}
use Rattle.alias_runs.specs.QualifiedAliases.AliasUse.{AliasUse, AliasUseStands, ImportsHold}
use Rattle.alias_runs.specs.CalledAliases.CalledUse.{IsPlaced}

-- The use is a name of an alias, as a written type or as an expression, and becomes the type that the alias is declared
-- as, for which the file has all imports once those of the form are added. These have new names, and each identifier is
-- last the name of the same import, or of none; the imports of the packages are right at last.
pub record IsImportingAlias {marks : List MarkRef} {st : Standing} {l : Logged} {after : Standing}
    (n : Next marks st l after) : Type 0 where
  pub use_ : AliasUse same_here (is_commented st) (packages_added st.packages n.found) marks (site_added n.found)
  pub stands :
      AliasUseStands same_here (is_commented st) (packages_added st.packages n.found) marks (site_added n.found) use_
  pub placed :
      IsPlaced same_here (is_commented st) (packages_added st.packages n.found) marks (site_added n.found) use_ stands
  pub form : n.found.form ≡ use_.form
  pub names : KeepsImportNames n
  pub sound :
      ImportsHold same_here (is_commented st) (packages_added st.packages n.found) marks (site_added n.found) use_
  pub imports :
      (marked : List FuncName) (Q : List (Package At)) → WellTyped (with_further (packages_of st.packages marked) Q)
      → ImportsStand Q (members_of after.packages)

-- a step over a constant that is declared as a name, or over an alias
pub data IsName {marks : List MarkRef} {st : Standing} {l : Logged} {after : Standing} (n : Next marks st l after)
    : Type 0 where
  of_constant : IsImporting n → IsName n
  of_alias : IsImportingAlias n → IsName n

-- so is each step of a run
abbrev pub EachIsName : {marks : List MarkRef} {st last : Standing} {log : List Logged} → Run marks st log last
    → Type 0
EachIsName (ends st over) = Unit {0}
EachIsName (goes_on st next last l log n run) = IsName n × EachIsName run
