-- Steps of a run over aliases, with the imports that their forms need, at the place that the use has once these are
-- added; and runs of such steps and of those over constants (Go specification, Alias declarations; Constant
-- declarations; Qualified identifiers; Import declarations).
use Rattle.std.specs.Prelude.{◌≡◌, ℕ, Bool, List}
use Rattle.go_kernel.specs.Kernel.{FuncName}
use Rattle.pkg_graph.specs.Package as run
use Rattle.go_translation.specs.Packages.{Package}
use Rattle.go_translation.specs.SameMeaning.{WellTyped, with_further}
use Rattle.run_rules.specs.Surroundings.{Place}
use Rattle.run_rules.specs.Sites.{MarkRef, Site}
use Rattle.run_rules.specs.Steps.{At, same_here}
use Rattle.run_rules.specs.Run.{Standing, Logged, Next, Run, ends, goes_on, is_commented}
use Rattle.order_runs.specs.CycleRuns.ImportCycles.ImportSteps.{packages_added}
use Rattle.order_runs.specs.CycleRuns.OrderCycles.Steps.{KeepsImportNames}
use Rattle.order_runs.specs.RunSteps.RunPackages.{members_of, packages_of}
use Rattle.order_runs.specs.ImportCodes.PackagesMoved.{ImportsStand}
use Rattle.alias_runs.specs.QualifiedAliases.AliasUse.{AliasUse, AliasUseStands, ImportsHold}
use Rattle.alias_runs.specs.CalledAliases.CalledUse.{IsPlaced}
use Rattle.taken_aliases.specs.AliasReceivers.ReceiverUses.{IsReceiverUse}
use Rattle.printed_constants.specs.TypedParts.MarkedRuns.TakenNames.Taken.{site_there, TakesName}

-- The use is a written type or an expression; or it is the type of a method's receiver, and becomes another name of it.
pub data IsTaken {S : Type 0} (same : S → S → Bool) (commented : ℕ → ℕ → S → Bool) (rs : List (run.Package S))
    (marks : List MarkRef) (x : Site S) (u : AliasUse same commented rs marks x)
    (v : AliasUseStands same commented rs marks x u) : Type 0 where
  in_its_place : IsPlaced same commented rs marks x u v → IsTaken same commented rs marks x u v
  of_a_receiver : IsReceiverUse same commented rs marks x u v → IsTaken same commented rs marks x u v

-- With the imports of the form added, the use stands at this place. It is a name of an alias, as a written type, as an
-- expression or as the type of a receiver, and becomes the type that the alias is declared as, for which the file has
-- all imports then. These have new names, and each identifier is last the name of the same import, or of none; the
-- imports of the packages are right at last.
pub record TakesAlias {marks : List MarkRef} {st : Standing} {l : Logged} {after : Standing} (n : Next marks st l after)
    : Type 0 where
  pub place : Place At
  pub use_ : AliasUse same_here (is_commented st) (packages_added st.packages n.found) marks (site_there n.found place)
  pub stands :
      AliasUseStands same_here (is_commented st) (packages_added st.packages n.found) marks
      (site_there n.found place) use_
  pub placed :
      IsTaken same_here (is_commented st) (packages_added st.packages n.found) marks (site_there n.found place) use_
      stands
  pub form : n.found.form ≡ use_.form
  pub names : KeepsImportNames n
  pub sound :
      ImportsHold same_here (is_commented st) (packages_added st.packages n.found) marks
      (site_there n.found place) use_
  pub imports :
      (marked : List FuncName) (Q : List (Package At)) → WellTyped (with_further (packages_of st.packages marked) Q)
      → ImportsStand Q (members_of after.packages)

-- a step over a constant that is declared as a name, or over an alias
pub data TakesEither {marks : List MarkRef} {st : Standing} {l : Logged} {after : Standing} (n : Next marks st l after)
    : Type 0 where
  of_constant : TakesName n → TakesEither n
  of_alias : TakesAlias n → TakesEither n

-- so is each step of a run
abbrev pub EachTakesEither : {marks : List MarkRef} {st last : Standing} {log : List Logged} → Run marks st log last
    → Type 0
EachTakesEither (ends st over) = Unit {0}
EachTakesEither (goes_on st next last l log n run) = TakesEither n × EachTakesEither run
