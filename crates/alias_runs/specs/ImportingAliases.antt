-- Steps over aliases whose forms need imports that the file of the use hasn't, or leave some that nothing needs; and
-- runs of such steps and of those over constants (Go specification, Alias declarations; Constant declarations;
-- Qualified identifiers; Import declarations).
use Rattle.std.specs.Prelude.{◌≡◌, ℕ, Bool, List}
use Rattle.go_tree.specs.File.{File}
use Rattle.pkg_graph.specs.Package as run
use Rattle.go_translation.specs.Packages.{Package, sources}
use Rattle.go_translation.specs.SameMeaning.{Packages, WellTyped, with_further}
use Rattle.run_rules.specs.FormTrees.{Form}
use Rattle.order_runs.specs.RunSteps.Bared.{bare_members}
use Rattle.order_runs.specs.ImportCodes.PackagesMoved.{PackagesMoved, ImportsStand}
use Rattle.order_runs.specs.ImportSteps.ImportingSteps.{ImportingStep}
use Rattle.alias_runs.specs.AliasSteps.AliasSteps.{members_with_form, AliasSwaps}

module _ {S : Type 0} (same : S → S → Bool) where
  -- A step of a run between these packages. In `added` the file of the use has the imports that the form needs; there
  -- the form is put in the place of uses of an alias; in `read` the same declarations have other spans, as the file is
  -- read again; and last the imports go that nothing needs. Each identifier is all the time the name of the same
  -- package, or of none; the imports are right at last.
  pub record ImportingAliasStep (P P' : Packages S) : Type 0 where
    pub packages : List (run.Package S)
    pub at : S
    pub form : Form S
    pub number : ℕ
    pub of : run.Package S
    pub tree : File S
    pub nth_package : ℕ
    pub nth_file : ℕ
    pub nth_decl : ℕ
    pub added : List (Package S)
    pub adds : PackagesMoved P.members added
    pub swaps :
        (Q : List (Package S)) → WellTyped (with_further P Q) →
        AliasSwaps same packages at form number of tree (sources Q) nth_package nth_file nth_decl (sources added)
    pub read : List (Package S)
    pub respans :
        bare_members (members_with_form same packages at form number of tree nth_package nth_file nth_decl added)
        ≡ bare_members read
    pub settles : PackagesMoved read P'.members
    pub imports : (Q : List (Package S)) → WellTyped (with_further P Q) → ImportsStand Q P'.members

  -- any number of such steps and of steps over constants, in any order
  pub data ImportingNamesRun : Packages S → Packages S → Type 0 where
    no_step : {P : Packages S} → ImportingNamesRun P P
    over_constant :
        {P P' P'' : Packages S} → ImportingStep same P P' → ImportingNamesRun P' P'' → ImportingNamesRun P P''
    over_alias :
        {P P' P'' : Packages S} → ImportingAliasStep P P' → ImportingNamesRun P' P'' → ImportingNamesRun P P''
