-- A run of steps over constants, each in the packages that the steps before it leave (Go specification, Constant
-- declarations; Program execution).
use Rattle.std.specs.Prelude.{ℕ, Bool, List}
use Rattle.go_tree.specs.Tree.{Expr}
use Rattle.go_tree.specs.File.{File}
use Rattle.pkg_graph.specs.Package as run
use Rattle.go_translation.specs.Packages.{Package, sources}
use Rattle.go_translation.specs.SameMeaning.{Packages, WellTyped, with_further}
use Rattle.constant_steps.specs.StepLaws.ConstantSteps.{ImportsRight}
use Rattle.constant_steps.specs.StepLaws.ConstantSwaps.{ConstantSwaps}
use Rattle.constant_steps.specs.StepLaws.SwapPrograms.{members_put}

module _ {S : Type 0} (same : S → S → Bool) where
  -- A step in these packages: the expression is put at the span in the declaration with these numbers, which stands in
  -- the tree of a file of a package of the run's packages. At the span uses of a constant stand that is known, beside
  -- every list of further packages with which the packages are well typed, and the imports after are right.
  pub record StepOverConstant (P : Packages S) : Type 0 where
    pub packages : List (run.Package S)
    pub at : S
    pub new : Expr S
    pub number : ℕ
    pub of : run.Package S
    pub tree : File S
    pub nth_package : ℕ
    pub nth_file : ℕ
    pub nth_decl : ℕ
    pub uses :
        (Q : List (Package S)) → WellTyped (with_further P Q) → ConstantSwaps same packages at new number of tree
        (sources Q) nth_package nth_file nth_decl (sources P.members)
    pub imports :
        (Q : List (Package S)) → WellTyped (with_further P Q) → ImportsRight same packages at new number of tree
        nth_package nth_file nth_decl (sources P.members) (sources Q)

  -- the packages after it
  abbrev pub after_step : (P : Packages S) → StepOverConstant P → Packages S
  after_step P s =
      record P {
        members = members_put same s.packages s.at s.new s.number s.of s.tree s.nth_package s.nth_file
            s.nth_decl P.members;
      }

  -- any number of such steps, one after the other
  pub data ConstantRun : Packages S → Packages S → Type 0 where
    no_step : {P : Packages S} → ConstantRun P P
    and_step : {P P' : Packages S} (s : StepOverConstant P) → ConstantRun (after_step P s) P' → ConstantRun P P'
