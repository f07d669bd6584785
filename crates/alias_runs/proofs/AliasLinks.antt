-- Packages after a step over an alias are linked to those before: they declare the same, are typed alike but for their imports, and have the same code.
use Rattle.std.specs.Prelude.{◌≡◌, refl, ℕ, zero, suc, Bool, true, ◌||◌, List, [], ◌∷◌, ◌++◌}
use Rattle.std.specs.List.{list_any}
use mathlib.Core.Path.{ap, sym, ◌∙◌, subst}
use Rattle.go_tree.specs.File.{File}
use Rattle.pkg_graph.specs.Package as run
use Rattle.typed_in_place.specs.ImportRule.{declarations_ok}
use Rattle.typed_in_place.specs.ProgramReplaced.{InPlaceBeside}
use Rattle.typed_in_place.specs.ProgramsAlike.{OneByOne}
use Rattle.typed_in_place.proofs.ProgramsReplaced.{declarations_as_before_beside}
use Rattle.go_translation.specs.Packages.{Package, sources, has_number, are_distinct}
use Rattle.run_rules.specs.FormTrees.{Form}
use Rattle.constant_steps.proofs.StepLaws.FurtherApart.{further-apart}
use Rattle.order_runs.proofs.ImportSteps.Links.{Link}
use Rattle.alias_runs.specs.AliasSteps.AliasSteps.{members_with_form, AliasSwaps}
use Rattle.alias_runs.specs.AliasSteps.RetypedPrograms.{RetypedProgram}
use Rattle.alias_runs.proofs.AliasSteps.AliasStepLaw.{sources-put, paths-put, alias-program}
use Rattle.alias_runs.proofs.AliasSteps.RetypedInPlace.{retyped-in-place}
use Rattle.alias_runs.proofs.AliasSteps.RetypedMeaning.{sources-append, distinct-too, declared-same, codes-same}

module _ {S : Type 0} where
  -- with types written otherwise
  pub retyped-link : (ps qs more : List (Package S)) → OneByOne (λ p q. p.path ≡ q.path) ps qs → RetypedProgram (sources more) (sources ps) (sources qs) → are_distinct (ps ++ more) ≡ true → Link (ps ++ more) (qs ++ more)
  retyped-link ps qs more e s d =
      let place : InPlaceBeside (sources more) (sources ps) (sources qs) = retyped-in-place (sources more) (sources ps) (sources qs) s (further-apart ps more d) in
      record {
        distinct = distinct-too ps qs more e s;
        declare = declared-same ps qs more e s d;
        typed = ap declarations_ok (sources-append ps more) ∙ declarations_as_before_beside (sources more) (sources ps) (sources qs) place ∙ sym (ap declarations_ok (sources-append qs more));
        codes = codes-same ps qs more e s d;
      }

  module _ (same : S → S → Bool) (rs : List (run.Package S)) (z : S) (form : Form S) (number : ℕ) (pk : run.Package S) (tree : File S) where
    -- with the form in the place of uses of an alias
    pub form-link : (k m n : ℕ) (ps more : List (Package S)) → AliasSwaps same rs z form number pk tree (sources more) k m n (sources ps) → are_distinct (ps ++ more) ≡ true → Link (ps ++ more) (members_with_form same rs z form number pk tree k m n ps ++ more)
    form-link k m n ps more s d =
        retyped-link ps (members_with_form same rs z form number pk tree k m n ps) more (paths-put same rs z form number pk tree k m n ps)
        (subst (λ qs. RetypedProgram (sources more) (sources ps) qs) (sym (sources-put same rs z form number pk tree k m n ps)) (alias-program same rs z form number pk tree (sources more) k m n (sources ps) s)) d

    -- a step changes no package's number
    pub form-numbers : (k m n x : ℕ) (ms : List (Package S)) → list_any (has_number x) ms ≡ list_any (has_number x) (members_with_form same rs z form number pk tree k m n ms)
    form-numbers k m n x [] = refl
    form-numbers zero m n x (p ∷ ms) = refl
    form-numbers (suc k) m n x (p ∷ ms) = λ v. has_number x p || form-numbers k m n x ms v
