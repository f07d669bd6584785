-- Packages that keep their kernel program mean the same; so do packages that are equal but for spans.
use Rattle.std.proofs.Common.{◌≡◌, refl, sym, ap, ◌∙◌, ℕ, ◌+◌, ◌*◌, Bool, false, List, ◌++◌, length}
use Rattle.go_kernel.specs.Kernel.{FuncName, ImportPath, Covers, free_shows}
use Rattle.go_kernel.proofs.SameShows.{both_ways}
use Rattle.go_translation.specs.Packages.{Package, codes_of, program_of, initial_of, main_of, shown_by}
use Rattle.go_translation.specs.SameMeaning.{Packages, SameMeaning}
use Rattle.order_runs.specs.RunSteps.Bared.{bare_members}
use Rattle.order_runs.specs.RunSteps.SameCode.{SameCode}
use Rattle.order_runs.proofs.RunSteps.SpansForgotten.{codes-alike, typed-alike, beside-alike}

none-free : FuncName → Bool
none-free f = false

module _ {S : Type 0} where
  shows-alike : (A : ℕ) (ps qs : List (Package S)) → codes_of ps ≡ codes_of qs → (main : ImportPath) (choices : List ℕ) (n : ℕ)
      → Covers (shown_by ps main choices n) (shown_by qs main choices ((A + 1) * (n + 1))) × Covers (shown_by qs main choices n) (shown_by ps main choices ((A + 1) * (n + 1)))
  shows-alike A ps qs e main choices n =
      both_ways none-free A (main_of main) choices n (program_of (codes_of ps)) (program_of (codes_of qs)) (initial_of (codes_of ps)) (initial_of (codes_of qs))
      (ap (λ cs. free_shows (program_of cs) none-free A (initial_of cs) (main_of main) choices n) e)

  pub same-code : (P P' : Packages S) → SameCode P P' → SameMeaning P P'
  same-code P P' k = record {
    typed = k.typed;
    covered = λ Q w main m choices n. (shows-alike (length P.marked) (P.members ++ Q) (P'.members ++ Q) (k.codes Q w) main choices n).0;
    covers = λ Q w main m choices n. (shows-alike (length P.marked) (P.members ++ Q) (P'.members ++ Q) (k.codes Q w) main choices n).1;
  }

  pub same-then : (P P' P'' : Packages S) → SameCode P P' → SameCode P' P'' → SameCode P P''
  same-then P P' P'' a b = record { typed = λ Q w. b.typed Q (a.typed Q w); codes = λ Q w. a.codes Q w ∙ b.codes Q (a.typed Q w) }

  pub same-itself : (P : Packages S) → SameCode P P
  same-itself P = record { typed = λ Q w. w; codes = λ Q w. refl }

  pub spans-keep : (P P' : Packages S) → bare_members P.members ≡ bare_members P'.members → SameCode P P'
  spans-keep P P' e = record {
    typed = λ Q w. sym (typed-alike (P.members ++ Q) (P'.members ++ Q) (beside-alike P.members P'.members Q e)) ∙ w;
    codes = λ Q w. codes-alike (P.members ++ Q) (P'.members ++ Q) (beside-alike P.members P'.members Q e);
  }
