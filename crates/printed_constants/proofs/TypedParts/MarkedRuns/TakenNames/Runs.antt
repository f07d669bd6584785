-- A step over a constant leaves well-typed packages, and a run of such steps leaves packages that are one program with
-- those of the files as read.
use Rattle.std.proofs.Common.{◌≡◌, refl, sym, ◌∙◌, true, List, [], ◌∷◌, ◌++◌}
use Rattle.std.specs.Prelude.{ℕ}
use Rattle.go_tree.specs.declared.spans.Span.{Span}
use Rattle.go_kernel.specs.Kernel.{FuncName}
use Rattle.pkg_graph.specs.Package as run
use Rattle.go_translation.specs.Packages.{are_well_typed}
use Rattle.run_rules.specs.Sites.{MarkRef}
use Rattle.run_rules.specs.Texts.{FileText}
use Rattle.run_rules.specs.Respanned.{packages_with}
use Rattle.run_rules.specs.Run.{Standing, Logged, Next, Run, ends, goes_on, as_read, here_of}
use Rattle.run_rules.specs.Inlining.{standing_as_read}
use Rattle.order_runs.specs.RunSteps.RunPackages.{members_of, packages_of}
use Rattle.order_runs.proofs.RunSteps.OtherSpans.{members-with}
use Rattle.order_runs.specs.ImportRuns.ImportingNext.{IsImporting}
use Rattle.order_runs.specs.SameProgram.{SameProgram}
use Rattle.order_runs.proofs.OrderedSteps.{program-then, program-itself}
use Rattle.order_runs.proofs.OrderedRuns.{spans-keep-program}
use Rattle.printed_constants.specs.TypedParts.MarkedRuns.TakenNames.Taken.{TakesName, EachTakes}
use Rattle.printed_constants.proofs.TypedParts.MarkedRuns.TakenNames.Steps.{same-program}

nothing-behind : {A : Type 0} (xs : List A) → xs ++ [] ≡ xs
nothing-behind [] = refl
nothing-behind (x ∷ xs) = λ v. x ∷ nothing-behind xs v

module _ (marks : List MarkRef) (st : Standing) (l : Logged) (after : Standing) (n : Next marks st l after) where
  pub importing-takes : IsImporting n → TakesName n
  importing-takes h = record {
    place = n.found.site.place;
    use_ = h.use_;
    stands = h.stands;
    form = h.form;
    names = h.names;
    file_sound = h.file_sound;
    home_sound = h.home_sound;
    imports = h.imports;
  }

  pub typed-next : TakesName n → are_well_typed (members_of st.packages) ≡ true → are_well_typed (members_of after.packages) ≡ true
  typed-next h w =
      (λ v. are_well_typed (sym (nothing-behind (members_of after.packages)) v))
      ∙ (same-program marks st l after n h []).typed [] ((λ v. are_well_typed (nothing-behind (members_of st.packages) v)) ∙ w)

pub run-keeps : (marks : List MarkRef) (st last : Standing) (log : List Logged) (run : Run marks st log last) → EachTakes run → (marked : List FuncName) → SameProgram (packages_of st.packages marked) (packages_of last.packages marked)
run-keeps marks st _ _ (ends _ over) h marked = program-itself (packages_of st.packages marked)
run-keeps marks st last _ (goes_on _ next _ l log n run) h marked =
    program-then (packages_of st.packages marked) (packages_of next.packages marked) (packages_of last.packages marked) (same-program marks st l next n h.0 marked) (run-keeps marks next last log run h.1 marked)

pub module-keeps : (ps : List (run.Package Span)) (texts : List (List ℕ × FileText)) (marks : List MarkRef) (last : Standing) (log : List Logged) → (run : Run marks (standing_as_read ps texts) log last) → EachTakes run → (marked : List FuncName)
    → SameProgram (packages_of ps marked) (packages_of (packages_with here_of last.packages) marked)
module-keeps ps texts marks last log run h marked =
    spans-keep-program (packages_with as_read ps) last.packages marked (run-keeps marks (standing_as_read ps texts) last log run h marked) ps (packages_with here_of last.packages) (sym (members-with as_read ps)) (members-with here_of last.packages)
