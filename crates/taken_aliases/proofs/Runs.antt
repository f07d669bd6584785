-- A step over a constant or an alias leaves well-typed packages, and a run of such steps leaves packages that are one
-- program with those of the files as read.
use Rattle.std.proofs.Common.{◌≡◌, refl, sym, ◌∙◌, true, List, [], ◌∷◌, ◌++◌}
use Rattle.std.specs.Prelude.{ℕ}
use Rattle.go_tree.specs.declared.spans.Span.{Span}
use Rattle.go_kernel.specs.Kernel.{FuncName}
use Rattle.pkg_graph.specs.Package as run
use Rattle.go_translation.specs.Packages.{are_well_typed}
use Rattle.order_runs.specs.CycleRuns.Linked.{SettlesFile}
use Rattle.order_runs.proofs.CycleRuns.Runs.{writes-of}
use Rattle.run_rules.specs.Sites.{MarkRef}
use Rattle.run_rules.specs.Texts.{FileText}
use Rattle.run_rules.specs.Respanned.{packages_with}
use Rattle.run_rules.specs.Run.{Standing, Logged, Next, Run, ends, goes_on, as_read, here_of}
use Rattle.run_rules.specs.Inlining.{standing_as_read}
use Rattle.order_runs.specs.RunSteps.RunPackages.{members_of, packages_of}
use Rattle.order_runs.proofs.RunSteps.OtherSpans.{members-with}
use Rattle.order_runs.specs.SameProgram.{SameProgram}
use Rattle.order_runs.proofs.OrderedSteps.{program-then, program-itself}
use Rattle.order_runs.proofs.OrderedRuns.{spans-keep-program}
use Rattle.alias_runs.specs.AliasNext.{IsImportingAlias}
use Rattle.printed_constants.specs.TypedParts.MarkedRuns.SettledConstants.Laws as settled
use Rattle.printed_constants.specs.TypedParts.MarkedRuns.SettledConstants.Programs.{IsReady}
use Rattle.printed_constants.proofs.TypedParts.MarkedRuns.ReadyModules.Typed.{linked_typed}
use Rattle.printed_constants.proofs.TypedParts.MarkedRuns.TakenNames.Steps as constants
use Rattle.taken_aliases.specs.Taken.{in_its_place, TakesAlias, TakesEither, of_constant, of_alias, EachTakesEither}
use Rattle.taken_aliases.proofs.Steps as aliases

nothing-behind : {A : Type 0} (xs : List A) → xs ++ [] ≡ xs
nothing-behind [] = refl
nothing-behind (x ∷ xs) = λ v. x ∷ nothing-behind xs v

module _ (marks : List MarkRef) (st : Standing) (l : Logged) (after : Standing) (n : Next marks st l after) where
  pub importing-taken : IsImportingAlias n → TakesAlias n
  importing-taken h = record {
    place = n.found.site.place;
    use_ = h.use_;
    stands = h.stands;
    placed = in_its_place h.placed;
    form = h.form;
    names = h.names;
    sound = h.sound;
    imports = h.imports;
  }

  step-keeps : TakesEither n → (marked : List FuncName) → SameProgram (packages_of st.packages marked) (packages_of after.packages marked)
  step-keeps (of_constant h) marked = constants.same-program marks st l after n h marked
  step-keeps (of_alias h) marked = aliases.same-program marks st l after n h marked

  pub typed-next : TakesEither n → are_well_typed (members_of st.packages) ≡ true → are_well_typed (members_of after.packages) ≡ true
  typed-next h w =
      (λ v. are_well_typed (sym (nothing-behind (members_of after.packages)) v))
      ∙ (step-keeps h []).typed [] ((λ v. are_well_typed (nothing-behind (members_of st.packages) v)) ∙ w)

  pub ready-next : settled.StepsStayReady → IsReady st → are_well_typed (members_of st.packages) ≡ true → SettlesFile n → TakesEither n → IsReady after × (are_well_typed (members_of after.packages) ≡ true)
  ready-next stays ready w settles h =
      let typed : are_well_typed (members_of after.packages) ≡ true = typed-next h w in
      (stays marks st l after n ready (writes-of settles) (linked_typed after.packages typed), typed)

pub run-keeps : (marks : List MarkRef) (st last : Standing) (log : List Logged) (run : Run marks st log last) → EachTakesEither run → (marked : List FuncName) → SameProgram (packages_of st.packages marked) (packages_of last.packages marked)
run-keeps marks st _ _ (ends _ over) h marked = program-itself (packages_of st.packages marked)
run-keeps marks st last _ (goes_on _ next _ l log n run) h marked =
    program-then (packages_of st.packages marked) (packages_of next.packages marked) (packages_of last.packages marked) (step-keeps marks st l next n h.0 marked) (run-keeps marks next last log run h.1 marked)

pub module-keeps : (ps : List (run.Package Span)) (texts : List (List ℕ × FileText)) (marks : List MarkRef) (last : Standing) (log : List Logged) → (run : Run marks (standing_as_read ps texts) log last) → EachTakesEither run → (marked : List FuncName)
    → SameProgram (packages_of ps marked) (packages_of (packages_with here_of last.packages) marked)
module-keeps ps texts marks last log run h marked =
    spans-keep-program (packages_with as_read ps) last.packages marked (run-keeps marks (standing_as_read ps texts) last log run h marked) ps (packages_with here_of last.packages) (sym (members-with as_read ps)) (members-with here_of last.packages)
