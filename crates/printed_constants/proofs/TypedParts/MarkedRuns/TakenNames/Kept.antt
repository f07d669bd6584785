-- Runs over constants from a module that reads: what they keep.
use Rattle.std.proofs.Common.{◌≡◌, refl, ◌∙◌, true, List}
use Rattle.std.specs.Prelude.{ℕ}
use Rattle.std.specs.List.{list_all}
use Rattle.go_tree.specs.declared.spans.Span.{Span}
use Rattle.go_tree.specs.GoWords.Tokens.Characters.{each}
use Rattle.splice_laws.specs.ImportSplices.AddedFile.{is_byte}
use Rattle.pkg_graph.specs.Package as run
use Rattle.pkg_graph.specs.Reads.{Source}
use Rattle.go_translation.specs.Packages.{are_well_typed}
use Rattle.run_rules.specs.Cycles.{is_recursive}
use Rattle.run_rules.specs.Sites.{MarkRef}
use Rattle.run_rules.specs.Texts.{FileText}
use Rattle.run_rules.specs.Respanned.{packages_with}
use Rattle.run_rules.specs.Run.{Standing, Logged, Next, Run, ends, goes_on, here_of}
use Rattle.run_rules.specs.Inlining.{ModuleReads, standing_as_read}
use Rattle.order_runs.specs.RunSteps.RunPackages.{members_of, packages_of}
use Rattle.order_runs.proofs.OrderedSteps.{program-means}
use Rattle.printed_constants.specs.TypedParts.MarkedRuns.SettledConstants.Laws as settled
use Rattle.order_runs.specs.CycleRuns.Linked.{WritesFile}
use Rattle.order_runs.proofs.CycleRuns.Runs.{writes-of}
use Rattle.printed_constants.specs.TypedParts.MarkedRuns.SettledConstants.Programs.{IsReady}
use Rattle.constant_steps.specs.WrittenLiteral.UnspreadForms.UnspreadForms.{UnspreadPackages}
use Rattle.printed_constants.specs.TypedParts.MarkedRuns.ReadyModules.Laws.{ReadModulesAreReady}
use Rattle.printed_constants.proofs.TypedParts.MarkedRuns.ReadyModules.Typed.{linked_typed, typed_as_read}
use Rattle.printed_constants.specs.TypedParts.MarkedRuns.TakenNames.Taken.{TakesName, EachTakes, AllTake}
use Rattle.printed_constants.specs.TypedParts.MarkedRuns.TakenNames.Laws.{KeptByRun}
use Rattle.printed_constants.proofs.TypedParts.MarkedRuns.TakenNames.Runs.{typed-next, module-keeps}

-- a program that is ready, whose packages are well typed
abbrev pub BothReady : Standing → Type 0
BothReady st = IsReady st × (are_well_typed (members_of st.packages) ≡ true)

pub step-ready : settled.StepsStayReady → (marks : List MarkRef) (st : Standing) (l : Logged) (after : Standing) (n : Next marks st l after) → BothReady st → WritesFile n → TakesName n → BothReady after
step-ready stays marks st l after n h writes takes =
    let typed : are_well_typed (members_of after.packages) ≡ true = typed-next marks st l after n takes h.1 in
    (stays marks st l after n h.0 writes (linked_typed after.packages typed), typed)

each-takes : (marks : List MarkRef) (st last : Standing) (log : List Logged) (run : Run marks st log last) → AllTake run → EachTakes run
each-takes marks st _ _ (ends _ over) h = tt
each-takes marks st last _ (goes_on _ next _ l log n run) h = (h.1.1.0, each-takes marks next last log run h.1.1.1)

module _ (settles : settled.ConstantsSettle) (stays : settled.StepsStayReady) (keep : settled.ConstantsKeepCycles) where
  last-ready : (marks : List MarkRef) (st last : Standing) (log : List Logged) (run : Run marks st log last) → AllTake run → BothReady st → BothReady last
  last-ready marks st _ _ (ends _ over) h r = r
  last-ready marks st last _ (goes_on _ next _ l log n run) h r =
      last-ready marks next last log run h.1.1.1 (step-ready stays marks st l next n r (writes-of (settles marks st l next n r.0 h.0)) h.1.1.0)

  same-cycles : (marks : List MarkRef) (st last : Standing) (log : List Logged) (run : Run marks st log last) → AllTake run → BothReady st → (m : MarkRef) → is_recursive st.packages marks m ≡ is_recursive last.packages marks m
  same-cycles marks st _ _ (ends _ over) h r m = refl
  same-cycles marks st last _ (goes_on _ next _ l log n run) h r m =
      keep marks st l next n r.0 h.0 h.1.0 m
      ∙ same-cycles marks next last log run h.1.1.1 (step-ready stays marks st l next n r (writes-of (settles marks st l next n r.0 h.0)) h.1.1.0) m

  pub run-over-constants : ReadModulesAreReady → (files : List Source) (ps : List (run.Package Span)) (texts : List (List ℕ × FileText)) (marks : List MarkRef) (last : Standing) (log : List Logged) → ModuleReads files ps texts
      → list_all (λ f. each is_byte f.path) files ≡ true → are_well_typed (members_of ps) ≡ true → UnspreadPackages ps → (run : Run marks (standing_as_read ps texts) log last) → AllTake run → KeptByRun ps texts marks last
  run-over-constants ready files ps texts marks last log r octets typed unspread run h =
      let first : BothReady (standing_as_read ps texts) = (ready files ps texts r octets typed unspread, typed_as_read ps typed) in
      let last_is : BothReady last = last-ready marks (standing_as_read ps texts) last log run h first in
      record {
        ready = last_is.0;
        typed = last_is.1;
        cycles = λ m. same-cycles marks (standing_as_read ps texts) last log run h first m;
        meaning = λ marked.
            program-means (packages_of ps marked) (packages_of (packages_with here_of last.packages) marked)
            (module-keeps ps texts marks last log run (each-takes marks (standing_as_read ps texts) last log run h) marked);
      }
