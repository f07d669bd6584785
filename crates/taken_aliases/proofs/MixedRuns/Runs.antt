-- A run over marked constants and aliases from a module that reads.
use Rattle.std.proofs.Common.{◌≡◌, ◌∙◌, sym, true, List}
use Rattle.std.specs.Prelude.{ℕ}
use Rattle.std.specs.List.{list_all}
use Rattle.go_tree.specs.declared.spans.Span.{Span}
use Rattle.go_tree.specs.GoWords.Tokens.Characters.{each}
use Rattle.splice_laws.specs.ImportSplices.AddedFile.{is_byte}
use Rattle.pkg_graph.specs.Package.{Package}
use Rattle.pkg_graph.specs.Reads.{Source}
use Rattle.order_runs.specs.CycleRuns.Linked.{SettlesFile}
use Rattle.order_runs.proofs.CycleRuns.Runs.{linked-names, step-names}
use Rattle.go_translation.specs.Packages.{are_well_typed}
use Rattle.run_rules.specs.Sites.{MarkRef}
use Rattle.run_rules.specs.Texts.{FileText}
use Rattle.run_rules.specs.Run.{Standing, Logged, Next, Run, ends, goes_on}
use Rattle.run_rules.specs.Inlining.{ModuleReads, standing_as_read}
use Rattle.order_runs.specs.RunSteps.RunPackages.{members_of}
use Rattle.printed_constants.specs.TypedParts.MarkedRuns.ReadyModules.Laws.{ReadModulesAreReady}
use Rattle.printed_constants.proofs.TypedParts.MarkedRuns.ReadyModules.Typed.{typed_as_read}
use Rattle.printed_constants.specs.TypedParts.MarkedRuns.SettledConstants.Laws.{ConstantsSettle, UsesAreScoped}
use Rattle.printed_constants.specs.TypedParts.MarkedRuns.SettledConstants.Programs.{IsReady}
use Rattle.printed_constants.specs.TypedParts.MarkedRuns.SoundImports.Laws.{AddedImportsMayBeDeclared}
use Rattle.printed_constants.specs.TypedParts.MarkedRuns.TakenNames.Laws.{KeptByRun}
use Rattle.taken_aliases.specs.Laws.{RunsMeanTheSame, StepsStayReady}
use Rattle.taken_aliases.specs.Taken.{TakesEither, of_constant, of_alias, EachTakesEither}
use Rattle.constant_steps.specs.WrittenLiteral.UnspreadForms.UnspreadForms.{UnspreadPackages}
use Rattle.taken_aliases.specs.MixedRuns.Marked.{NoFunctions, IsOverEither, over_constant, over_alias, AllOverEither}
use Rattle.taken_aliases.proofs.MixedRuns.KindsStay.{no-functions-stay}
use Rattle.taken_aliases.proofs.MixedRuns.NoCycles.{no-cycle}
use Rattle.taken_aliases.proofs.MixedRuns.Settled.{alias-settles}
use Rattle.taken_aliases.proofs.MixedRuns.Takes.{takes-name, takes-alias}

module _ (sound : AddedImportsMayBeDeclared) (scoped : UsesAreScoped) (settles : ConstantsSettle) (step : StepsStayReady) where
  one-step : (marks : List MarkRef) (st : Standing) (l : Logged) (after : Standing) (n : Next marks st l after) → IsReady st → are_well_typed (members_of st.packages) ≡ true → IsOverEither n → SettlesFile n × TakesEither n
  one-step marks st l after n ready typed (over_constant over stands) =
      let settled : SettlesFile n = settles marks st l after n ready over in (
        settled,
        of_constant (takes-name sound marks st l after n ready.reads (step-names marks st l after n ready.links settled) (linked-names st.packages ready.links) typed over.few stands),
      )
  one-step marks st l after n ready typed (over_alias over stands) =
      let settled : SettlesFile n = alias-settles scoped marks st l after n ready over in (
        settled,
        of_alias (takes-alias sound marks st l after n ready.reads (step-names marks st l after n ready.links settled) (linked-names st.packages ready.links) typed over.few stands),
      )

  -- what holds at last
  record AtLast (marks : List MarkRef) (last : Standing) : Type 0 where
    ready : IsReady last
    typed : are_well_typed (members_of last.packages) ≡ true
    no_functions : NoFunctions last.packages marks

  all-take : (marks : List MarkRef) (st last : Standing) (log : List Logged) (run : Run marks st log last) → AllOverEither run → AtLast marks st → EachTakesEither run × AtLast marks last
  all-take marks st _ _ (ends _ over) h a = (tt, a)
  all-take marks st last _ (goes_on _ next _ l log n run) h a =
      let one = one-step marks st l next n a.ready a.typed h.0 in
      let r = step marks st l next n a.ready a.typed one.0 one.1 in
      let rest = all-take marks next last log run h.1 (record { ready = r.0; typed = r.1; no_functions = no-functions-stay marks st l next n a.no_functions }) in
      ((one.1, rest.0), rest.1)

  pub runs-keep : ReadModulesAreReady → RunsMeanTheSame → (files : List Source) (ps : List (Package Span)) (texts : List (List ℕ × FileText)) (marks : List MarkRef) (last : Standing) (log : List Logged) → ModuleReads files ps texts
      → list_all (λ f. each is_byte f.path) files ≡ true → are_well_typed (members_of ps) ≡ true → UnspreadPackages ps → NoFunctions (standing_as_read ps texts).packages marks
      → (run : Run marks (standing_as_read ps texts) log last) → AllOverEither run → KeptByRun ps texts marks last
  runs-keep ready means files ps texts marks last log r octets typed unspread none run h =
      let all = all-take marks (standing_as_read ps texts) last log run h (record { ready = ready files ps texts r octets typed unspread; typed = typed_as_read ps typed; no_functions = none }) in
      record {
        ready = all.1.ready;
        typed = all.1.typed;
        cycles = λ m. no-cycle (standing_as_read ps texts).packages marks none m ∙ sym (no-cycle last.packages marks all.1.no_functions m);
        meaning = λ marked. means files ps texts marks last log r run all.0 marked;
      }
