-- Runs over constants write their files, so they inline a module.
use Rattle.std.proofs.Common.{◌≡◌, ◌∙◌, true, List}
use Rattle.go_translation.specs.Packages.{are_well_typed}
use Rattle.run_rules.specs.Inlining.{standing_as_read}
use Rattle.run_rules.specs.Marks.{marks_of}
use Rattle.run_rules.specs.Respanned.{packages_with}
use Rattle.run_rules.specs.Run.{Standing, Logged, Run, ends, goes_on, here_of}
use Rattle.run_rules.specs.Sites.{MarkRef}
use Rattle.order_runs.specs.CycleRuns.Linked.{WritesFile}
use Rattle.order_runs.specs.RunSteps.RunPackages.{members_of}
use Rattle.order_runs.proofs.CycleRuns.Runs.{writes-of, linked-names}
use Rattle.order_runs.proofs.RunSteps.OtherSpans.{members-with}
use Rattle.order_runs.proofs.RunSteps.SpansForgotten.{typed-alike}
use Rattle.printed_constants.specs.TypedParts.MarkedRuns.KeptMarks.Laws.{StepsKeepNamed}
use Rattle.printed_constants.specs.TypedParts.MarkedRuns.Laws.{RunsOverMarksKeep}
use Rattle.printed_constants.specs.TypedParts.MarkedRuns.Marked.{AllOverNames}
use Rattle.printed_constants.specs.TypedParts.MarkedRuns.NamedMarks.Laws.{ReadMarksAreNamed}
use Rattle.printed_constants.specs.TypedParts.MarkedRuns.NamedMarks.Named.{AllNamed}
use Rattle.printed_constants.specs.TypedParts.MarkedRuns.ReadyModules.Laws.{ReadModulesAreReady}
use Rattle.printed_constants.specs.TypedParts.MarkedRuns.SettledConstants.Laws.{ConstantsSettle, ConstantsWrite}
use Rattle.printed_constants.specs.TypedParts.MarkedRuns.SettledConstants.Programs.{IsReady}
use Rattle.printed_constants.specs.TypedParts.MarkedRuns.SoundImports.Laws.{AddedImportsMayBeDeclared}
use Rattle.printed_constants.specs.TypedParts.MarkedRuns.TakenNames.Laws.{StepsStayReady, RunsOverConstantsKeep}
use Rattle.printed_constants.specs.TypedParts.MarkedRuns.TakenNames.Taken.{TakesName, AllTake}
use Rattle.printed_constants.proofs.TypedParts.MarkedRuns.KeptMarks.Kept.{writes, look-ups}
use Rattle.printed_constants.proofs.TypedParts.MarkedRuns.ReadyModules.Typed.{typed_as_read}
use Rattle.printed_constants.proofs.TypedParts.MarkedRuns.Runs.{takes-name}
use Rattle.printed_constants.specs.InlinedFiles.Files.{AllWrite}
use Rattle.printed_constants.specs.InlinedFiles.InlinedModules.Laws.{KeptModulesAreInlined, RunsOverConstantsWrite, RunsOverConstantsInline, RunsOverMarksWrite, RunsOverMarksInline}
use Rattle.printed_constants.proofs.InlinedFiles.Kept.{runs_keep_folders}
use Rattle.printed_constants.proofs.InlinedFiles.Runs.{runs_leave}

-- packages without the places of a run
typed_here : (last : Standing) → are_well_typed (members_of last.packages) ≡ true → are_well_typed (members_of (packages_with here_of last.packages)) ≡ true
typed_here last w = typed-alike (members_of (packages_with here_of last.packages)) (members_of last.packages) (members-with here_of last.packages) ∙ w

pub kept_inlined : KeptModulesAreInlined
kept_inlined files ps texts marks last log r typed run h kept = record {
  reads_before = r;
  typed_before = typed;
  reads_after = runs_leave files ps texts marks last log r run h;
  typed_after = typed_here last kept.typed;
  same = kept.meaning;
  keeps = runs_keep_folders files ps texts marks last log r run;
}

-- ---- runs that take names

module _ (settles : ConstantsSettle) (step : StepsStayReady) where
  taken_write : (marks : List MarkRef) (st last : Standing) (log : List Logged) (run : Run marks st log last) → AllTake run → IsReady st → are_well_typed (members_of st.packages) ≡ true → AllWrite run
  taken_write marks _ _ _ (ends st over) h ready typed = tt
  taken_write marks _ _ _ (goes_on st next last l log n run) h ready typed =
      let w : WritesFile n = writes-of (settles marks st l next n ready h.0) in
      let r = step marks st l next n ready typed w h.1.1.0 in
      (w, taken_write marks next last log run h.1.1.1 r.0 r.1)

  pub constants_write : RunsOverConstantsWrite
  constants_write marks st last log ready typed run h = taken_write marks st last log run h ready typed

  pub constants_inline : ReadModulesAreReady → RunsOverConstantsKeep → RunsOverConstantsInline
  constants_inline ready keep files ps texts marks last log r octets typed unspread run h =
      kept_inlined files ps texts marks last log r typed run
      (taken_write marks (standing_as_read ps texts) last log run h (ready files ps texts r octets typed unspread) (typed_as_read ps typed))
      (keep files ps texts marks last log r octets typed unspread run h)

-- ---- runs over marks

module _ (sound : AddedImportsMayBeDeclared) (write : ConstantsWrite) (step : StepsStayReady) (keep : StepsKeepNamed) where
  named_write : (marks : List MarkRef) (st last : Standing) (log : List Logged) (run : Run marks st log last) → AllOverNames run → IsReady st → are_well_typed (members_of st.packages) ≡ true → AllNamed st.packages marks → AllWrite run
  named_write marks _ _ _ (ends st over) h ready typed named = tt
  named_write marks _ _ _ (goes_on st next last l log n run) h ready typed named =
      let w : WritesFile n = writes marks st l next n h.0 write ready named in
      let takes : TakesName n = takes-name sound marks st l next n ready.reads h.1.0 (look-ups marks st l next n h.0 write ready named) (linked-names st.packages ready.links) typed h.0.few in
      let r = step marks st l next n ready typed w takes in
      (w, named_write marks next last log run h.1.1 r.0 r.1 (keep marks st l next n ready named h.0))

  pub marks_write : RunsOverMarksWrite
  marks_write marks st last log ready typed named run h = named_write marks st last log run h ready typed named

  pub marks_inline : ReadModulesAreReady → ReadMarksAreNamed → RunsOverMarksKeep → RunsOverMarksInline
  marks_inline ready read_marks kept files ps texts only last log r octets typed unspread constants run h =
      kept_inlined files ps texts (marks_of ps texts only) last log r typed run
      (named_write (marks_of ps texts only) (standing_as_read ps texts) last log run h (ready files ps texts r octets typed unspread) (typed_as_read ps typed) (read_marks files ps texts only r constants))
      (kept files ps texts only last log r octets typed unspread constants run h)
