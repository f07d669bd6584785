-- Modules of constants and of functions that print them are inlined by each run within the limits.
use Rattle.std.proofs.Common.{sym, subst, ℕ, List, []}
use Rattle.run_rules.specs.Inlining.{standing_as_read}
use Rattle.run_rules.specs.Marks.{marks_of}
use Rattle.run_rules.specs.Respanned.{packages_with}
use Rattle.run_rules.specs.Run.{here_of}
use Rattle.run_rules.specs.Texts.{FileText}
use Rattle.constant_steps.specs.FormImports.OwnNames.{ReadPackagesAreNamed}
use Rattle.printed_constants.specs.TypedParts.MarkedRuns.KeptMarks.Laws.{StepsKeepNamed}
use Rattle.printed_constants.specs.TypedParts.MarkedRuns.NamedMarks.Laws.{ReadMarksAreNamed}
use Rattle.printed_constants.specs.TypedParts.MarkedRuns.ReadyModules.Laws.{ReadModulesAreReady}
use Rattle.printed_constants.specs.TypedParts.MarkedRuns.SettledConstants.Laws.{ConstantsWrite}
use Rattle.printed_constants.specs.TypedParts.MarkedRuns.SoundImports.Laws.{AddedImportsMayBeDeclared}
use Rattle.printed_constants.specs.TypedParts.MarkedRuns.TakenNames.Laws.{StepsStayReady}
use Rattle.printed_constants.proofs.TypedParts.MarkedRuns.LinkedMembers.Files.{read-have}
use Rattle.printed_constants.proofs.TypedParts.MarkedRuns.ReadyModules.Typed.{typed_as_read}
use Rattle.printed_constants.specs.DeclaredConstants.Laws.{ReadConstantsNameConstants}
use Rattle.printed_constants.specs.NamedUses.Laws.{ConstantsNamesStand, StepsKeepConstantsNames}
use Rattle.printed_constants.specs.UsedImports.Laws.{StepsLeaveImportsUsed}
use Rattle.printed_constants.proofs.Plain.{all_unspread}
use Rattle.printed_constants.proofs.PrintedRuns.Runs.{all_over, runs_within}
use Rattle.printed_constants.proofs.Steps.{read_printed}
use Rattle.printed_constants.specs.InlinedFiles.InlinedModules.Laws.{RunsOverMarksInline, PrintedRunsInline, PrintedModulesAreInlined}
use Rattle.printed_constants.specs.InlinedFiles.InlinedModules.Modules.{IsInlinedModule}

module _ (sound : AddedImportsMayBeDeclared) (write : ConstantsWrite) (step : StepsStayReady) (keep : StepsKeepNamed) (used : StepsLeaveImportsUsed) (stand : ConstantsNamesStand) (stay : StepsKeepConstantsNames) where
  pub printed_runs_inline : ReadModulesAreReady → ReadMarksAreNamed → ReadPackagesAreNamed → ReadConstantsNameConstants → RunsOverMarksInline → PrintedRunsInline
  printed_runs_inline ready marked own names inline files ps texts only last log r octets typed printed constants small run fits =
      inline files ps texts only last log r octets typed (all_unspread ps printed) constants run
      (all_over sound write step keep used stand stay (marks_of ps texts only) (standing_as_read ps texts) last log run fits (ready files ps texts r octets typed (all_unspread ps printed)) (typed_as_read ps typed)
      (marked files ps texts only r constants) (names files ps texts only r octets typed printed constants) (read_printed ps texts printed) (own files ps texts r) (read-have files ps texts r) small)

-- no step of an inlining passes a limit
pub printed_inlined : PrintedRunsInline → PrintedModulesAreInlined
printed_inlined runs files ps texts only after report i octets typed printed constants small =
    subst (λ (ts : List (List ℕ × FileText)). IsInlinedModule files ps texts i.log ts (packages_with here_of i.last.packages)) (sym i.after_is)
    (runs files ps texts only i.last i.log i.read octets typed printed constants small i.run (runs_within files (marks_of ps texts only) (standing_as_read ps texts) i.last [] i.log i.run i.within))
