-- Each step of a run from a program of constants is over a marked constant, in a declaration of any form; so a module of
-- constants is inlined.
use Rattle.std.proofs.Common.{sym, subst, ℕ, List, []}
use Rattle.printed_constants.specs.InlinedFiles.InlinedModules.Modules.{IsInlinedModule}
use Rattle.printed_constants.specs.PrintedRuns.Laws.{StaysWithin, RunsStayWithin}
use Rattle.run_rules.specs.Inlining.{standing_as_read}
use Rattle.run_rules.specs.Marks.{marks_of}
use Rattle.run_rules.specs.Respanned.{packages_with}
use Rattle.run_rules.specs.Run.{ends, goes_on, here_of}
use Rattle.run_rules.specs.Texts.{FileText}
use Rattle.constant_modules.specs.ConstantRuns.Laws.{ReadModulesAreOfConstants, StepsStayOfConstants}
use Rattle.constant_modules.specs.ConstantRuns.Runs.{ConstantRunsAreOver, ConstantInliningsKeep, ConstantModulesAreInlined}
use Rattle.constant_modules.specs.KeyedImports.Steps.{IsOverNameKeyed}
use Rattle.constant_modules.specs.NamedAnywhere.Marked.{StandsAnywhere}
use Rattle.constant_modules.specs.NamedAnywhere.MarkedLaws.{RunsOverMarksAnywhereKeep, RunsOverMarksAnywhereInline}
use Rattle.constant_modules.specs.NamedAnywhere.Taken.{TakesNameAnywhere}
use Rattle.constant_modules.specs.NamedThere.Steps.{ConstantStepsTakeNames}

module _ (take : ConstantStepsTakeNames) (stay : StepsStayOfConstants) where
  pub runs_over : ConstantRunsAreOver
  runs_over marks _ _ _ is (ends st over) within = tt
  runs_over marks _ _ _ is (goes_on st next last l log n run) within =
      let t : TakesNameAnywhere n × (IsOverNameKeyed n × StandsAnywhere n) = take marks st l next n is in
      (t.1.0, (t.1.1, runs_over marks next last log (stay marks st l next n is within.0) run within.1))

module _ (read : ReadModulesAreOfConstants) (over : ConstantRunsAreOver) (stays : RunsStayWithin) where
  pub inlinings_keep : RunsOverMarksAnywhereKeep → ConstantInliningsKeep
  inlinings_keep keep files ps texts only after report i octets typed unspread apart constants small =
      let within : StaysWithin i.run = stays files (marks_of ps texts only) (standing_as_read ps texts) i.last [] i.log i.run i.within in
      keep files ps texts only i.last i.log i.read octets typed unspread constants i.run
      (over (marks_of ps texts only) (standing_as_read ps texts) i.last i.log (read files ps texts only i.read octets typed unspread apart constants small) i.run within)

  pub modules_inlined : RunsOverMarksAnywhereInline → ConstantModulesAreInlined
  modules_inlined inline files ps texts only after report i octets typed unspread apart constants small =
      let within : StaysWithin i.run = stays files (marks_of ps texts only) (standing_as_read ps texts) i.last [] i.log i.run i.within in
      subst (λ (ts : List (List ℕ × FileText)). IsInlinedModule files ps texts i.log ts (packages_with here_of i.last.packages)) (sym i.after_is)
      (inline files ps texts only i.last i.log i.read octets typed unspread constants i.run
      (over (marks_of ps texts only) (standing_as_read ps texts) i.last i.log (read files ps texts only i.read octets typed unspread apart constants small) i.run within))
