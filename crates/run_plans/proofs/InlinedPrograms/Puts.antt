-- What is put into a program, as the code has it; and what is not.
use Rattle.std.proofs.Common.{◌≡◌, refl, subst, ℕ, Bool, List, is_some}
use Rattle.go_tree.specs.declared.spans.Span.{Span}
use Rattle.step_files.specs.declared.file.NewFile.{NewFile}
use Rattle.step_files.specs.declared.limits.Progress.{Progress}
use Rattle.pkg_graph.specs.declared.packages.Package.{Package}
use Rattle.programs.specs.declared.state.Program.{Program}
use Rattle.report_order.specs.declared.rows.ReportRow.{ReportRow}
use Rattle.run_by_steps.specs.StepCounts.Laws.{OneMore}
use Rattle.run_by_steps.specs.declared.step_counts.counts.StepCounts.{StepCounts}
use Rattle.stepped_programs.specs.Laws.{place_of}
use Rattle.stepped_programs.specs.RunReports.Rows.{IsStepRow}
use Rattle.stepped_programs.specs.Steps.{AreSwapped, IsStepPut}
use Rattle.stepped_programs.specs.declared.first_uses.first.FirstUse.{FirstUse}
use Rattle.stepped_programs.specs.declared.place.StepPlace.{StepPlace}
use Rattle.stepped_programs.specs.declared.run_reports.steps.LoggedStep.{LoggedStep}
use Rattle.run_plans.specs.declared.inlined_programs.faults.StepFault.{StepFault}
use Rattle.run_plans.specs.declared.inlined_programs.faults.StepFault.TheVariants as fault
use Rattle.run_plans.specs.InlinedPrograms.Steps.{HasPut, ComesToLog, LeavesNoFile, IsNotTaken}

pub has_put : (p q : Program) (c d : StepCounts) (u : FirstUse) (places : List (List ℕ × ℕ)) (l : LoggedStep) (f : NewFile) (row : ReportRow) (packages : List Package) (at : StepPlace) (qualified : Bool) (os : List Span)
    (block : List (List ℕ)) → packages ≡ p.packages.items → at ≡ place_of u.home u.found → qualified ≡ is_some u.found.found.form.«package» → block ≡ u.found.tables.names.«package»
    → IsStepRow packages places l row → AreSwapped p at qualified u.found.found.form.span os → IsStepPut at os block f p q → OneMore c d (u.home, (u.found.file, l.offset)) → HasPut p c u places l f row q d
has_put p q c d u places l f row packages at qualified os block same place is_so own row_is swapped put counted =
    record {
      row_is = subst (λ (ps : List Package). IsStepRow ps places l row) same row_is;
      origins = os;
      are_swapped =
          subst (λ (z : StepPlace). AreSwapped p z (is_some u.found.found.form.«package») u.found.found.form.span os) place
          (subst (λ (b : Bool). AreSwapped p at b u.found.found.form.span os) is_so swapped);
      put =
          subst (λ (z : StepPlace). IsStepPut z os u.found.tables.names.«package» f p q) place
          (subst (λ (names : List (List ℕ)). IsStepPut at os names f p q) own put);
      counted = counted;
    }

-- where no file is left, nothing changes
pub not_taken : (p : Program) (c : StepCounts) (u : FirstUse) (l : LoggedStep) (progress : Progress) (e : StepFault) → ComesToLog p c u l progress → LeavesNoFile p u progress e → IsNotTaken p c u e p c
not_taken p c u l progress (fault.TooLarge at) comes h = record { log = l; progress = progress; comes = comes; passes = h; program_stays = refl; counts_stay = refl }
not_taken p c u l progress fault.NoMemory comes h = tt
