-- How far a run has come before the step over a use, as the code has it.
use Rattle.std.proofs.Common.{◌≡◌, ◌∙◌, sym, ap, subst, ℕ, ◌+◌, ◌≤◌, List, get_or, length}
use Rattle.std.specs.Prelude.{slice_get}
use Rattle.std.proofs.lemmas.Option.{same_Some}
use Rattle.step_files.specs.declared.limits.Progress.{Progress}
use Rattle.programs.specs.declared.state.PackageFiles.{PackageFiles}
use Rattle.programs.specs.declared.state.Program.{Program}
use Rattle.run_by_steps.specs.StepCounts.Origins.{steps_from}
use Rattle.run_by_steps.specs.declared.step_counts.counts.StepCounts.{StepCounts}
use Rattle.stepped_programs.specs.FirstUses.Step.{HasFileOf, MayStep}
use Rattle.stepped_programs.specs.ProgramsOnTheWay.OnTheWay.{IsProgressOf}
use Rattle.stepped_programs.specs.declared.first_uses.first.FirstUse.{FirstUse}
use Rattle.stepped_programs.proofs.FirstUses.MadeSteps.{text_read}

-- the file of a use has one text
one_text : (p : Program) (u : FirstUse) (h k : HasFileOf p u) → h.text ≡ k.text
one_text p u h k =
    let e : h.kept ≡ k.kept = same_Some h.kept k.kept (sym h.kept_is ∙ k.kept_is) in
    same_Some h.text k.text (sym h.text_is ∙ ap (λ (z : PackageFiles). slice_get z.texts.items u.found.file) e ∙ k.text_is)

module _ (p : Program) (u : FirstUse) (m : MayStep p u) (kept : PackageFiles) (text body : List ℕ) (kept_is : kept ≡ get_or p.files.items u.home kept) (text_is : text ≡ get_or kept.texts.items u.found.file text)
    (body_is : body ≡ text) where
  pub text_fits : ((h : HasFileOf p u) → length h.text ≤ p.bytes) → length body ≤ p.bytes
  text_fits fits = subst (λ (t : List ℕ). length t ≤ p.bytes) (text_read p u m kept text body kept_is text_is body_is) (fits m.file)

  pub comes_before : (c : StepCounts) (offset : ℕ) (progress : Progress) → progress.steps ≡ c.steps → progress.steps_of_use ≡ steps_from (u.home, (u.found.file, offset)) c.origins
      → progress.other_bytes + length body ≡ p.bytes → IsProgressOf p u c offset progress
  comes_before c offset progress steps of_use bytes =
      record {
        steps = steps;
        steps_of_use = of_use;
        bytes = λ h.
            ap (λ (t : List ℕ). progress.other_bytes + length t) (one_text p u h m.file ∙ text_read p u m kept text body kept_is text_is body_is) ∙ bytes;
      }
