-- A verdict of a plan is what inlining makes of the files.
use Rattle.std.proofs.Common.{◌≡◌, ◌∙◌, List, ℕ, Bool, true, cond, refl, ap, sym, subst}
use Rattle.std.specs.Prelude.{Option, Some}
use Rattle.command_words.specs.Words.{has_fix, only_of}
use Rattle.fix_io.specs.Contents.{appended}
use Rattle.fix_io.specs.Files.{HeldFile}
use Rattle.folder_reading.specs.Sources.{sources_in}
use Rattle.run_plans.specs.PlannedModules.Laws.{PlansInlineModules}
use Rattle.run_plans.specs.PlannedModules.Planned.{IsPlanned}
use Rattle.printed_constants.specs.InlinedFiles.Files as run_files
use Rattle.run_rules.specs.Texts.{FileText}
use Rattle.fix_run.specs.Files.{files_after, folder_of}
use Rattle.fix_run.specs.Headline.{IsFolderInlining, IsInlined}
use Rattle.fix_run.specs.Verdict.{IsEnd, Verdict, ended, verdict_of}
use Rattle.fix_run.proofs.AfterLemmas.{folder_after, only_read, others_stay}

-- the verdict of a plan is how its run ends
pub planned_is_end : PlansInlineModules → (words : List (List ℕ)) (files : List HeldFile) (after : List (List ℕ × FileText)) (report : List ℕ) (steps : ℕ)
    → IsPlanned (folder_of files) (sources_in files) (only_of words) after report steps → IsEnd words files (verdict_of (has_fix words) files after report steps)
planned_is_end law words files after report steps p = record {
  after = run_files.files_after (folder_of files) after;
  inlined = record {
    packages = p.taken.packages;
    texts = p.taken.texts;
    last_texts = after;
    run = p.inlining;
    after_is = refl;
    inlined = law (folder_of files) (sources_in files) (only_of words) after report steps p;
  };
  status = ap (ended (has_fix words)) p.steps_are;
  written = λ fix. ap (λ (b : Bool). folder_of (cond b (files_after files after) files)) fix ∙ folder_after files after;
  others = others_stay (has_fix words) files after (only_read files p.taken.packages p.taken.texts (only_of words) after report p.inlining);
  stay = λ none. ap (λ (b : Bool). cond b (files_after files after) files) none;
}

-- where files are written
pub end_inlined : (words : List (List ℕ)) (files : List HeldFile) (v : Verdict) (now : Option (List HeldFile)) (old new : Option (List ℕ)) → has_fix words ≡ true → IsEnd words files v → now ≡ Some v.files
    → new ≡ appended old v.bytes → IsInlined (only_of words) files now old new
end_inlined words files v now old new fix is held out = record {
  after = v.files;
  report = v.bytes;
  held_is = held;
  written = out;
  inlined = subst (λ a. IsFolderInlining (only_of words) (folder_of files) a v.bytes) (sym (is.written fix)) is.inlined;
  others = is.others;
}
