-- Which files have which verdict.
use Rattle.std.proofs.Common.{◌≡◌, ◌∙◌, List, ℕ, zero, suc, ◌<◌, Bool, true, false, length, refl, sym, subst, inl, inr, arith}
use Rattle.std.specs.Prelude.{Some, None}
use Rattle.command_words.specs.Words.{are_accepted, has_fix, only_of}
use Rattle.fix_io.specs.Files.{HeldFile, paths}
use Rattle.folder_reading.specs.declared.limits.TheConstants.{MAX_FILES}
use Rattle.folder_reading.specs.Limits.{AreFew, AreWithin, first_too_long}
use Rattle.folder_reading.specs.Sources.{sources_in}
use Rattle.module_refusals.specs.Laws.{AreAlike}
use Rattle.module_refusals.specs.Told.{told_whole}
use Rattle.pkg_graph.specs.ModuleFiles.Selected.{selected}
use Rattle.run_plans.specs.PlannedModules.Laws.{NeverBoth, PlansAreOne, RefusalsAreAlike}
use Rattle.run_plans.specs.PlannedModules.Planned.{IsPlanned}
use Rattle.refusals.specs.declared.refusal.Detail.TheVariants.{TooBig}
use Rattle.refusals.specs.declared.refusal.Refusal.{Refusal}
use Rattle.run_rules.specs.Texts.{FileText}
use Rattle.fix_run.specs.declared.status.Status.{Status}
use Rattle.fix_run.specs.declared.status.Status.TheVariants.{Usage, NoMemory, Refused}
use Rattle.fix_run.specs.Files.{folder_of}
use Rattle.fix_run.specs.Refusals.{AreRefused, WhyRefused, too_many, too_long, unplanned, told_too_long}
use Rattle.fix_run.specs.Verdict.{Verdict, ended, stays, verdict_of, IsVerdict, of_words, of_files, of_plan, IsEnd, MayEnd, IsAnswer}
use Rattle.fix_run.specs.Laws.{AreAlikeVerdicts, same, refusals, VerdictsAreAlike}

-- ---- files that aren't read aren't within the limits

many_or_within : (files : List HeldFile) → MAX_FILES < length (selected (paths files)) → AreWithin files → ⊥
many_or_within files much w = let few = w.few in omega (arith, few, much)

long_or_within : (files : List HeldFile) (i : ℕ) → first_too_long 0 (sources_in files) ≡ Some i → AreWithin files → ⊥
long_or_within files i long w = let clash : None ≡ Some i = sym w.short ∙ long in cc

pub refused_many : (only : List ℕ) (files : List HeldFile) → MAX_FILES < length (selected (paths files)) → AreRefused only files (told_whole TooBig)
refused_many only files much = record { why = too_many much; passes = λ t. absurd (many_or_within files much t.within) }

pub refused_long : (only : List ℕ) (files : List HeldFile) (i : ℕ) → AreFew (paths files) → first_too_long 0 (sources_in files) ≡ Some i → AreRefused only files (told_too_long i)
refused_long only files i few long = record { why = too_long few i long; passes = λ t. absurd (long_or_within files i long t.within) }

-- ---- answers

may_end : (words : List (List ℕ)) (files : List HeldFile) (fix : Bool) (n : ℕ) → has_fix words ≡ fix → MayEnd words files (ended fix n)
may_end words files true n e = tt
may_end words files false zero e = tt
may_end words files false (suc n) e = e

-- a run that has a plan
pub end_answer : (words : List (List ℕ)) (files : List HeldFile) (s : Status) (v : Verdict) → IsVerdict words files v → IsEnd words files v → s ≡ v.status → IsAnswer words files s
end_answer words files s v is end e = record {
  status = inl (v, is, e);
  ends = λ a taken. subst (MayEnd words files) (sym (e ∙ end.status)) (may_end words files (has_fix words) (length end.inlined.run.log) refl);
}

-- words that aren't accepted
pub usage_answer : (words : List (List ℕ)) (files : List HeldFile) → are_accepted words ≡ false → IsAnswer words files Usage
usage_answer words files e = record {
  status = inl (stays Usage files, of_words e, refl);
  ends = λ a taken. let clash : true ≡ false = sym a ∙ e in absurd cc;
}

-- files that are refused
pub refused_answer : (words : List (List ℕ)) (files : List HeldFile) (r : Refusal) → are_accepted words ≡ true → AreRefused (only_of words) files r → IsAnswer words files (Refused r)
refused_answer words files r e is = record { status = inl (stays (Refused r) files, of_files e r is.why, refl); ends = λ a taken. is.passes taken }

pub no_memory_answer : (words : List (List ℕ)) (files : List HeldFile) → IsAnswer words files NoMemory
no_memory_answer words files = record { status = inr refl; ends = λ a taken. tt }

-- ---- words and files have one verdict

why_alike : RefusalsAreAlike → (only : List ℕ) (files : List HeldFile) (r s : Refusal) → WhyRefused only files r → WhyRefused only files s → AreAlike r s
why_alike alike only files _ _ (too_many m) (too_many n) = record { number = refl; file = refl; place = refl }
why_alike alike only files _ _ (too_many m) (too_long few i e) = absurd (omega (arith, m, few))
why_alike alike only files _ _ (too_many m) (unplanned w r u) = absurd (many_or_within files m w)
why_alike alike only files _ _ (too_long few i e) (too_many n) = absurd (omega (arith, n, few))
why_alike alike only files _ _ (too_long few i e) (too_long low j d) = let one : Some i ≡ Some j = sym e ∙ d in record { number = refl; file = one; place = refl }
why_alike alike only files _ _ (too_long few i e) (unplanned w r u) = absurd (long_or_within files i e w)
why_alike alike only files _ _ (unplanned w r u) (too_many n) = absurd (many_or_within files n w)
why_alike alike only files _ _ (unplanned w r u) (too_long low j d) = absurd (long_or_within files j d w)
why_alike alike only files _ _ (unplanned w r u) (unplanned x s v) = alike (folder_of files) (sources_in files) only r s u v

-- files that are planned for aren't refused
planned_or_not : NeverBoth → (only : List ℕ) (files : List HeldFile) (after : List (List ℕ × FileText)) (report : List ℕ) (steps : ℕ) (r : Refusal) → AreWithin files
    → IsPlanned (folder_of files) (sources_in files) only after report steps → WhyRefused only files r → ⊥
planned_or_not either only files after report steps _ within plan (too_many much) = many_or_within files much within
planned_or_not either only files after report steps _ within plan (too_long few i long) = long_or_within files i long within
planned_or_not either only files after report steps _ within plan (unplanned w r u) = either (folder_of files) (sources_in files) only after report steps r plan u

one_plan : (words : List (List ℕ)) (files : List HeldFile) (after news : List (List ℕ × FileText)) (report lines : List ℕ) (steps count : ℕ) → (after ≡ news) × (report ≡ lines) × (steps ≡ count)
    → AreAlikeVerdicts files (verdict_of (has_fix words) files after report steps) (verdict_of (has_fix words) files news lines count)
one_plan words files after news report lines steps count (a, r, n) =
    let first = verdict_of (has_fix words) files after report steps in
    subst (λ c. AreAlikeVerdicts files first (verdict_of (has_fix words) files news lines c)) n
    (subst (λ l. AreAlikeVerdicts files first (verdict_of (has_fix words) files news l steps)) r
    (subst (λ b. AreAlikeVerdicts files first (verdict_of (has_fix words) files b report steps)) a (same first)))

pub verdicts_are_alike : PlansAreOne → RefusalsAreAlike → NeverBoth → VerdictsAreAlike
verdicts_are_alike once alike either words files _ _ (of_words a) (of_words b) = same _
verdicts_are_alike once alike either words files _ _ (of_words a) (of_files b r why) = let clash : true ≡ false = sym b ∙ a in absurd cc
verdicts_are_alike once alike either words files _ _ (of_words a) (of_plan b within after report steps plan) = let clash : true ≡ false = sym b ∙ a in absurd cc
verdicts_are_alike once alike either words files _ _ (of_files b r why) (of_words a) = let clash : true ≡ false = sym b ∙ a in absurd cc
verdicts_are_alike once alike either words files _ _ (of_files a r why) (of_files b s cause) = refusals r s (why_alike alike (only_of words) files r s why cause)
verdicts_are_alike once alike either words files _ _ (of_files a r why) (of_plan b within after report steps plan) = absurd (planned_or_not either (only_of words) files after report steps r within plan why)
verdicts_are_alike once alike either words files _ _ (of_plan b within after report steps plan) (of_words a) = let clash : true ≡ false = sym b ∙ a in absurd cc
verdicts_are_alike once alike either words files _ _ (of_plan b within after report steps plan) (of_files a r why) = absurd (planned_or_not either (only_of words) files after report steps r within plan why)
verdicts_are_alike once alike either words files _ _ (of_plan a within after report steps plan) (of_plan b inside news lines count other) =
    one_plan words files after news report lines steps count (once (folder_of files) (sources_in files) (only_of words) after news report lines steps count plan other)
