-- What the parts of a run say of its status.
use Rattle.std.proofs.Common.{◌≡◌, List, [], ◌∷◌, ◌++◌, ℕ, zero, suc, ◌<◌, Bool, true, false, cond, length, get_or, map, take, drop, refl, ap, sym, subst, ◌∙◌, arith, take-append-drop}
use Rattle.std.specs.Prelude.{Option, Some, None, IfSome, IsSomeAnd}
use Rattle.std.specs.Option.{option_map}
use Rattle.std.proofs.lemmas.List.{length-map}
use Rattle.refusals.specs.declared.refusal.Refusal.{Refusal}
use Rattle.fix_io.specs.declared.Call.{Call}
use Rattle.fix_io.specs.Files.{HeldFile, bytes_at}
use Rattle.fix_io.specs.Contents.{appended, IsPartOut}
use Rattle.fix_io.specs.Writes.{written, with_texts, AreNewUpTo}
use Rattle.fix_io.proofs.WritesLemmas.{all_left, fault_left}
use Rattle.folder_reading.specs.Limits.{AreFew}
use Rattle.run_plans.specs.PlannedModules.Laws.{PlansInlineModules}
use Rattle.run_plans.specs.declared.planned_modules.plan.Plan.{Plan}
use Rattle.fix_run.specs.declared.status.Status.{Status}
use Rattle.fix_run.specs.declared.status.Status.TheVariants.{Done, Found, Usage, NoMemory, ListFault, ReadFault, Refused, WriteFault, ReportFault}
use Rattle.command_words.specs.Words.{are_accepted, has_fix, only_of}
use Rattle.fix_run.specs.Listed.{lists_module}
use Rattle.fix_run.specs.Lines.{IfTold, IfOut}
use Rattle.fix_run.specs.Files.{write_of, writes_of, text_after, files_after, AreWritesOf}
use Rattle.fix_run.specs.Refusals.{AreRefused}
use Rattle.fix_run.specs.Causes.{HasCause, PassedChecks, IfUnwritten, MayStop, StopsWords, IsReported}
use Rattle.fix_run.specs.Headline.{IsInlined}
use Rattle.fix_run.specs.Verdict.{Verdict, ended, verdict_of, IsVerdict, of_files, of_plan, IsEnd, HasEnded, IsRefused, IsAnswer, IsUpTo}
use Rattle.fix_run.proofs.DoneLemmas.{planned_is_end, end_inlined}
use Rattle.fix_run.proofs.VerdictLemmas.{end_answer, usage_answer, refused_answer, no_memory_answer}

-- ---- any status

pub unwritten : (s : Status) (P : Type 0) → P → IfUnwritten s P
unwritten Done P p = tt
unwritten Found P p = p
unwritten Usage P p = p
unwritten NoMemory P p = p
unwritten ListFault P p = p
unwritten (ReadFault _) P p = p
unwritten (Refused _) P p = p
unwritten (WriteFault _) P p = tt
unwritten ReportFault P p = tt

pub told : (s : Status) (P : Type 0) → P → IfTold s P
told Done P p = tt
told Found P p = tt
told Usage P p = p
told NoMemory P p = p
told ListFault P p = p
told (ReadFault _) P p = p
told (Refused _) P p = p
told (WriteFault _) P p = p
told ReportFault P p = tt

-- ---- a run that ends before any file is replaced

told_no_memory : (words : List (List ℕ)) (held : Option (List HeldFile)) → IfSome held (λ files. IsAnswer words files NoMemory)
told_no_memory words None = tt
told_no_memory words (Some files) = no_memory_answer words files

usage_complete : (words : List (List ℕ)) (held : Option (List HeldFile)) → are_accepted words ≡ false → IfSome held (λ files. IsAnswer words files Usage)
usage_complete words None e = tt
usage_complete words (Some files) e = usage_answer words files e

pub words_complete : (words : List (List ℕ)) (held : Option (List HeldFile)) (s : Status) → StopsWords words s → IfSome held (λ files. IsAnswer words files s)
words_complete words held Usage stop = usage_complete words held stop
words_complete words held NoMemory stop = told_no_memory words held
words_complete words held Done stop = absurd stop
words_complete words held Found stop = absurd stop
words_complete words held ListFault stop = absurd stop
words_complete words held (ReadFault _) stop = absurd stop
words_complete words held (Refused _) stop = absurd stop
words_complete words held (WriteFault _) stop = absurd stop
words_complete words held ReportFault stop = absurd stop

told_refused : (words : List (List ℕ)) (held : Option (List HeldFile)) (r : Refusal) → are_accepted words ≡ true → IfSome held (λ files. AreRefused (only_of words) files r) → IfSome held (λ files. IsAnswer words files (Refused r))
told_refused words None r a why = tt
told_refused words (Some files) r a why = refused_answer words files r a why

told_why : (words : List (List ℕ)) (held : Option (List HeldFile)) (q r : Refusal) → are_accepted words ≡ true → q ≡ r → IfSome held (λ files. AreRefused (only_of words) files q) → IfSome held (λ files. IsRefused words files r)
told_why words None q r a same why = tt
told_why words (Some files) q r a same why =
    let is : AreRefused (only_of words) files r = subst (AreRefused (only_of words) files) same why in
    record { verdict = of_files a r is.why; refused = is }

pub record Stopped (words : List (List ℕ)) (s : Status) (rose : Type 0) (failed : Option Call) (listed : List (List ℕ)) (held : Option (List HeldFile)) : Type 0 where
  pub not_usage : s ≡ Usage → ⊥
  pub not_done : s ≡ Done → ⊥
  pub not_write : (i : ℕ) → s ≡ WriteFault i → ⊥
  pub not_report : s ≡ ReportFault → ⊥
  pub refused_for : (r : Refusal) → s ≡ Refused r → IfSome held (λ files. IsRefused words files r)
  pub cause : HasCause s rose failed
  pub passed : PassedChecks s listed
  pub complete : ¬ rose → IfSome held (λ files. IsAnswer words files s)

pub stopped : (words : List (List ℕ)) (s : Status) (rose : Type 0) (failed : Option Call) (listed : List (List ℕ)) (held : Option (List HeldFile)) → are_accepted words ≡ true → MayStop (only_of words) s rose failed listed held
    → Stopped words s rose failed listed held
stopped words Done rose failed listed held a stop = absurd stop
stopped words Found rose failed listed held a stop = absurd stop
stopped words Usage rose failed listed held a stop = absurd stop
stopped words NoMemory rose failed listed held a stop = record {
  not_usage = λ e. cc;
  not_done = λ e. cc;
  not_write = λ i e. cc;
  not_report = λ e. cc;
  refused_for = λ r e. cc;
  cause = tt;
  passed = tt;
  complete = λ h. told_no_memory words held;
}
stopped words ListFault rose failed listed held a stop = record {
  not_usage = λ e. cc;
  not_done = λ e. cc;
  not_write = λ i e. cc;
  not_report = λ e. cc;
  refused_for = λ r e. cc;
  cause = stop;
  passed = tt;
  complete = λ h. absurd (h stop.0);
}
stopped words (ReadFault i) rose failed listed held a stop = record {
  not_usage = λ e. cc;
  not_done = λ e. cc;
  not_write = λ j e. cc;
  not_report = λ e. cc;
  refused_for = λ r e. cc;
  cause = (stop.0, stop.1);
  passed = stop.2;
  complete = λ h. absurd (h stop.0);
}
stopped words (Refused q) rose failed listed held a stop = record {
  not_usage = λ e. cc;
  not_done = λ e. cc;
  not_write = λ i e. cc;
  not_report = λ e. cc;
  refused_for = λ r e. let same : q ≡ r = cc in told_why words held q r a same stop;
  cause = tt;
  passed = tt;
  complete = λ h. told_refused words held q a stop;
}
stopped words (WriteFault _) rose failed listed held a stop = absurd stop
stopped words ReportFault rose failed listed held a stop = absurd stop

-- ---- a run that has a plan

module _ (words : List (List ℕ)) (files : List HeldFile) (p : Plan) (w : AreWritesOf (only_of words) files p) where
  -- the verdict of the plan
  abbrev pub its_verdict : Verdict
  its_verdict = verdict_of (has_fix words) files w.after p.report p.steps

  verdict_is : are_accepted words ≡ true → IsVerdict words files its_verdict
  verdict_is a = of_plan a w.within w.after p.report p.steps w.planned

  end_is : PlansInlineModules → IsEnd words files its_verdict
  end_is law = planned_is_end law words files w.after p.report p.steps w.planned

  new_files : has_fix words ≡ true → its_verdict.files ≡ files_after files w.after
  new_files fix = ap (λ (b : Bool). cond b (files_after files w.after) files) fix

  old_files : has_fix words ≡ false → its_verdict.files ≡ files
  old_files none = ap (λ (b : Bool). cond b (files_after files w.after) files) none

-- how a run ends that has a plan, by what it leaves and writes
pub record Planned (words : List (List ℕ)) (files : List HeldFile) (s : Status) (now : Option (List HeldFile)) (old new : Option (List ℕ)) : Type 0 where
  pub verdict : Verdict
  pub is : IsVerdict words files verdict
  pub end : IsEnd words files verdict
  pub status : s ≡ verdict.status
  pub held : now ≡ Some verdict.files
  pub out : new ≡ appended old verdict.bytes

-- all the files are replaced
all_replaced : (words : List (List ℕ)) (files : List HeldFile) (now : Option (List HeldFile)) (p : Plan) (w : AreWritesOf (only_of words) files p) → has_fix words ≡ true
    → now ≡ option_map (written (writes_of p.writes.items)) (Some files) → now ≡ Some (its_verdict words files p w).files
all_replaced words files now p w fix is =
    all_left (Some files) now (writes_of p.writes.items) (map (text_after w.after) files) w.writes is ∙ ap Some (sym (new_files words files p w fix))

pub fixed : PlansInlineModules → (words : List (List ℕ)) (before now : Option (List HeldFile)) (p : Plan) (old new : Option (List ℕ)) → are_accepted words ≡ true → has_fix words ≡ true
    → IfSome before (λ files. AreWritesOf (only_of words) files p) → now ≡ option_map (written (writes_of p.writes.items)) before → new ≡ appended old p.report
    → IfSome before (λ files. Planned words files Done now old new)
fixed law words None now p old new a fix plan is out = tt
fixed law words (Some files) now p old new a fix plan is out = record {
  verdict = its_verdict words files p plan;
  is = verdict_is words files p plan a;
  end = end_is words files p plan law;
  status = sym (ap (λ b. ended b p.steps) fix);
  held = all_replaced words files now p plan fix is;
  out = out;
}

-- no file is replaced
pub shown : PlansInlineModules → (words : List (List ℕ)) (before now : Option (List HeldFile)) (p : Plan) (s : Status) (old new : Option (List ℕ)) → are_accepted words ≡ true → has_fix words ≡ false
    → IfSome before (λ files. AreWritesOf (only_of words) files p) → now ≡ before → s ≡ ended false p.steps → new ≡ appended old p.report
    → IfSome before (λ files. Planned words files s now old new)
shown law words None now p s old new a none plan same is out = tt
shown law words (Some files) now p s old new a none plan same is out = record {
  verdict = its_verdict words files p plan;
  is = verdict_is words files p plan a;
  end = end_is words files p plan law;
  status = is ∙ sym (ap (λ b. ended b p.steps) none);
  held = same ∙ ap Some (sym (old_files words files p plan none));
  out = out;
}

-- ---- what a run that has a plan says

pub planned_done : (words : List (List ℕ)) (before now : Option (List HeldFile)) (s : Status) (old new : Option (List ℕ)) → IfSome before (λ files. Planned words files s now old new)
    → IfSome before (λ files. HasEnded words files s now)
planned_done words None now s old new is = tt
planned_done words (Some files) now s old new is = record { verdict = is.verdict; is = is.is; end = is.end; status = is.status; held = is.held }

-- the bytes of a verdict are out
abbrev pub IsOut : List (List ℕ) → Option (List ℕ) → Option (List ℕ) → List HeldFile → Type 0
IsOut words old new files = (v : Verdict) × IsVerdict words files v × (new ≡ appended old v.bytes)

pub planned_out : (words : List (List ℕ)) (before now : Option (List HeldFile)) (s : Status) (old new : Option (List ℕ)) → IfSome before (λ files. Planned words files s now old new) → IfSome before (IsOut words old new)
planned_out words None now s old new is = tt
planned_out words (Some files) now s old new is = (is.verdict, is.is, is.out)

pub planned_complete : (words : List (List ℕ)) (before now : Option (List HeldFile)) (s : Status) (old new : Option (List ℕ)) → IfSome before (λ files. Planned words files s now old new)
    → IfSome before (λ files. IsAnswer words files s)
planned_complete words None now s old new is = tt
planned_complete words (Some files) now s old new is = end_answer words files s is.verdict is.is is.end is.status

pub planned_inlined : (words : List (List ℕ)) (before now : Option (List HeldFile)) (s : Status) (old new : Option (List ℕ)) → has_fix words ≡ true → IfSome before (λ files. Planned words files s now old new)
    → IfSome before (λ files. IsInlined (only_of words) files now old new)
planned_inlined words None now s old new fix is = tt
planned_inlined words (Some files) now s old new fix is = end_inlined words files is.verdict now old new fix is.end is.held is.out

-- the files of a run whose report is cut off
abbrev pub IsCutOff : List (List ℕ) → Option (List HeldFile) → Option (List ℕ) → Option (List ℕ) → List HeldFile → Type 0
IsCutOff words now old new files = (v : Verdict) × IsVerdict words files v × IsEnd words files v × (now ≡ Some v.files) × IsPartOut old new v.bytes

-- all files are replaced, and the report is cut off
pub fixed_part : PlansInlineModules → (words : List (List ℕ)) (before now : Option (List HeldFile)) (p : Plan) (old new : Option (List ℕ)) → are_accepted words ≡ true → has_fix words ≡ true
    → IfSome before (λ files. AreWritesOf (only_of words) files p) → now ≡ option_map (written (writes_of p.writes.items)) before → IsPartOut old new p.report
    → IfSome before (IsCutOff words now old new)
fixed_part law words None now p old new a fix plan is part = tt
fixed_part law words (Some files) now p old new a fix plan is part =
    (its_verdict words files p plan, verdict_is words files p plan a, end_is words files p plan law, all_replaced words files now p plan fix is, part)

-- no file is replaced, and the report is cut off
shown_part : PlansInlineModules → (words : List (List ℕ)) (before now : Option (List HeldFile)) (p : Plan) (old new : Option (List ℕ)) → are_accepted words ≡ true → has_fix words ≡ false
    → IfSome before (λ files. AreWritesOf (only_of words) files p) → now ≡ before → IsPartOut old new p.report → IfSome before (IsCutOff words now old new)
shown_part law words None now p old new a none plan same part = tt
shown_part law words (Some files) now p old new a none plan same part =
    (its_verdict words files p plan, verdict_is words files p plan a, end_is words files p plan law, same ∙ ap Some (sym (old_files words files p plan none)), part)

-- ---- a run that replaces no file

pub record Reported (words : List (List ℕ)) (s : Status) (before now : Option (List HeldFile)) (old new : Option (List ℕ)) : Type 0 where
  pub done : IfOut s (IfSome before (λ files. HasEnded words files s now))
  pub out : IfOut s (IfSome before (IsOut words old new))
  pub cut : s ≡ ReportFault → IfSome before (IsCutOff words now old new)
  pub complete : (s ≡ ReportFault → ⊥) → IfSome before (λ files. IsAnswer words files s)

done_as : (n : ℕ) → n ≡ 0 → Done ≡ ended false n
done_as zero e = refl
done_as (suc n) e = cc

found_as : (n : ℕ) → (n ≡ 0 → ⊥) → Found ≡ ended false n
found_as zero e = absurd (e refl)
found_as (suc n) e = refl

pub reported : PlansInlineModules → (words : List (List ℕ)) (s : Status) (before now : Option (List HeldFile)) (p : Plan) (old new : Option (List ℕ)) → are_accepted words ≡ true → has_fix words ≡ false
    → IfSome before (λ files. AreWritesOf (only_of words) files p) → now ≡ before → IsReported s p old new → Reported words s before now old new
reported law words Done before now p old new a none plan same is =
    let end = shown law words before now p Done old new a none plan same (done_as p.steps is.0) is.1 in
    record {
      done = planned_done words before now Done old new end;
      out = planned_out words before now Done old new end;
      cut = λ k. cc;
      complete = λ k. planned_complete words before now Done old new end;
    }
reported law words Found before now p old new a none plan same is =
    let end = shown law words before now p Found old new a none plan same (found_as p.steps is.0) is.1 in
    record {
      done = planned_done words before now Found old new end;
      out = planned_out words before now Found old new end;
      cut = λ k. cc;
      complete = λ k. planned_complete words before now Found old new end;
    }
reported law words ReportFault before now p old new a none plan same is = record {
  done = tt;
  out = tt;
  cut = λ k. shown_part law words before now p old new a none plan same is;
  complete = λ k. absurd (k refl);
}
reported law words Usage before now p old new a none plan same is = absurd is
reported law words NoMemory before now p old new a none plan same is = absurd is
reported law words ListFault before now p old new a none plan same is = absurd is
reported law words (ReadFault _) before now p old new a none plan same is = absurd is
reported law words (Refused _) before now p old new a none plan same is = absurd is
reported law words (WriteFault _) before now p old new a none plan same is = absurd is

-- the checks that a run with a plan has passed
pub reported_passed : (s : Status) (p : Plan) (old new : Option (List ℕ)) (listed : List (List ℕ)) → AreFew listed → lists_module listed ≡ true → IsReported s p old new → PassedChecks s listed
reported_passed Done p old new listed few is r = (few, is)
reported_passed Found p old new listed few is r = (few, is)
reported_passed ReportFault p old new listed few is r = (few, is)
reported_passed Usage p old new listed few is r = tt
reported_passed NoMemory p old new listed few is r = tt
reported_passed ListFault p old new listed few is r = tt
reported_passed (ReadFault _) p old new listed few is r = absurd r
reported_passed (Refused _) p old new listed few is r = tt
reported_passed (WriteFault _) p old new listed few is r = absurd r

-- ---- a run whose plan is cut off

front_then_rest : (i : ℕ) (files : List HeldFile) (news : List (List ℕ)) → with_texts files (take i news) ≡ take i (with_texts files news) ++ drop i files
front_then_rest zero [] news = refl
front_then_rest zero (f ∷ files) news = refl
front_then_rest (suc i) [] news = refl
front_then_rest (suc i) (f ∷ files) [] = sym (take-append-drop (suc i) (f ∷ files))
front_then_rest (suc i) (f ∷ files) (t ∷ news) = ap (λ fs. let g : HeldFile = record { path = f.path; bytes = t } in g ∷ fs) (front_then_rest i files news)

new_bytes : (i : ℕ) (files : List HeldFile) (news : List (List ℕ)) → length news ≡ length files → bytes_at (with_texts files news) i ≡ get_or news i []
new_bytes i [] [] e = refl
new_bytes i [] (t ∷ news) e = absurd (omega arith)
new_bytes i (f ∷ files) [] e = absurd (omega arith)
new_bytes zero (f ∷ files) (t ∷ news) e = refl
new_bytes (suc i) (f ∷ files) (t ∷ news) e = new_bytes i files news (omega arith)

some_and : (o : Option (List HeldFile)) (P : List HeldFile → Type 0) → IsSomeAnd o P → (fs : List HeldFile) × (o ≡ Some fs) × P fs
some_and None P h = absurd h
some_and (Some fs) P h = (fs, refl, h)

pub planned_fault : PlansInlineModules → (words : List (List ℕ)) (before now : Option (List HeldFile)) (p : Plan) (i k : ℕ) → are_accepted words ≡ true → has_fix words ≡ true → IfSome before (λ files. AreWritesOf (only_of words) files p) → k < length p.writes.items
    → i ≡ (get_or (writes_of p.writes.items) k (0, [])).0 → now ≡ option_map (written (take k (writes_of p.writes.items))) before → IfSome before (λ files. IsUpTo i words files now)
planned_fault law words None now p i k a fix plan within at is = tt
planned_fault law words (Some files) now p i k a fix plan within at is =
    let news = map (text_after plan.after) files in
    let found = some_and now (λ fs. AreNewUpTo i news files fs) (fault_left (Some files) now (writes_of p.writes.items) news i k plan.writes (omega (arith, within, length-map p.writes.items write_of)) at is) in
    let new : (its_verdict words files p plan).files ≡ with_texts files news = new_files words files p plan fix in
    record {
      verdict = its_verdict words files p plan;
      is = verdict_is words files p plan a;
      end = end_is words files p plan law;
      within = found.2.within;
      differs = λ f. found.2.differs (sym (new_bytes i files news (length-map files (text_after plan.after))) ∙ sym (ap (λ fs. bytes_at fs i) new) ∙ f);
      left = found.1 ∙ ap Some (found.2.left ∙ front_then_rest i files news ∙ ap (λ fs. take i fs ++ drop i files) (sym new));
    }
