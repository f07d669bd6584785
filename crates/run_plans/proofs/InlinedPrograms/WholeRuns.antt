-- Steps one after another.
use Rattle.std.proofs.Common.{◌≡◌, ◌∙◌, refl, sym, subst, ℕ, ◌+◌, ◌-◌, ◌<◌, ◌≤◌, List, [], ◌∷◌, ◌++◌, map, length, Some, None, length-append, arith}
use Rattle.std.proofs.lemmas.List.{map-append}
use Rattle.programs.specs.declared.state.Program.{Program}
use Rattle.report_order.specs.Laws.{RowsTell}
use Rattle.report_order.specs.declared.rows.ReportRow.{ReportRow}
use Rattle.report_order.proofs.Told.{rows_join}
use Rattle.stepped_programs.specs.RunReports.Laws.{paths_of}
use Rattle.run_rules.specs.Report.{Entry, step_entry}
use Rattle.run_by_steps.specs.declared.step_counts.counts.StepCounts.{StepCounts}
use Rattle.run_plans.specs.declared.inlined_programs.faults.StepFault.{StepFault}
use Rattle.run_plans.specs.declared.inlined_programs.faults.StepFault.TheVariants as fault
use Rattle.run_plans.specs.InlinedPrograms.Beginnings.{Beginning, BeginsRun, IsOnRun}
use Rattle.run_plans.specs.InlinedPrograms.Laws.{StoppedRunsAreTooLarge}
use Rattle.run_plans.specs.InlinedPrograms.Runs.{HasMadeStep, HasRun, RunsToEnd, TakesStep, TakesNoStep, DoesNotEnd}
use Rattle.run_plans.proofs.InlinedPrograms.Reached.{few_steps}

-- What has been made of a program so far, with these rows: on each run that begins at it.
pub record GoesSoFar (places : List (List ℕ × ℕ)) (old p : Program) (c : StepCounts) (rows : List ReportRow) : Type 0 where
  pub on_run : IsOnRun p c
  pub from : (b : Beginning) → BeginsRun b old → HasRun b places rows p c
  pub bad_stay : p.bad ≡ old.bad

-- none yet
pub none_made : (places : List (List ℕ × ℕ)) (p : Program) (c : StepCounts) (rows : List ReportRow) → (b : Beginning) × BeginsRun b p → c.steps ≡ 0 → c.origins ≡ [] → rows ≡ [] → GoesSoFar places p p c rows
none_made places p c rows h steps origins e =
    subst (λ (rs : List ReportRow). GoesSoFar places p p c rs) (sym e)
    (record {
      on_run = record { beginning = h.0; done = []; standing = _; stands = h.1 c steps origins };
      from = λ b begins. record { done = []; standing = _; stands = begins c steps origins; tell = λ files finds. tt };
      bad_stay = refl;
    })

run_more : (b : Beginning) (places : List (List ℕ × ℕ)) (rows : List ReportRow) (row : ReportRow) (p q : Program) (c d : StepCounts) → HasRun b places rows p c → TakesStep p c places (Some row) q d
    → HasRun b places (rows ++ row ∷ []) q d
run_more b places rows row p q c d h takes =
    let m : HasMadeStep b h.done h.standing places row q d = takes b h.done h.standing h.stands in
    record {
      done = h.done ++ m.step ∷ [];
      standing = m.after;
      stands = m.stands;
      tell =
          λ files finds.
          subst (λ (es : List Entry). RowsTell (paths_of files) (rows ++ row ∷ []) es) (sym (map-append step_entry h.done (m.step ∷ [])))
          (rows_join (paths_of files) rows (row ∷ []) (map step_entry h.done) (step_entry m.step ∷ []) (h.tell files finds) (m.tells files finds, tt));
    }

-- one more
pub step_made : (places : List (List ℕ × ℕ)) (old p q : Program) (c d : StepCounts) (rows more : List ReportRow) (row : ReportRow) → GoesSoFar places old p c rows → TakesStep p c places (Some row) q d → q.bad ≡ p.bad
    → more ≡ rows ++ row ∷ [] → GoesSoFar places old q d more
step_made places old p q c d rows more row g takes bad e =
    let r = g.on_run in
    let m : HasMadeStep r.beginning r.done r.standing places row q d = takes r.beginning r.done r.standing r.stands in
    subst (λ (rs : List ReportRow). GoesSoFar places old q d rs) (sym e)
    (record {
      on_run = record { beginning = r.beginning; done = r.done ++ m.step ∷ []; standing = m.after; stands = m.stands };
      from = λ b begins. run_more b places rows row p q c d (g.from b begins) takes;
      bad_stay = bad ∙ g.bad_stay;
    })

-- so fewer are left
fewer : (n k l : ℕ) → n ≡ l → k ≡ l + 1 → k ≤ 65536 → 65536 - k < 65536 - n
fewer n k l e f h = omega (arith, e, f, h)

pub fewer_left : (places : List (List ℕ × ℕ)) (old p q : Program) (c d : StepCounts) (rows : List ReportRow) (row : ReportRow) → GoesSoFar places old p c rows → TakesStep p c places (Some row) q d → 65536 - d.steps < 65536 - c.steps
fewer_left places old p q c d rows row g takes =
    let r = g.on_run in
    let m : HasMadeStep r.beginning r.done r.standing places row q d = takes r.beginning r.done r.standing r.stands in
    fewer c.steps d.steps (length r.done) r.stands.on_the_way.counted.steps (m.stands.on_the_way.counted.steps ∙ length-append r.done (m.step ∷ []))
    (few_steps r.beginning (r.done ++ m.step ∷ []) m.after q d m.stands)

-- all
pub all_made : (places : List (List ℕ × ℕ)) (old p q : Program) (c d : StepCounts) (rows : List ReportRow) → GoesSoFar places old p c rows → TakesStep p c places None q d
    → (b : Beginning) → BeginsRun b old → RunsToEnd b places rows q
all_made places old p q c d rows g takes b begins =
    let h : HasRun b places rows p c = g.from b begins in
    let e = takes b h.done h.standing h.stands in
    record { counts = d; come = record { done = h.done; standing = h.standing; stands = e.stands; tell = h.tell }; ended = e }

-- or a limit is passed
pub stopped : (places : List (List ℕ × ℕ)) (old p q : Program) (c d : StepCounts) (rows : List ReportRow) (e : StepFault) → GoesSoFar places old p c rows → TakesNoStep p c e q d
    → (b : Beginning) → BeginsRun b old → DoesNotEnd b e q
stopped places old p q c d rows (fault.TooLarge at) g none b begins =
    let h : HasRun b places rows p c = g.from b begins in
    record { done = h.done; standing = h.standing; counts = d; stopped = none b h.done h.standing h.stands }
stopped places old p q c d rows fault.NoMemory g none b begins = tt

pub too_large : StoppedRunsAreTooLarge
too_large b at p h =
    let s = h.stopped in
    record {
      before = h.standing;
      after = s.limit.after;
      log = h.done;
      last = s.limit.step;
      read = s.stands.on_the_way.reached.read;
      reached = s.stands.on_the_way.reached.steps;
      next = s.limit.next;
      passes = s.limit.passes;
    }
