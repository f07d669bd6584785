-- The step over the first free use of a program is the next of its run.
use Rattle.std.proofs.Common.{◌≡◌, ◌∙◌, sym, ap, subst, List, Some, None}
use Rattle.step_files.specs.Limits.{ComesNext, told}
use Rattle.stepped_programs.specs.PackageSearch.FileSteps.Steps.{IsStepOf}
use Rattle.stepped_programs.specs.declared.package_search.looks.ProgramSources.{ProgramSources}
use Rattle.constant_modules.specs.ConstantPrograms.Laws as constants
use Rattle.printed_constants.specs.StandingForms.Laws.{FirstUsesHaveNext}
use Rattle.programs.specs.declared.state.Program.{Program}
use Rattle.run_by_steps.specs.Reached.{row_of}
use Rattle.run_by_steps.specs.RunProgress.Laws.{StepsComeNext}
use Rattle.stepped_programs.specs.RunReports.Laws.{IsLogged, StepRowsTell}
use Rattle.run_rules.specs.Run.{Standing, Logged, edits_in, path_of_file}
use Rattle.run_rules.specs.Sites.{part_span}
use Rattle.run_by_steps.specs.StepCounts.Laws.{OneMore}
use Rattle.run_by_steps.specs.StepCounts.Origins.{OriginKey}
use Rattle.run_by_steps.specs.declared.step_counts.counts.StepCounts.{StepCounts}
use Rattle.stepped_programs.specs.FirstUses.First.{IsFirstUse}
use Rattle.stepped_programs.specs.FirstUses.Laws.{FirstUsesAreSteps}
use Rattle.stepped_programs.specs.FirstUses.Step.{HasFileOf}
use Rattle.stepped_programs.specs.FirstUses.StepLaws.{FoundFilesStand, IsRightFirst, UseStepsGoOn, text_there}
use Rattle.stepped_programs.specs.ProgramsOnTheWay.Laws.{FirstUsesStayOnTheWay, FirstUsesAreFound, FoundUsesComeNext, RunsEnd, StepsStayOnTheWay, BlocksStayOnTheWay}
use Rattle.stepped_programs.specs.ProgramsOnTheWay.OnTheWay.{IsOnTheWay}
use Rattle.stepped_programs.specs.SearchedSites.FoundSteps.Laws.{step_of, FoundUsesAreSteps}
use Rattle.stepped_programs.specs.SearchedSites.FoundSteps.Uses.{HasFile}
use Rattle.stepped_programs.specs.SearchedSites.OrderedSearches.Found.{IsFoundFirst}
use Rattle.stepped_programs.specs.declared.first_uses.first.FirstUse.{FirstUse}
use Rattle.text_edits.specs.Applied.{applied}
use Rattle.run_plans.specs.declared.inlined_programs.faults.PassedIn.{PassedIn}
use Rattle.run_plans.specs.declared.inlined_programs.faults.StepFault.{StepFault}
use Rattle.run_plans.specs.declared.inlined_programs.faults.StepFault.TheVariants as fault
use Rattle.run_plans.specs.InlinedPrograms.Beginnings.{Beginning, marks_in, StandsAfter}
use Rattle.run_plans.specs.InlinedPrograms.Laws.{StepsAreLogged, TakenStepsComeNext, TakenStepsKeepBlocks, LimitsStopRuns, SettledProgramsEndRuns}
use Rattle.run_plans.specs.InlinedPrograms.Runs.{IsHindered, PassesLimit}
use Rattle.run_plans.specs.InlinedPrograms.Steps.{HasNotTaken, IsNotTaken}
use Rattle.run_plans.proofs.InlinedPrograms.Sources.{as_sources, are_sources}
use Rattle.run_plans.proofs.InlinedPrograms.Found.{path_there, ahead, same_found, same_old, comes_next}
use Rattle.run_plans.proofs.InlinedPrograms.MayTake.{comes_to}

pub come_next : StepsAreLogged → FirstUsesStayOnTheWay → FirstUsesAreFound → FoundUsesComeNext → UseStepsGoOn → StepsStayOnTheWay → StepRowsTell → TakenStepsComeNext
come_next logs stay find come on keep tell b done st old new p c d u places row h f t =
    let s : ProgramSources = h.sources in
    let o : IsOnTheWay b.files b.packages b.texts b.only done st new s c = stay b.files b.packages b.texts b.only done st old new s c (Some u) h.on_the_way f in
    let q = find b.files b.packages b.texts b.only done st old new s c u h.on_the_way f in
    let a : IsFoundFirst (marks_in b) st s u.home u.found = q.0 in
    let log : IsLogged a t.log = logs b done st new s c u a t.log o q.1 t.comes.log in
    let comes = comes_to b done st new s c u a o q.1 logs come t.log t.progress t.comes in
    let r = on b.files b.packages b.texts b.only done st new s u a t.progress t.step comes t.is_step in
    let more : OneMore c d (a.site.at.number, (a.site.at.file_number, (part_span a.site.part).origin.start)) =
    subst (λ (k : OriginKey). OneMore c d k) (λ v. (sym a.number_is v, (sym a.file_is v, log.offset_is v))) t.put.counted in
    record {
      step = row_of (marks_in b) st (step_of a) (text_there t.is_step.file);
      after = r.0.after;
      stands =
          record {
            sources = as_sources p;
            on_the_way =
                keep b.files b.packages b.texts b.only done st new p s (as_sources p) c d u a t.progress t.step o comes t.is_step r.0 r.1 t.put.origins t.put.are_swapped t.put.put (are_sources p) more;
          };
      tells = λ files finds. tell b.files (marks_in b) st new s u a (text_there t.is_step.file) files places t.log row o.kept finds log t.put.row_is;
    }

pub keep_blocks : StepsAreLogged → FirstUsesStayOnTheWay → FirstUsesAreFound → FoundUsesComeNext → UseStepsGoOn → BlocksStayOnTheWay → TakenStepsKeepBlocks
keep_blocks logs stay find come on keep b done st old new p c d u places row h f t home there =
    let s : ProgramSources = h.sources in
    let o : IsOnTheWay b.files b.packages b.texts b.only done st new s c = stay b.files b.packages b.texts b.only done st old new s c (Some u) h.on_the_way f in
    let q = find b.files b.packages b.texts b.only done st old new s c u h.on_the_way f in
    let comes = comes_to b done st new s c u q.0 o q.1 logs come t.log t.progress t.comes in
    let r = on b.files b.packages b.texts b.only done st new s u q.0 t.progress t.step comes t.is_step in
    keep b.files b.packages b.texts b.only done st new p s c u q.0 t.progress t.step o comes t.is_step r.0 t.put.origins t.put.are_swapped t.put.put home there

module _ (b : Beginning) (done : List Logged) (st : Standing) (p : Program) (s : ProgramSources) (c : StepCounts) (u : FirstUse) (a : IsFoundFirst (marks_in b) st s u.home u.found)
    (o : IsOnTheWay b.files b.packages b.texts b.only done st p s c) (right : IsRightFirst p a) (at : PassedIn) (q : Program) (d : StepCounts) (t : HasNotTaken p c u at q d) where
  abbrev h : HasFileOf p u
  h = t.passes.is_fault.file

  abbrev row : Logged
  row = row_of (marks_in b) st (step_of a) (text_there h)

  limit_passed : StepsAreLogged → FoundUsesComeNext → FoundFilesStand → FoundUsesAreSteps → constants.FirstUsesAreRight → FirstUsesHaveNext → StepsComeNext → PassesLimit b done st at.home at.file (told at.passed)
  limit_passed logs come stand steps is_right have follow =
      let fault = t.passes.is_fault in
      let has : HasFile st a.site u.found (text_there h) fault.view h.text h.tokens = stand b.files (marks_in b) st p s u a h fault.view o.kept fault.is_view in
      let is_step : IsStepOf (marks_in b) st (text_there h) (step_of a) fault.view h.text h.tokens u.found.found.form =
      steps (marks_in b) st s u.home u.found a (text_there h) fault.view h.text h.tokens o.kept.ready has (right h) in
      let e = ahead b done st p s c u a o h stand is_right have in
      let n = e.2 in
      let old_is : text_there h ≡ n.next.old = same_old b done st p s c u a o h e.0 e.1 n stand in
      let found_is = same_found b done st p s c u a o h e.0 e.1 n in
      let text_is : n.next.new.text ≡ applied h.text fault.is_fault.0 =
      n.next.text_is ∙ (λ v. applied (sym old_is v).text (edits_in (marks_in b) st (sym old_is v) (found_is v)))
      ∙ ap (applied h.text) (sym (fault.is_fault.1.0 (marks_in b) st (text_there h) (step_of a) is_step)) in
      let comes = comes_to b done st p s c u a o right logs come t.log t.progress t.comes in
      let next : ComesNext t.progress b.files done row n.next.new n.after.texts = comes_next b done st p s c u a o h e.0 e.1 n stand follow t.progress (comes.come h) in
      record {
        step = row;
        after = n.after;
        next = n.next;
        passes = fault.is_fault.1.1 n.next.new text_is n.next.scans b.files done row n.after.texts next;
        in_file = (λ v. path_of_file st.packages (t.passes.home_is v) (t.passes.file_is v)) ∙ path_there b done st p s c u a o;
      }

pub limits_stop : StepsAreLogged → FirstUsesStayOnTheWay → FirstUsesAreFound → FoundUsesComeNext → FoundFilesStand → FoundUsesAreSteps → constants.FirstUsesAreRight → FirstUsesHaveNext → StepsComeNext → LimitsStopRuns
limits_stop logs stay find come stand steps is_right have follow b done st old new p c d u at h f t =
    let s : ProgramSources = h.sources in
    let o : IsOnTheWay b.files b.packages b.texts b.only done st new s c = stay b.files b.packages b.texts b.only done st old new s c (Some u) h.on_the_way f in
    let q = find b.files b.packages b.texts b.only done st old new s c u h.on_the_way f in
    record {
      stands =
          subst (λ (x : Program). StandsAfter b done st x d) (sym t.program_stays)
          (subst (λ (k : StepCounts). StandsAfter b done st new k) (sym t.counts_stay) (record { sources = s; on_the_way = o }));
      limit = limit_passed b done st new s c u q.0 o q.1 at p d t logs come stand steps is_right have follow;
    }

-- so no step is made
pub is_hindered : LimitsStopRuns → (b : Beginning) (done : List Logged) (st : Standing) (old new p : Program) (c d : StepCounts) (u : FirstUse) (e : StepFault) → StandsAfter b done st old c → IsFirstUse old new (Some u)
    → IsNotTaken new c u e p d → IsHindered b done st e p d
is_hindered law b done st old new p c d u (fault.TooLarge at) h f n = law b done st old new p c d u at h f n
is_hindered law b done st old new p c d u fault.NoMemory h f n = tt

pub runs_are_over : FirstUsesStayOnTheWay → FirstUsesAreSteps → RunsEnd → SettledProgramsEndRuns
runs_are_over stay are_steps ends b done st old new c h f =
    record {
      stands = record { sources = h.sources; on_the_way = stay b.files b.packages b.texts b.only done st old new h.sources c None h.on_the_way f };
      over = are_steps b.files (marks_in b) st old new h.sources None h.on_the_way.kept h.on_the_way.settled f;
      inlined = ends b.files b.packages b.texts b.only done st old new h.sources c h.on_the_way f;
    }
