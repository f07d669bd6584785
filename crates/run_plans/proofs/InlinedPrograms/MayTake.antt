-- The step over the first free use of a program on its run may be made.
use Rattle.std.proofs.Common.{◌≡◌, sym, subst, ℕ, ◌+◌, ◌≤◌, ◌<◌, ◌^◌, List, length, Some, None, arith}
use Rattle.step_files.specs.Limits.{ComesNext, Passes}
use Rattle.step_files.specs.declared.limits.Progress.{Progress}
use Rattle.stepped_programs.specs.declared.package_search.file_steps.step.FileStep.{FileStep}
use Rattle.stepped_programs.specs.declared.package_search.looks.ProgramSources.{ProgramSources}
use Rattle.printed_constants.specs.CountedNames.Laws.{StepsStayWithinTotal}
use Rattle.constant_modules.specs.ConstantPrograms.Laws.{ConstantProgramsStay}
use Rattle.constant_modules.specs.ConstantPrograms.Programs.{IsConstantProgram}
use Rattle.programs.specs.declared.state.Program.{Program}
use Rattle.run_by_steps.specs.Reached.{row_of}
use Rattle.run_by_steps.specs.RunProgress.Laws.{StepsComeNext}
use Rattle.stepped_programs.specs.RunReports.Laws.{ProgramsMayBeTold}
use Rattle.stepped_programs.specs.declared.run_reports.steps.LoggedStep.{LoggedStep}
use Rattle.run_rules.specs.Run.{Standing, Logged, module_file_size, texts_size, the_limits, passed}
use Rattle.run_rules.specs.Texts.{FileText}
use Rattle.run_by_steps.specs.StepCounts.Laws.{TextsLieWithin, OriginsWithinSteps}
use Rattle.run_by_steps.specs.declared.step_counts.counts.StepCounts.{StepCounts}
use Rattle.stepped_programs.specs.FirstUses.Step.{HasFileOf, IsUseStep}
use Rattle.stepped_programs.specs.FirstUses.StepLaws.{ComesTo, FoundFilesStand, FoundUsesMayStep, IsRightFirst, UseStepsAreRead, UseStepsGoOn, text_there}
use Rattle.stepped_programs.specs.Laws.{StepsMayBePut, place_of}
use Rattle.stepped_programs.specs.ProgramsOnTheWay.Laws.{FirstUsesStayOnTheWay, FirstUsesAreFound, FoundUsesComeNext}
use Rattle.stepped_programs.specs.ProgramsOnTheWay.OnTheWay.{IsOnTheWay, IsProgressOf}
use Rattle.stepped_programs.specs.SearchedSites.FoundSteps.Laws.{step_of}
use Rattle.stepped_programs.specs.SearchedSites.OrderedSearches.Found.{IsFoundFirst}
use Rattle.stepped_programs.specs.Steps.{MayBePut}
use Rattle.stepped_programs.specs.declared.first_uses.first.FirstUse.{FirstUse}
use Rattle.run_plans.specs.InlinedPrograms.Beginnings.{Beginning, marks_in}
use Rattle.run_plans.specs.InlinedPrograms.Laws.{StepsAreLogged, StepsMayBeTaken}
use Rattle.run_plans.specs.InlinedPrograms.Steps.{ComesToLog}
use Rattle.run_plans.proofs.InlinedPrograms.Found.{path_there, has_file, comes_next, its_place}
use Rattle.run_plans.proofs.InlinedPrograms.Reached.{few_steps}

-- the bytes of the module and of a new text
few_bytes : (bytes sizes texts new : ℕ) → bytes ≡ sizes + texts → sizes + texts ≤ the_limits.total → new ≤ the_limits.bytes → bytes + new < 2 ^ 32
few_bytes bytes sizes texts new e h k =
    let all : sizes + texts ≤ 16777216 = h in
    let one : new ≤ 4194304 = k in
    omega (arith, e, all, one)

-- the counts
few_counts : (n : ℕ) → n ≤ 65536 → n + 1 < 2 ^ 32
few_counts n h = omega (arith, h)

module _ (b : Beginning) (done : List Logged) (st : Standing) (p : Program) (s : ProgramSources) (c : StepCounts) (u : FirstUse) (a : IsFoundFirst (marks_in b) st s u.home u.found)
    (o : IsOnTheWay b.files b.packages b.texts b.only done st p s c) (right : IsRightFirst p a) where
  -- so far the run has come
  pub comes_to : StepsAreLogged → FoundUsesComeNext → (l : LoggedStep) (progress : Progress) → ComesToLog p c u l progress → ComesTo b.files b.packages b.texts b.only done st p s u a progress
  comes_to logs come l progress k =
      come b.files b.packages b.texts b.only done st p s c u a progress o right
      (subst (λ (n : ℕ). IsProgressOf p u c n progress) (logs b done st p s c u a l o right k.log).offset_is k.progress_is)

  within : FoundFilesStand → TextsLieWithin → (h : HasFileOf p u) → length h.text ≤ p.bytes
  within stand lie h =
      let t : length h.text ≤ texts_size st.texts = lie a.site.at.source.path (text_there h) st.texts (has_file b done st p s c u a o h stand).there in
      omega (arith, t, o.kept.is_program.bytes_are)

  may_put : FoundFilesStand → UseStepsGoOn → StepsComeNext → ConstantProgramsStay → StepsStayWithinTotal → StepsMayBePut → (progress : Progress) (step : FileStep)
      → ComesTo b.files b.packages b.texts b.only done st p s u a progress → IsUseStep p u progress step → MayBePut p (place_of u.home u.found) step.file
  may_put stand on come keep total put progress step comes made =
      let h = made.file in
      let r = on b.files b.packages b.texts b.only done st p s u a progress step comes made in
      let n = r.0 in
      let l : Logged = row_of (marks_in b) st (step_of a) (text_there h) in
      let next : ComesNext progress b.files done l n.next.new n.after.texts = comes_next b done st p s c u a o h _ _ n stand come progress (comes.come h) in
      let fits : passed the_limits b.files done l n.next.new n.after.texts ≡ None =
      subst (λ (t : FileText). Passes progress t None) (sym n.text_is) made.within b.files done l n.after.texts next in
      let program : IsConstantProgram b.files (marks_in b) n.after = keep b.files (marks_in b) done st l n.after n.next o.constants fits in
      let small : length step.file.text ≤ the_limits.bytes = subst (λ (t : FileText). length t.text ≤ the_limits.bytes) n.text_is (total b.files done l n.next.new n.after.texts fits).0 in
      put b.files (marks_in b) st l n.after n.next (place_of u.home u.found) step.file p o.kept.is_program (its_place b done st p s c u a o h _ _ n) (sym n.tree_is) program.constants.ready.links
      (few_bytes p.bytes (module_file_size b.files) (texts_size st.texts) (length step.file.text) o.kept.is_program.bytes_are o.constants.small small)

pub may_take : StepsAreLogged → FirstUsesStayOnTheWay → FirstUsesAreFound → FoundUsesComeNext → ProgramsMayBeTold → FoundFilesStand → FoundUsesMayStep → UseStepsGoOn → UseStepsAreRead → StepsMayBePut
    → ConstantProgramsStay → StepsStayWithinTotal → StepsComeNext → TextsLieWithin → OriginsWithinSteps → StepsMayBeTaken
may_take logs stay find come tell stand may on read put keep total follow lie origins b done st old new c u h f =
    let s : ProgramSources = h.sources in
    let o : IsOnTheWay b.files b.packages b.texts b.only done st new s c = stay b.files b.packages b.texts b.only done st old new s c (Some u) h.on_the_way f in
    let r = find b.files b.packages b.texts b.only done st old new s c u h.on_the_way f in
    let a : IsFoundFirst (marks_in b) st s u.home u.found = r.0 in
    record {
      told = tell b.files (marks_in b) st new o.kept.is_program;
      may = may b.files (marks_in b) st new s u a o.kept r.1;
      fits = within b done st new s c u a o r.1 stand lie;
      read = λ l progress k fault. read b.files b.packages b.texts b.only done st new s u a progress (comes_to b done st new s c u a o r.1 logs come l progress k) fault;
      put =
          λ l progress step k made.
          may_put b done st new s c u a o r.1 stand on follow keep total put progress step (comes_to b done st new s c u a o r.1 logs come l progress k) made;
      steps = few_counts c.steps (few_steps b done st old c h);
      of_origin = origins st.packages done c o.counted u.home u.found.file a.site.at.source.path (path_there b done st new s c u a o);
    }
