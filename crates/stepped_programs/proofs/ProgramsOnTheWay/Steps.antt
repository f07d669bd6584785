-- With the file of a step put in, the next program stands on the way.
use Rattle.std.proofs.Common.{◌≡◌, ◌∙◌, sym, ap, subst, ℕ, ◌+◌, ◌≤◌, List, Some, None, length, is_some}
use Rattle.std.proofs.lemmas.Option.{same_Some}
use Rattle.go_tree.specs.FileView.{file_of}
use Rattle.go_tree.specs.declared.spans.Span.{Span}
use Rattle.pkg_graph.specs.Package as pure
use Rattle.pkg_graph.specs.Reads.{Source}
use Rattle.step_files.specs.declared.file.NewFile.{NewFile}
use Rattle.step_files.specs.declared.limits.Progress.{Progress}
use Rattle.step_files.specs.Files.{text_of}
use Rattle.step_files.specs.Limits.{Passes}
use Rattle.stepped_programs.specs.declared.package_search.looks.ProgramSources.{ProgramSources}
use Rattle.stepped_programs.specs.declared.package_search.search.FoundInPackage.{FoundInPackage}
use Rattle.printed_constants.specs.CountedNames.Laws.{StepsStayWithinTotal}
use Rattle.constant_modules.specs.ConstantPrograms.Laws.{StepsAreOverNames, ConstantProgramsStay, StepsKeepWorlds}
use Rattle.constant_modules.specs.ConstantPrograms.Programs.{IsConstantProgram}
use Rattle.constant_modules.specs.NamedThere.Steps.{IsOfConstants}
use Rattle.literal_tables.specs.HasTypes.{HasTypes}
use Rattle.literal_tables.specs.Laws.{SameWorldsKeepTables}
use Rattle.run_by_steps.specs.NextPrograms.Made.{NextWith}
use Rattle.run_by_steps.specs.Reached.{row_of}
use Rattle.run_by_steps.specs.RunProgress.Laws.{HasCome, StepsComeNext}
use Rattle.run_rules.specs.Marks.{marks_of, text_at}
use Rattle.run_rules.specs.Run.{Standing, Logged, module_file_size, texts_size, the_limits, passed}
use Rattle.run_rules.specs.Sites.{MarkRef, part_span}
use Rattle.run_rules.specs.Steps.{At, Found}
use Rattle.run_rules.specs.Texts.{FileText}
use Rattle.run_by_steps.specs.StepCounts.Laws.{OneMore, StepsAreCounted}
use Rattle.stepped_programs.specs.FirstUses.StepLaws.{FoundFilesStand, ComesTo, text_there}
use Rattle.stepped_programs.specs.Laws.{place_of, IsOfStep, FoundUsesArePut, StepsKeepPrograms, StepsKeepSettled}
use Rattle.stepped_programs.specs.SearchedSites.FoundSteps.Laws.{step_of}
use Rattle.stepped_programs.specs.SearchedSites.OrderedSearches.Found.{IsFoundFirst}
use Rattle.stepped_programs.specs.SearchedSites.TypedSearches.Laws.{TypedFilesAreSearchable, TablesServePrograms}
use Rattle.stepped_programs.specs.SteppedValues.Flags.{IsKeptProgram}
use Rattle.stepped_programs.specs.ProgramsOnTheWay.Laws.{StepsStayOnTheWay, BlocksStayOnTheWay}
use Rattle.stepped_programs.specs.ProgramsOnTheWay.OnTheWay.{IsOnTheWay}
use Rattle.repeated_parts.specs.declared.literal_types.table.LiteralTypes.{LiteralTypes}
use Rattle.run_rules.specs.Programs.{world}
use Rattle.stepped_programs.specs.FirstUses.Step.{IsUseStep}
use Rattle.stepped_programs.specs.Steps.{AreSwapped}
use Rattle.stepped_programs.specs.declared.first_uses.first.FirstUse.{FirstUse}
use Rattle.stepped_programs.specs.declared.package_search.file_steps.step.FileStep.{FileStep}
use Rattle.stepped_programs.proofs.Filled.{block_put}
use Rattle.programs.specs.declared.state.Program.{Program}
use Rattle.run_by_steps.specs.declared.step_counts.counts.StepCounts.{StepCounts}

module _ (files : List Source) (marks : List MarkRef) (st : Standing) (s : ProgramSources) (k : ℕ) (r : FoundInPackage) (a : IsFoundFirst marks st s k r) (old : FileText) (f : NewFile) (n : NextWith marks st (step_of a) old (text_of f) (file_of f.tree))
    (program : IsConstantProgram files marks st) where
  abbrev row : Logged
  row = row_of marks st (step_of a) old

  -- the step is that over the use that was found
  same : n.next.found ≡ step_of a
  same = same_Some n.next.found (step_of a) (sym n.next.is_first ∙ a.is_first)

  -- it passes no limit
  within : StepsComeNext → (done : List Logged) (progress : Progress) → text_at a.site.at.source.path st.texts ≡ Some old → HasCome progress files done row st old → Passes progress (text_of f) None
      → passed the_limits files done row n.next.new n.after.texts ≡ None
  within come done progress there has passes =
      let old_is : old ≡ n.next.old = same_Some old n.next.old (sym there ∙ sym (ap (λ (g : Found At). text_at g.site.at.source.path st.texts) same) ∙ n.next.stands) in
      let c = come marks files done st row n.after n.next progress program.apart (subst (λ (t : FileText). HasCome progress files done row st t) old_is has) in
      subst (λ (t : FileText). passed the_limits files done row t n.after.texts ≡ None) (sym n.text_is)
      (passes files done row n.after.texts (record { steps = c.steps; steps_of_use = c.steps_of_use; bytes = c.bytes ∙ ap (λ (t : FileText). progress.other_bytes + length t.text) n.text_is }))

pub is_of : FoundFilesStand → StepsStayWithinTotal → FoundUsesArePut → StepsComeNext → (files : List Source) (ps : List (pure.Package Span)) (texts : List (List ℕ × FileText)) (only : List ℕ) (done : List Logged)
    (st : Standing) (p : Program) (s : ProgramSources) (c : StepCounts) (u : FirstUse) (a : IsFoundFirst (marks_of ps texts only) st s u.home u.found) (progress : Progress) (step : FileStep)
    → IsOnTheWay files ps texts only done st p s c → ComesTo files ps texts only done st p s u a progress → (made : IsUseStep p u progress step)
    → (n : NextWith (marks_of ps texts only) st (step_of a) (text_there made.file) (text_of step.file) (file_of step.file.tree)) → (os : List Span)
    → AreSwapped p (place_of u.home u.found) (is_some u.found.found.form.«package») u.found.found.form.span os
    → IsOfStep n.next (place_of u.home u.found) os u.found.tables.names.«package» step.file
is_of stand total are_put come files ps texts only done st p s c u a progress step o comes made n os swapped =
    let marks : List MarkRef = marks_of ps texts only in
    let old : FileText = text_there made.file in
    let right = comes.right made.file in
    let there = (stand files marks st p s u a made.file made.view o.kept made.is_view).there in
    let fits = within files marks st s u.home u.found a old step.file n o.constants come done progress there (comes.come made.file) made.within in
    let small : length step.file.text ≤ 4194304 = subst (λ (x : FileText). length x.text ≤ 4194304) n.text_is (total files done (row_of marks st (step_of a) old) n.next.new n.after.texts fits).0 in
    are_put files marks st s u.home u.found a old step.file n p os right.expr o.kept.is_program right.part small swapped

pub stay_on : FoundFilesStand → TypedFilesAreSearchable → TablesServePrograms → SameWorldsKeepTables → StepsKeepWorlds → StepsAreOverNames → ConstantProgramsStay → StepsStayWithinTotal → FoundUsesArePut → StepsComeNext → StepsAreCounted → StepsKeepPrograms → StepsKeepSettled → StepsStayOnTheWay
stay_on stand searchable serve tables worlds over keeps total are_put come count keep settle files ps texts only done st p q s t c d u a progress step o comes made n reached os swapped put sources more =
    let marks : List MarkRef = marks_of ps texts only in
    let old : FileText = text_there made.file in
    let l : Logged = row_of marks st (step_of a) old in
    let there = (stand files marks st p s u a made.file made.view o.kept made.is_view).there in
    let fits = within files marks st s u.home u.found a old step.file n o.constants come done progress there (comes.come made.file) made.within in
    let program : IsConstantProgram files marks n.after = keeps files marks done st l n.after n.next o.constants fits in
    let its : IsOfConstants marks n.after = program.constants in
    let types : HasTypes (world n.after.packages) q.types =
    subst (λ (t : LiteralTypes). HasTypes (world n.after.packages) t) (sym put.types_stay) (tables (world st.packages) (world n.after.packages) p.types (worlds files marks st l n.after n.next o.constants) o.types) in
    let is : IsOfStep n.next (place_of u.home u.found) os u.found.tables.names.«package» step.file =
    is_of stand total are_put come files ps texts only done st p s c u a progress step o comes made n os swapped in
    let kept : IsKeptProgram files marks n.after q t =
    record {
      is_program = keep files marks st l n.after n.next (place_of u.home u.found) os u.found.tables.names.«package» step.file p q o.kept.is_program o.constants.apart is put;
      sources = sources;
      ready = its.ready;
      typed = its.typed;
      named = its.named;
      fields = serve n.after q.types its.ready.reads its.ready.links.ordered its.ready.typed types;
      searchable = searchable marks n.after its.ready.reads its.ready.paths its.ready.links.ordered its.ready.typed its.small;
    } in
    record {
      reached = reached;
      kept = kept;
      constants = program;
      types = types;
      settled =
          settle files marks st l n.after n.next (place_of u.home u.found) os u.found.tables.names.«package» step.file p q s t o.kept kept (over files marks st l n.after n.next o.constants) is put
          o.settled;
      counted =
          count marks st l n.after n.next done c d o.kept.is_program.paths o.counted
          (subst (λ (g : Found At). OneMore c d (g.site.at.number, (g.site.at.file_number, (part_span a.site.part).origin.start))) (sym (same files marks st s u.home u.found a old step.file n o.constants)) more);
    }

pub blocks_stay_on : FoundFilesStand → StepsStayWithinTotal → FoundUsesArePut → StepsComeNext → BlocksStayOnTheWay
blocks_stay_on stand total are_put come files ps texts only done st p q s c u a progress step o comes made n os swapped put home there =
    let marks : List MarkRef = marks_of ps texts only in
    block_put files marks st (row_of marks st (step_of a) (text_there made.file)) n.after n.next (place_of u.home u.found) os u.found.tables.names.«package» step.file p q o.kept.is_program
    (is_of stand total are_put come files ps texts only done st p s c u a progress step o comes made n os swapped) put home there
