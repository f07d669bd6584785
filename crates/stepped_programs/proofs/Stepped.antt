-- A program after a step is a program.
use Rattle.std.proofs.Common.{◌≡◌, ◌∙◌, sym, ap, subst, ℕ, ◌+◌, ◌<◌, ◌^◌, true, List, map, length, Some, arith}
use Rattle.std.specs.Prelude.{slice_get}
use Rattle.std.proofs.lemmas.Option.{same_Some}
use Rattle.go_tree.specs.declared.spans.Span.{Span}
use Rattle.go_tree.specs.FileView.{file_of}
use Rattle.pkg_graph.specs.Package.{Package}
use Rattle.pkg_graph.specs.Reads.{Source}
use Rattle.pkg_graph.specs.Views.{package_view}
use Rattle.file_names.specs.Imports.{FindsPackages}
use Rattle.stepped_programs.proofs.LoadedPrograms.AsRead.{order_with}
use Rattle.module_marks.specs.Tables.{IsTableOf}
use Rattle.module_marks.specs.declared.table.MarkTable.{MarkTable}
use Rattle.step_files.specs.declared.file.NewFile.{NewFile}
use Rattle.programs.specs.Kept.{IsKeptFile, text_with}
use Rattle.programs.specs.Programs.{IsProgramOf}
use Rattle.programs.specs.declared.state.PackageFiles.{PackageFiles}
use Rattle.programs.specs.declared.state.Program.{Program}
use Rattle.run_by_steps.specs.RunProgress.Laws.{are_paths_apart}
use Rattle.run_by_steps.proofs.RunProgress.Counts.{totals_follow}
use Rattle.splice_laws.specs.RunLaws.Reading.{ProgramReads, OnePathEach}
use Rattle.splice_laws.proofs.RunLaws.RunsRead.{steps_keep_reading}
use Rattle.run_rules.specs.Programs.{dependency_order}
use Rattle.run_rules.specs.Respanned.{packages_with}
use Rattle.run_rules.specs.Run.{Standing, Logged, Next, here_of, module_file_size, texts_size}
use Rattle.run_rules.specs.Sites.{MarkRef, Site}
use Rattle.run_rules.specs.Steps.{At}
use Rattle.run_rules.specs.Texts.{FileText}
use Rattle.stepped_programs.proofs.SearchedSites.SettledFiles.Packages.{placed}
use Rattle.stepped_programs.proofs.SearchedSites.SettledFiles.Stay.{tables_stay}
use Rattle.stepped_programs.specs.SteppedValues.Filled.{ConstantsStayMarked, ValuesAreToldAfterSteps}
use Rattle.stepped_programs.specs.declared.place.StepPlace.{StepPlace}
use Rattle.stepped_programs.specs.Steps.{IsStepPut}
use Rattle.stepped_programs.specs.Laws.{IsOfStep, StepsKeepPrograms}
use Rattle.stepped_programs.proofs.Packages.{count_now, found_same}
use Rattle.stepped_programs.proofs.Filled.{packages_put, filled}
use Rattle.stepped_programs.proofs.Files.{program_reads}
use Rattle.stepped_programs.proofs.Kept.{files_counted, kept_now}
use Rattle.stepped_programs.proofs.ComeFrom.{origins_now}

module _ (files : List Source) (marks : List MarkRef) (st : Standing) (l : Logged) (after : Standing) (n : Next marks st l after) (at : StepPlace) (os : List Span) (block : List (List ℕ)) (f : NewFile) (old new : Program)
    (is : IsProgramOf files marks st old) (apart : are_paths_apart st.texts ≡ true) (o : IsOfStep n at os block f) (put : IsStepPut at os block f old new) (constants : ConstantsStayMarked) (told : ValuesAreToldAfterSteps) where
  abbrev x : Site At
  x = n.found.site

  same : map package_view new.packages.items ≡ packages_with here_of after.packages
  same = packages_put files marks st l after n at os block f old new is o put

  read : ProgramReads after × OnePathEach after.packages
  read = steps_keep_reading marks st l after n (program_reads files marks st old is) is.paths

  -- ---- its bytes

  own_kept : (kept : PackageFiles) → slice_get old.files.items at.home ≡ Some kept → IsKeptFile st kept at.file x.at.source
  own_kept kept there =
      (is.kept at.home x.at.of kept (ap (slice_get st.packages) o.place.home ∙ (placed marks st l after n).package_is) there).each at.file x.at.source
      (ap (slice_get x.at.of.files) o.place.file ∙ (placed marks st l after n).file_is)

  counted : new.bytes ≡ module_file_size files + texts_size after.texts
  counted =
      let kept : PackageFiles = put.texts_are.was in
      let y : IsKeptFile st kept at.file x.at.source = own_kept kept put.texts_are.was_is in
      let text : n.old ≡ text_with y.text y.tokens = same_Some n.old (text_with y.text y.tokens) (sym n.stands ∙ y.stands) in
      let was : length n.old.text ≡ length y.text = ap (λ (t : FileText). length t.text) text in
      let now : length n.new.text ≡ length f.text = ap (λ (t : FileText). length t.text) o.text_is in
      let bytes = put.bytes_are kept y.text put.texts_are.was_is y.text_is in
      let total = totals_follow marks st l after n apart in
      omega (arith, bytes, total, was, now, is.bytes_are)

  is_program : IsProgramOf files marks after new
  is_program =
      record {
        packages_are = same;
        few = subst (λ (m : ℕ). m < 2 ^ 32) (sym (count_now marks st l after n)) is.few;
        paths = read.1;
        places_are =
            subst (λ (ps : List (List ℕ × ℕ)). FindsPackages ps new.packages.items) (sym put.places_stay)
            (found_same at.home at.file (file_of f.tree) old.packages.items new.packages.items put.packages_are old.places is.places_are);
        order_is = put.order_is ∙ ap (λ (ps : List (Package Span)). dependency_order ps) same ∙ order_with here_of after.packages;
        marks_are = subst (λ (t : MarkTable). IsTableOf (packages_with here_of after.packages) marks t) (sym put.marks_stay) (tables_stay marks st l after n old.marks is.marks_are);
        constants = constants marks marks st l after n is.constants;
        values = told marks st l after n new.packages.items old.values new.values same is.constants is.values (filled files marks st l after n at os block f old new is o put);
        count = files_counted files marks st l after n at os block f old new is o put ∙ is.count ∙ sym (count_now marks st l after n);
        kept = kept_now files marks st l after n at os block f old new is o put;
        origins = origins_now files marks st l after n at os block f old new is o put;
        bytes_are = counted;
      }

pub keep_programs : ConstantsStayMarked → ValuesAreToldAfterSteps → StepsKeepPrograms
keep_programs constants told files marks st l after n at os block f old new is apart o put = is_program files marks st l after n at os block f old new is apart o put constants told
