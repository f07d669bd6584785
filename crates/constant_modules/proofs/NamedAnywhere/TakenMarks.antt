-- A run over marked constants, whose uses stand in declarations of any form, from a module that reads.
use Rattle.std.proofs.Common.{◌≡◌, ◌∙◌, sym, true, List}
use Rattle.run_rules.specs.Marks.{marks_of}
use Rattle.run_rules.specs.Inlining.{standing_as_read}
use Rattle.printed_constants.specs.TypedParts.MarkedRuns.NamedMarks.Laws.{ReadMarksAreNamed}
use Rattle.printed_constants.specs.TypedParts.MarkedRuns.ReadyModules.Laws.{ReadModulesAreReady}
use Rattle.printed_constants.proofs.TypedParts.MarkedRuns.ReadyModules.Typed.{typed_as_read}
use Rattle.printed_constants.proofs.TypedParts.MarkedRuns.Alone.{alone-there}
use Rattle.printed_constants.proofs.TypedParts.MarkedRuns.NoCycles.{no-cycle}
use Rattle.go_translation.specs.Packages.{are_well_typed}
use Rattle.run_rules.specs.Sites.{MarkRef}
use Rattle.run_rules.specs.Run.{Standing, Logged, Next, Run, ends, goes_on, here_of}
use Rattle.order_runs.specs.RunSteps.RunPackages.{members_of}
use Rattle.printed_constants.specs.TypedParts.MarkedRuns.NamedMarks.Named.{AllNamed}
use Rattle.printed_constants.specs.TypedParts.MarkedRuns.SettledConstants.Programs.{IsReady}
use Rattle.order_runs.specs.CycleRuns.OrderCycles.NewNames.{NamesByPath, AvoidsFew}
use Rattle.order_runs.proofs.CycleRuns.Runs.{linked-names}
use Rattle.go_tree.specs.declared.spans.Span.{Span}
use Rattle.pkg_graph.specs.Package.{SourceTree, Package}
use Rattle.run_rules.specs.Sites.{Where}
use Rattle.run_rules.specs.Steps.{At, change_nth}
use Rattle.splice_laws.proofs.RunLaws.FoundSpans.{Placed}
use Rattle.order_runs.proofs.CycleLaws.StepsLead.{change-at}
use Rattle.constant_steps.proofs.MarksFound.{StandsThere, stands_there}
use Rattle.order_runs.specs.CycleRuns.ImportCycles.ImportSteps.{file_added, packages_added, where_added}
use Rattle.order_runs.proofs.CycleRuns.ImportCycles.ImportStep.{placed}
use Rattle.printed_constants.specs.TypedParts.MarkedRuns.SoundImports.Laws.{AddedImportsMayBeDeclared}
use Rattle.printed_constants.specs.TypedParts.MarkedRuns.SettledConstants.Laws.{ConstantsWrite}
use Rattle.run_rules.specs.Steps.{same_here}
use Rattle.run_rules.specs.Run.{is_commented}
use Rattle.order_runs.specs.CycleRuns.Linked.{WritesFile}
use Rattle.printed_constants.specs.InlinedFiles.Files.{AllWrite}
use Rattle.printed_constants.specs.TypedParts.MarkedRuns.LinkedMembers.Laws.{HaveFiles}
use Rattle.printed_constants.proofs.InlinedFiles.InlinedModules.Runs.{kept_inlined}
use Rattle.printed_constants.proofs.TypedParts.MarkedRuns.LinkedMembers.Files.{read-have, step-have}
use Rattle.constant_modules.specs.KeyedImports.StepLaws.{KeyedStepsKeepNamed}
use Rattle.constant_modules.specs.KeyedImports.Steps.{KeepsImportUses}
use Rattle.constant_modules.specs.NamedAnywhere.Taken.{site_there, TakesNameThere, TakesNameAnywhere, EachTakesAnywhere}
use Rattle.constant_modules.specs.NamedAnywhere.Marked.{StandsNamedThere, StandsAnywhere, AllOverAnywhere}
use Rattle.constant_modules.specs.NamedAnywhere.TakenLaws.{RunsAnywhereMeanTheSame}
use Rattle.constant_modules.specs.NamedAnywhere.MarkedLaws.{StepsAnywhereStayReady, RunsOverMarksAnywhereKeep, RunsOverMarksAnywhereWrite, RunsOverMarksAnywhereInline}
use Rattle.constant_modules.specs.NamedAnywhere.Puts.{AddsImports, PutsNameThere}
use Rattle.constant_modules.specs.NamedAnywhere.Use.{NamedUseAnywhere}
use Rattle.constant_modules.proofs.KeyedImports.KeptNamed.{writes, uses-kept}
use Rattle.constant_modules.proofs.NamedAnywhere.AddedParts.{added-parts}
use Rattle.constant_modules.proofs.NamedAnywhere.Puts.{adds_of, takes_of}

module _ (sound : AddedImportsMayBeDeclared) (marks : List MarkRef) (st : Standing) (l : Logged) (after : Standing) (n : Next marks st l after) (ready : IsReady st) (files : HaveFiles st.packages) (typed : are_well_typed (members_of st.packages) ≡ true) (few : AvoidsFew st.packages n.found) (names : AddsImports n) (h : StandsNamedThere n) where
  abbrev w : Where At
  w = n.found.site.at

  abbrev with_tree : SourceTree At → SourceTree At
  with_tree s = record s { tree = file_added n.found }

  abbrev in_package : Package At → Package At
  in_package p = record p { files = change_nth w.file_number with_tree p.files }

  here : Placed here_of (λ (s : Span). Unit {0}) st.packages marks n.found.site
  here = placed marks st l after n

  by_path : NamesByPath st.packages
  by_path = linked-names st.packages ready.links

  stands : NamedUseAnywhere same_here (is_commented st) (packages_added st.packages n.found) marks (site_there n.found h.place) h.use_
  stands = record {
    package_there = change-at in_package st.packages w.number w.of here.package_is;
    file_there = change-at with_tree w.of.files w.file_number w.source here.file_is;
    decl = here.decl;
    decl_there = here.decl_is;
    alone = alone-there marks st l after n ready.reads h.place h.used_as h.use_.use_ h.use_.part here.decl here.decl_is (h.there here.decl here.decl_is);
  }

  pub puts-there : PutsNameThere n
  puts-there =
      let home : StandsThere (packages_added st.packages n.found) n.found.site.mark h.use_.home = stands_there (packages_added st.packages n.found) n.found.site.mark h.use_.home h.use_.home_is in
      record {
        place = h.place;
        use_ = h.use_;
        stands = stands;
        parts = λ Q v s k at. added-parts marks st l after n names ready.links.own files typed Q v (site_there n.found h.place) h.use_ stands s k at;
        form = h.form;
        names = names;
        file_sound =
            sound marks st l after n names.ordered by_path typed few (where_added n.found) (change-at in_package st.packages w.number w.of here.package_is)
            (change-at with_tree w.of.files w.file_number w.source here.file_is);
        home_sound =
            sound marks st l after n names.ordered by_path typed few
            (record { number = n.found.site.mark.«package»; of = h.use_.home.of; file_number = n.found.site.mark.file; source = h.use_.home.source }) home.package_there home.file_there;
      }

pub takes-there : AddedImportsMayBeDeclared → (marks : List MarkRef) (st : Standing) (l : Logged) (after : Standing) (n : Next marks st l after) → IsReady st → HaveFiles st.packages → are_well_typed (members_of st.packages) ≡ true → AvoidsFew st.packages n.found → KeepsImportUses n → StandsNamedThere n → TakesNameThere n
takes-there sound marks st l after n ready files typed few names h = takes_of marks st l after n (puts-there sound marks st l after n ready files typed few (adds_of marks st l after n names) h) names

pub takes-name : AddedImportsMayBeDeclared → (marks : List MarkRef) (st : Standing) (l : Logged) (after : Standing) (n : Next marks st l after) → IsReady st → HaveFiles st.packages → are_well_typed (members_of st.packages) ≡ true → AvoidsFew st.packages n.found → KeepsImportUses n → StandsAnywhere n → TakesNameAnywhere n
takes-name sound marks st l after n ready files typed few names h = record { there = takes-there sound marks st l after n ready files typed few names h.stands; imports = h.imports }

module _ (sound : AddedImportsMayBeDeclared) (write : ConstantsWrite) (step : StepsAnywhereStayReady) (keep : KeyedStepsKeepNamed) where
  -- each step takes its name, and the last program is ready and well typed, its marks those of constants
  pub all-take : (marks : List MarkRef) (st last : Standing) (log : List Logged) (run : Run marks st log last) → AllOverAnywhere run → IsReady st → HaveFiles st.packages → are_well_typed (members_of st.packages) ≡ true → AllNamed st.packages marks
      → EachTakesAnywhere run × (IsReady last × ((are_well_typed (members_of last.packages) ≡ true) × AllNamed last.packages marks))
  all-take marks st _ _ (ends _ over) h ready files typed named = (tt, (ready, (typed, named)))
  all-take marks st last _ (goes_on _ next _ l log n run) h ready files typed named =
      let takes : TakesNameAnywhere n = takes-name sound marks st l next n ready files typed h.0.few (uses-kept marks st l next n h.0 write ready named) h.1.0 in
      let r = step marks st l next n ready typed (writes marks st l next n h.0 write ready named) takes in
      let rest = all-take marks next last log run h.1.1 r.0 (step-have marks st l next n files) r.1 (keep marks st l next n ready named h.0) in
      ((takes, rest.0), rest.1)

  pub runs-keep : ReadModulesAreReady → ReadMarksAreNamed → RunsAnywhereMeanTheSame → RunsOverMarksAnywhereKeep
  runs-keep ready read_marks means files ps texts only last log r octets typed unspread constants run h =
      let marks : List MarkRef = marks_of ps texts only in
      let first : AllNamed (standing_as_read ps texts).packages marks = read_marks files ps texts only r constants in
      let all = all-take marks (standing_as_read ps texts) last log run h (ready files ps texts r octets typed unspread) (read-have files ps texts r) (typed_as_read ps typed) first in
      record {
        ready = all.1.0;
        typed = all.1.1.0;
        cycles = λ m. no-cycle (standing_as_read ps texts).packages marks first m ∙ sym (no-cycle last.packages marks all.1.1.1 m);
        meaning = λ marked. means files ps texts marks last log r run all.0 marked;
      }

  -- so each step writes its file, and the run inlines a module

  named-write : (marks : List MarkRef) (st last : Standing) (log : List Logged) (run : Run marks st log last) → AllOverAnywhere run → IsReady st → HaveFiles st.packages → are_well_typed (members_of st.packages) ≡ true → AllNamed st.packages marks → AllWrite run
  named-write marks _ _ _ (ends st over) h ready files typed named = tt
  named-write marks _ _ _ (goes_on st next last l log n run) h ready files typed named =
      let v : WritesFile n = writes marks st l next n h.0 write ready named in
      let takes : TakesNameAnywhere n = takes-name sound marks st l next n ready files typed h.0.few (uses-kept marks st l next n h.0 write ready named) h.1.0 in
      let r = step marks st l next n ready typed v takes in
      (v, named-write marks next last log run h.1.1 r.0 (step-have marks st l next n files) r.1 (keep marks st l next n ready named h.0))

  pub marks-write : RunsOverMarksAnywhereWrite
  marks-write marks st last log ready files typed named run h = named-write marks st last log run h ready files typed named

  pub marks-inline : ReadModulesAreReady → ReadMarksAreNamed → RunsOverMarksAnywhereKeep → RunsOverMarksAnywhereInline
  marks-inline ready read_marks kept files ps texts only last log r octets typed unspread constants run h =
      kept_inlined files ps texts (marks_of ps texts only) last log r typed run
      (named-write (marks_of ps texts only) (standing_as_read ps texts) last log run h (ready files ps texts r octets typed unspread) (read-have files ps texts r) (typed_as_read ps typed) (read_marks files ps texts only r constants))
      (kept files ps texts only last log r octets typed unspread constants run h)
