-- A run over marked constants from a module that reads.
use Rattle.std.proofs.Common.{◌≡◌, ◌∙◌, sym, true, List}
use Rattle.std.specs.List.{list_all}
use Rattle.go_tree.specs.GoWords.Tokens.Characters.{each}
use Rattle.splice_laws.specs.ImportSplices.AddedFile.{is_byte}
use Rattle.pkg_graph.specs.Reads.{Source}
use Rattle.member_uses.specs.Laws.{AllConstants}
use Rattle.run_rules.specs.Marks.{marks_of}
use Rattle.run_rules.specs.Texts.{FileText}
use Rattle.run_rules.specs.Inlining.{ModuleReads, standing_as_read}
use Rattle.constant_steps.specs.WrittenLiteral.UnspreadForms.UnspreadForms.{UnspreadPackages}
use Rattle.printed_constants.specs.TypedParts.MarkedRuns.NamedMarks.Laws.{ReadMarksAreNamed}
use Rattle.printed_constants.specs.TypedParts.MarkedRuns.ReadyModules.Laws.{ReadModulesAreReady}
use Rattle.printed_constants.proofs.TypedParts.MarkedRuns.ReadyModules.Typed.{typed_as_read}
use Rattle.printed_constants.proofs.TypedParts.MarkedRuns.Alone.{alone-there}
use Rattle.printed_constants.proofs.TypedParts.MarkedRuns.NoCycles.{no-cycle}
use Rattle.std.specs.Prelude.{ℕ}
use Rattle.go_translation.specs.Packages.{are_well_typed}
use Rattle.run_rules.specs.Sites.{MarkRef}
use Rattle.run_rules.specs.Run.{Standing, Logged, Next, Run, ends, goes_on, here_of}
use Rattle.order_runs.specs.RunSteps.RunPackages.{members_of}
use Rattle.printed_constants.specs.TypedParts.MarkedRuns.NamedMarks.Named.{AllNamed}
use Rattle.printed_constants.specs.TypedParts.MarkedRuns.SettledConstants.Programs.{IsReady}
use Rattle.order_runs.specs.CycleRuns.OrderCycles.Steps.{KeepsImportLookUps}
use Rattle.order_runs.specs.CycleRuns.OrderCycles.NewNames.{NamesByPath, AvoidsFew}
use Rattle.order_runs.proofs.CycleRuns.Runs.{linked-names}
use Rattle.go_tree.specs.declared.spans.Span.{Span}
use Rattle.pkg_graph.specs.Package.{SourceTree, Package}
use Rattle.run_rules.specs.Sites.{Where}
use Rattle.run_rules.specs.Steps.{At, change_nth}
use Rattle.splice_laws.specs.RunLaws.Reading.{ProgramReads}
use Rattle.splice_laws.proofs.RunLaws.FoundSpans.{Placed}
use Rattle.order_runs.proofs.CycleLaws.StepsLead.{change-at}
use Rattle.constant_steps.proofs.MarksFound.{StandsThere, stands_there}
use Rattle.order_runs.specs.CycleRuns.ImportCycles.ImportSteps.{file_added, packages_added, where_added}
use Rattle.order_runs.proofs.CycleRuns.ImportCycles.ImportStep.{placed}
use Rattle.printed_constants.specs.TypedParts.MarkedRuns.SoundImports.Laws.{AddedImportsMayBeDeclared}
use Rattle.printed_constants.specs.TypedParts.MarkedRuns.SettledConstants.Laws.{ConstantsWrite}
use Rattle.printed_constants.specs.TypedParts.MarkedRuns.TakenNames.Taken.{TakesName, EachTakes}
use Rattle.printed_constants.specs.TypedParts.MarkedRuns.TakenNames.Laws.{StepsStayReady, RunsMeanTheSame, KeptByRun}
use Rattle.printed_constants.specs.TypedParts.MarkedRuns.KeptMarks.Laws.{StepsKeepNamed}
use Rattle.printed_constants.proofs.TypedParts.MarkedRuns.KeptMarks.Kept.{writes, look-ups}
use Rattle.printed_constants.specs.TypedParts.MarkedRuns.Marked.{StandsAdded, AllOverNames}

module _ (sound : AddedImportsMayBeDeclared) (marks : List MarkRef) (st : Standing) (l : Logged) (after : Standing) (n : Next marks st l after) (reads : ProgramReads st) (h : StandsAdded n) (names : KeepsImportLookUps n) (by_path : NamesByPath st.packages) (typed : are_well_typed (members_of st.packages) ≡ true) (few : AvoidsFew st.packages n.found) where
  abbrev w : Where At
  w = n.found.site.at

  abbrev with_tree : SourceTree At → SourceTree At
  with_tree s = record s { tree = file_added n.found }

  abbrev in_package : Package At → Package At
  in_package p = record p { files = change_nth w.file_number with_tree p.files }

  here : Placed here_of (λ (s : Span). Unit {0}) st.packages marks n.found.site
  here = placed marks st l after n

  pub takes-name : TakesName n
  takes-name =
      let home : StandsThere (packages_added st.packages n.found) n.found.site.mark h.use_.home = stands_there (packages_added st.packages n.found) n.found.site.mark h.use_.home h.use_.home_is in
      record {
        place = h.place;
        use_ = h.use_;
        stands =
            record {
              package_there = change-at in_package st.packages w.number w.of here.package_is;
              file_there = change-at with_tree w.of.files w.file_number w.source here.file_is;
              decl = here.decl;
              decl_there = here.decl_is;
              plain = h.plain;
              home_plain = h.home_plain;
              new_plain = h.new_plain;
              simple = h.simple here.decl here.decl_is;
              alone = alone-there marks st l after n reads h.place h.used_as h.use_.use_ h.use_.part here.decl here.decl_is (h.there here.decl here.decl_is);
            };
        form = h.form;
        names = names;
        file_sound =
            sound marks st l after n names.ordered by_path typed few (where_added n.found) (change-at in_package st.packages w.number w.of here.package_is)
            (change-at with_tree w.of.files w.file_number w.source here.file_is);
        home_sound =
            sound marks st l after n names.ordered by_path typed few
            (record { number = n.found.site.mark.«package»; of = h.use_.home.of; file_number = n.found.site.mark.file; source = h.use_.home.source }) home.package_there home.file_there;
        imports = h.imports;
      }

module _ (sound : AddedImportsMayBeDeclared) (write : ConstantsWrite) (step : StepsStayReady) (keep : StepsKeepNamed) where
  -- each step takes its name, and the last program is ready and well typed, its marks those of constants
  pub all-take : (marks : List MarkRef) (st last : Standing) (log : List Logged) (run : Run marks st log last) → AllOverNames run → IsReady st → are_well_typed (members_of st.packages) ≡ true → AllNamed st.packages marks
      → EachTakes run × (IsReady last × ((are_well_typed (members_of last.packages) ≡ true) × AllNamed last.packages marks))
  all-take marks st _ _ (ends _ over) h ready typed named = (tt, (ready, (typed, named)))
  all-take marks st last _ (goes_on _ next _ l log n run) h ready typed named =
      let takes : TakesName n = takes-name sound marks st l next n ready.reads h.1.0 (look-ups marks st l next n h.0 write ready named) (linked-names st.packages ready.links) typed h.0.few in
      let r = step marks st l next n ready typed (writes marks st l next n h.0 write ready named) takes in
      let rest = all-take marks next last log run h.1.1 r.0 r.1 (keep marks st l next n ready named h.0) in
      ((takes, rest.0), rest.1)

  pub runs-keep : ReadModulesAreReady → ReadMarksAreNamed → RunsMeanTheSame → (files : List Source) (ps : List (Package Span)) (texts : List (List ℕ × FileText)) (only : List ℕ) (last : Standing) (log : List Logged) → ModuleReads files ps texts
      → list_all (λ f. each is_byte f.path) files ≡ true → are_well_typed (members_of ps) ≡ true → UnspreadPackages ps → AllConstants ps (marks_of ps texts only)
      → (run : Run (marks_of ps texts only) (standing_as_read ps texts) log last) → AllOverNames run → KeptByRun ps texts (marks_of ps texts only) last
  runs-keep ready read_marks means files ps texts only last log r octets typed unspread constants run h =
      let marks : List MarkRef = marks_of ps texts only in
      let first : AllNamed (standing_as_read ps texts).packages marks = read_marks files ps texts only r constants in
      let all = all-take marks (standing_as_read ps texts) last log run h (ready files ps texts r octets typed unspread) (typed_as_read ps typed) first in
      record {
        ready = all.1.0;
        typed = all.1.1.0;
        cycles = λ m. no-cycle (standing_as_read ps texts).packages marks first m ∙ sym (no-cycle last.packages marks all.1.1.1 m);
        meaning = λ marked. means files ps texts marks last log r run all.0 marked;
      }
