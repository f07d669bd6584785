-- What is made of a module that is read is its program.
use Rattle.std.proofs.Common.{◌≡◌, ◌∙◌, sym, ap, subst, ℕ, ◌<◌, ◌^◌, ◌+◌, List, [], map, length, Some}
use Rattle.std.specs.Prelude.{slice_get}
use Rattle.std.proofs.lemmas.List.{length-map}
use Rattle.go_tree.specs.declared.spans.Span.{Span}
use Rattle.pkg_graph.specs.Package.{SourceTree, Package, packages_of}
use Rattle.pkg_graph.specs.Reads.{Source}
use Rattle.pkg_graph.specs.Views.{package_view}
use Rattle.pkg_graph.specs.declared.packages.Package as code
use Rattle.pkg_graph.proofs.OrderLaws.{orders_are_unique}
use Rattle.run_rules.specs.Programs.{dependency_order}
use Rattle.run_rules.specs.Sites.{MarkRef}
use Rattle.run_rules.specs.Marks.{marks_of, bad_of}
use Rattle.run_rules.specs.Texts.{FileText}
use Rattle.run_rules.specs.Respanned.{packages_with}
use Rattle.run_rules.specs.Steps.{At}
use Rattle.run_rules.specs.Run.{Standing, as_read, here_of, module_file_size, texts_size}
use Rattle.run_rules.specs.Inlining.{ModuleReads, standing_as_read}
use Rattle.run_rules.proofs.InOrder.{order_is}
use Rattle.splice_laws.proofs.RunLaws.PathsOwn.{paths_own}
use Rattle.splice_laws.proofs.RunLaws.RunsRead as runs
use Rattle.member_uses.specs.Laws.{AllConstants}
use Rattle.module_texts.specs.declared.modules.ReadModule.{ReadModule}
use Rattle.file_names.specs.Imports.{FindsPackages}
use Rattle.module_marks.specs.Views.{bad_at_of}
use Rattle.module_marks.specs.Tables.{IsTableOf}
use Rattle.module_marks.specs.declared.table.MarkTable.{MarkTable}
use Rattle.repeated_parts.specs.UseSearch.MarkValues.Tables.{Known}
use Rattle.source_files.specs.declared.files.SourceFile.{SourceFile}
use Rattle.programs.specs.declared.state.Program.{Program}
use Rattle.programs.specs.PartOrigins.Spans.{packages_spans}
use Rattle.programs.specs.PartOrigins.Views.{packages_origins}
use Rattle.programs.specs.declared.part_origins.origins.PackageOrigins.{PackageOrigins}
use Rattle.programs.specs.Programs.{IsProgramOf, HasOrigins, TellsValues}
use Rattle.programs.specs.TextsOfPackages.Given.{AreTexts}
use Rattle.stepped_programs.specs.declared.loaded_programs.load.Tables.{Tables}
use Rattle.read_modules.specs.Modules.{IsReadIn, packages_in, texts_in}
use Rattle.stepped_programs.specs.LoadedPrograms.Loaded.{IsLoaded, AreTables}
use Rattle.stepped_programs.proofs.LoadedPrograms.AsRead.{packages_reread, paths_as_read, origins_as_read, length_with, order_with}
use Rattle.stepped_programs.proofs.LoadedPrograms.ConstantsAsRead.{constants_with}
use Rattle.stepped_programs.proofs.LoadedPrograms.KeptFiles.{kept_files, none_settled}
use Rattle.read_modules.proofs.Modules.{module_read}
use Rattle.stepped_programs.proofs.LoadedPrograms.ToldValues.{values_told}

-- what holds of two values holds of their equals
pub moved : {A B : Type 0} (P : A → B → Type 0) (a b : A) (x y : B) → a ≡ b → x ≡ y → P a x → P b y
moved P a b x y e f h = subst (P b) f (subst (λ c. P c x) e h)

-- what is made
pub record IsMade (m : ReadModule) (only : List ℕ) (marks : List MarkRef) (t : Tables) (p : Program) : Type 0 where
  pub packages_are : p.packages.items ≡ m.graph.packages.items
  pub order_kept : p.order.items ≡ m.graph.order.items
  pub few : length m.graph.packages.items < 2 ^ 32
  pub tables_are : AreTables m.graph.packages.items marks t
  pub places_are : p.places ≡ t.places
  pub origins_are : p.origins.items ≡ t.origins.items
  pub marks_are : p.marks ≡ t.marks
  pub values_are : p.values ≡ t.values
  pub texts_are : AreTexts m.home.path p.places (length m.graph.packages.items) m.files.items p.files.items
  pub marked : marks ≡ marks_of (packages_in m) (texts_in m) only
  pub constants : AllConstants (packages_in m) marks
  pub bad_are : map bad_at_of p.bad.items ≡ bad_of (packages_in m) (texts_in m) (packages_in m)
  pub unused : p.users ≡ []

module _ (folder : List Source) (files : List SourceFile) (m : ReadModule) (only : List ℕ) (marks : List MarkRef) (t : Tables) (p : Program) (r : IsReadIn folder files m) (made : IsMade m only marks t p)
    (bytes_are : p.bytes ≡ module_file_size folder + texts_size (texts_in m)) where
  abbrev ps : List (Package Span)
  ps = packages_in m

  abbrev texts : List (List ℕ × FileText)
  texts = texts_in m

  abbrev st : Standing
  st = standing_as_read ps texts

  read : ModuleReads folder ps texts
  read = module_read folder files m r

  count_is : length ps ≡ length m.graph.packages.items
  count_is = length-map m.graph.packages.items package_view

  place_found : FindsPackages p.places m.graph.packages.items
  place_found = subst (λ (x : List (List ℕ × ℕ)). FindsPackages x m.graph.packages.items) (sym made.places_are) made.tables_are.places_are

  in_order : m.graph.order.items ≡ dependency_order st.packages
  in_order =
      orders_are_unique m.home.path r.read.trees m.graph.order.items r.read.order_is (dependency_order (packages_of m.home.path r.read.trees))
      (order_is (packages_of m.home.path r.read.trees))
      ∙ ap (λ (qs : List (Package Span)). dependency_order qs) (sym r.read.packages_are) ∙ sym (order_with as_read ps)

  abbrev counted : List MarkRef
  counted = marks_of ps texts only

  all_constant : AllConstants st.packages counted
  all_constant = constants_with as_read ps counted (subst (AllConstants ps) made.marked made.constants)

  marks_told : IsTableOf (packages_with here_of st.packages) counted p.marks
  marks_told =
      subst (λ (qs : List (Package Span)). IsTableOf qs counted p.marks) (sym (packages_reread ps))
      (subst (λ (x : MarkTable). IsTableOf ps counted x) (sym made.marks_are)
      (subst (λ (xs : List MarkRef). IsTableOf ps xs t.marks) made.marked made.tables_are.marks_are))

  values_are_told : TellsValues counted st.packages p.values
  values_are_told =
      subst (λ (x : Known). TellsValues counted st.packages x) (sym made.values_are)
      (values_told st m.graph.packages.items (sym (packages_reread ps)) (runs.modules_read folder ps texts read) counted all_constant t.values made.tables_are.values_are)

  origins_told : packages_origins p.origins.items ≡ packages_spans ps
  origins_told = ap (λ (os : List PackageOrigins). packages_origins os) made.origins_are ∙ made.tables_are.origins_are

  has_origins : (k i : ℕ) (h : Package At) (f : SourceTree At) → slice_get st.packages k ≡ Some h → slice_get h.files i ≡ Some f → HasOrigins p k i f
  has_origins k i h f package_is file_is =
      let o = origins_as_read ps p.origins.items origins_told k i h f package_is file_is in
      record { home = o.0; there = o.1; kept = o.2 }

  program_made : IsProgramOf folder counted st p
  program_made =
      record {
        packages_are = ap (map package_view) made.packages_are ∙ sym (packages_reread ps);
        few = subst (λ (n : ℕ). n < 2 ^ 32) (sym (length_with as_read ps ∙ count_is)) made.few;
        paths = paths_as_read ps (paths_own folder ps texts read).0;
        places_are = subst (λ (cs : List code.Package). FindsPackages p.places cs) (sym made.packages_are) place_found;
        order_is = made.order_kept ∙ in_order;
        marks_are = marks_told;
        constants = all_constant;
        values = values_are_told;
        count = made.texts_are.size ∙ sym (length_with as_read ps ∙ count_is);
        kept = λ k h fs package_is there.
            kept_files folder files m r p.places place_found (length m.graph.packages.items) p.files.items made.texts_are k h package_is fs there;
        origins = has_origins;
        bytes_are = bytes_are;
      }

  pub loaded : IsLoaded folder m only p
  loaded =
      record {
        is_program = program_made;
        bad_are = made.bad_are;
        unsettled = none_settled files m r.read p.places place_found (length m.graph.packages.items) p.files.items made.texts_are;
        unused = made.unused;
      }
