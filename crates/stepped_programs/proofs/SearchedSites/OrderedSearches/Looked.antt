-- Looks at the files of a program that the code has.
use Rattle.std.proofs.Common.{◌≡◌, ◌∙◌, ◌⊎◌, inl, inr, sym, ap, subst, ℕ, Bool, true, List, [], ◌∷◌, map, Option, Some}
use Rattle.std.specs.Prelude.{slice_get}
use Rattle.go_tree.specs.declared.spans.Span.{Span}
use Rattle.go_scan.specs.TokenLists.{TokenLists}
use Rattle.pkg_graph.specs.Package as pure
use Rattle.pkg_graph.specs.Members.{Target, package_block}
use Rattle.pkg_graph.specs.Views.{package_view, source_of}
use Rattle.pkg_graph.specs.declared.packages.Package.{Package}
use Rattle.pkg_graph.specs.declared.packages.SourceTree.{SourceTree}
use Rattle.run_rules.specs.Sites.{MarkRef, Where}
use Rattle.run_rules.specs.Respanned.{source_with, package_with, packages_with}
use Rattle.run_rules.specs.Steps.{At}
use Rattle.run_rules.specs.Run.{Standing, here_of}
use Rattle.repeated_parts.specs.UseSearch.MarkValues.Tables.{Known, key_of, value_in}
use Rattle.module_marks.specs.Views.{mark_ref_of}
use Rattle.stepped_programs.specs.SearchedSites.LookedFiles.Laws.{StandsAs, LooksTellFiles}
use Rattle.stepped_programs.specs.declared.package_search.looks.FileLook.{FileLook}
use Rattle.stepped_programs.specs.declared.package_search.looks.ProgramSources.{ProgramSources}
use Rattle.stepped_programs.specs.PackageSearch.Search.{is_settled, block_of, LookAt}
use Rattle.stepped_programs.specs.SearchedSites.Told.{IsToldValue, IsProgram, IsFile}
use Rattle.stepped_programs.specs.SearchedSites.Fields.{TellsFields}
use Rattle.stepped_programs.specs.SearchedSites.Searched.{AreSearched, sites_in_file}
use Rattle.stepped_programs.specs.SearchedSites.Laws.{SearchesFindSites}
use Rattle.repeated_parts.specs.declared.use_search.search.FoundForm.{FoundForm}
use Rattle.repeated_parts.specs.declared.use_search.search.FoundObstacle.{FoundObstacle}
use Rattle.repeated_parts.specs.declared.use_search.views.ProgramView.{ProgramView}
use Rattle.repeated_parts.specs.UseSearch.Search.{IsFileSearch}
use Rattle.stepped_programs.specs.SearchedSites.OrderedSearches.Held.{IsThere, IsHeld, Users, KeepUsers, AreUsed, IsSettled, AreAllSettled}
use Rattle.stepped_programs.specs.SearchedSites.OrderedSearches.Search.{HasNoneOf, ComeSettled}
use Rattle.stepped_programs.specs.SearchedSites.OrderedSearches.Laws.{LooksRight, LooksFindSites, SearchesSettleFiles}
use Rattle.stepped_programs.proofs.SearchedSites.OrderedSearches.Beside.{beside_at, same_at}

-- who is known to use a constant stays so
still_used : (were users : Users) → KeepUsers were users → (k i : ℕ) (xs : List FoundObstacle) → AreUsed were k i xs → AreUsed users k i xs
still_used were users keep k i [] h = tt
still_used were users keep k i (x ∷ xs) h = (keep (key_of (mark_ref_of x.use_.mark)) k i h.0, still_used were users keep k i xs h.1)

still_settled : (marks : List MarkRef) (st : Standing) (were users : Users) → KeepUsers were users → (w : Where At) → IsSettled marks st were w → IsSettled marks st users w
still_settled marks st were users keep w h =
    record {
      view = h.view;
      is_file = h.is_file;
      kept = h.kept;
      searched = h.searched;
      used = still_used were users keep w.number w.file_number h.kept h.used;
    }

module _ (marks : List MarkRef) (st : Standing) (s : ProgramSources) (tokens : ℕ → List TokenLists) (held : IsHeld marks st s tokens) where
  -- a package of the program is one of the code
  pub package_there : (k : ℕ) (p : pure.Package At) → slice_get st.packages k ≡ Some p
      → (home : Package) × (slice_get s.packages.now k ≡ Some home) × (package_view home ≡ package_with here_of p)
  package_there k p h = beside_at package_view (package_with here_of) s.packages.now st.packages held.packages_are k p h

  -- what a search is told of the program
  pub program_told : (p : ProgramView) → p.packages.now ≡ s.packages.now → p.values.now ≡ s.values.now → p.types.now ≡ s.types.now → IsProgram marks st p
  program_told p e v t =
      record {
        packages_are = ap (map package_view) e ∙ held.packages_are;
        few = held.few;
        constants = held.constants;
        fields = subst (TellsFields st.packages) (sym t) held.fields;
        values = λ m home n x among there is. subst (λ (t : Known). IsToldValue st.packages home x (value_in t m)) (sym v) (held.values m home n x among there is);
      }

  module _ (w : Where At) (there : IsThere st.packages w) (home : Package) (home_is : slice_get s.packages.now w.number ≡ Some home) where
    view_is : package_view home ≡ package_with here_of w.of
    view_is = same_at package_view (package_with here_of) s.packages.now st.packages held.packages_are w.number home w.of home_is there.package_is

    -- a file of the package is one of the code
    pub source_there : (source : SourceTree) → slice_get home.files w.file_number ≡ Some source → source_of source ≡ source_with here_of w.source
    source_there source h =
        same_at source_of (source_with here_of) home.files w.of.files (ap (λ (p : pure.Package Span). p.files) view_is) w.file_number source w.source h there.file_is

    -- a file is there in the code
    pub file_there : (x : SourceTree) × (slice_get home.files w.file_number ≡ Some x) × (source_of x ≡ source_with here_of w.source)
    file_there = beside_at source_of (source_with here_of) home.files w.of.files (ap (λ (p : pure.Package Span). p.files) view_is) w.file_number w.source there.file_is

    module _ (l : FileLook) (a : LookAt s w.number home (tokens w.number) w.file_number l) where
      stands : StandsAs marks st w s a.source a.list (block_of s w.number home (tokens w.number))
      stands =
          let t = held.tokens_are w a.list there a.is_list in
          let q = held.searchable w there in
          record {
            packages_are = held.packages_are;
            there = there.package_is;
            in_package = there.file_is;
            text = t.text;
            stands = t.stands;
            reads = t.reads;
            source_is = ap (λ (x : pure.SourceTree Span). x.tree) (source_there a.source a.is_source);
            comments_are = t.comments_are;
            block_is = ap (λ (p : pure.Package Span). map (λ (x : List ℕ × Target). x.0) (package_block 0 p)) view_is;
            few_words = q.few_words;
            sound = q.sound;
          }

      module _ (tell : LooksTellFiles) (find : SearchesFindSites) where
        look_tells : IsFile marks st w a.look.view
        look_tells = tell marks st w s a.source a.list (block_of s w.number home (tokens w.number)) l stands a.look

        pub look_program : IsProgram marks st a.look.program
        look_program = program_told a.look.program a.look.packages_told a.look.values_told a.look.types_told

        pub look_search : IsFileSearch (packages_with here_of st.packages) marks a.look.program a.look.view l.kept.items l.free
        look_search = a.look.found (packages_with here_of st.packages) marks held.marked

        pub look_right : LooksRight marks st s w home (tokens w.number) l a
        look_right =
            record {
              is_file = look_tells;
              searched = find marks st w a.look.program a.look.view l.kept.items l.free look_program look_tells look_search;
            }

  -- ---- files that are settled

  none_settled : LooksTellFiles → SearchesFindSites → (users : Users) (w : Where At) → IsThere st.packages w → (home : Package) → slice_get s.packages.now w.number ≡ Some home
      → HasNoneOf s tokens users w.number home w.file_number → IsSettled marks st users w
  none_settled tell find users w there home home_is none =
      let r = look_right w there home home_is none.seen none.look tell find in
      record {
        view = none.look.look.view;
        is_file = r.is_file;
        kept = none.seen.kept.items;
        searched = subst (λ (o : Option FoundForm). AreSearched marks st (sites_in_file marks st w) none.seen.kept.items o) none.none_free r.searched;
        used = none.used;
      }

  one_settled : LooksTellFiles → SearchesFindSites → (users : Users) (w : Where At) → IsThere st.packages w → (home : Package) → slice_get s.packages.now w.number ≡ Some home → (old : Bool)
      → (old ≡ true → IsSettled marks st users w) → (old ≡ true) ⊎ HasNoneOf s tokens users w.number home w.file_number → IsSettled marks st users w
  one_settled tell find users w there home home_is old before (inl e) = before e
  one_settled tell find users w there home home_is old before (inr none) = none_settled tell find users w there home home_is none

  pub all_settled : LooksTellFiles → SearchesFindSites → (were users : Users) (old new : ℕ → List Bool) → KeepUsers were users → AreAllSettled marks st were old → ComeSettled s tokens users old new
      → AreAllSettled marks st users new
  all_settled tell find were users old new keep before come = λ w there flag.
      let p = package_there w.number w.of there.package_is in
      one_settled tell find users w there p.0 p.1 (is_settled (old w.number) w.file_number) (λ e. still_settled marks st were users keep w (before w there e)) (come w.number p.0 p.1 w.file_number flag)

pub find_sites : LooksTellFiles → SearchesFindSites → LooksFindSites
find_sites tell find marks st s tokens w home l held there home_is a = look_right marks st s tokens held w there home home_is l a tell find

pub settle_files : LooksTellFiles → SearchesFindSites → SearchesSettleFiles
settle_files tell find marks st s tokens were users old new held keep before come = all_settled marks st s tokens held tell find were users old new keep before come
