-- What a plan takes from a run is the run's own.
use Rattle.std.proofs.Common.{◌≡◌, ◌∙◌, refl, sym, ap, subst, ℕ, suc, Bool, true, false, not, cond, is_some, bytes_eq, List, [], ◌∷◌, ◌++◌, map, Option, Some, None}
use Rattle.std.specs.List.{flat_map, zip}
use Rattle.std.proofs.lemmas.Bool.{true≢false}
use Rattle.run_plans.specs.PlannedFiles.ChangedFiles.Changed.{changes}
use Rattle.go_tree.specs.declared.spans.Span.{Span}
use Rattle.pkg_graph.specs.ModuleFiles.PathLists.{has_path}
use Rattle.pkg_graph.specs.ModuleFiles.Selected.{module_file}
use Rattle.module_texts.specs.Files.{go_files, is_go_file}
use Rattle.module_texts.specs.declared.modules.ReadModule.{ReadModule}
use Rattle.pkg_graph.specs.Package.{Package}
use Rattle.pkg_graph.specs.Reads.{Source}
use Rattle.pkg_graph.specs.Views.{package_view}
use Rattle.pkg_graph.proofs.PackageLaws.{turned}
use Rattle.programs.specs.Programs.{IsProgramOf}
use Rattle.programs.specs.declared.state.Program.{Program}
use Rattle.read_modules.specs.Modules.{IsReadIn, packages_in, texts_in}
use Rattle.read_modules.proofs.Modules.{modules_read, paths_alike}
use Rattle.report_order.specs.ReportFiles.Files.{PathsAscend}
use Rattle.report_order.proofs.ReportFiles.Runs.{read_paths_ascend}
use Rattle.run_rules.specs.Inlining.{standing_as_read}
use Rattle.run_rules.specs.Respanned.{packages_with}
use Rattle.run_rules.specs.Run.{Standing, as_read, here_of, bytes_of}
use Rattle.run_rules.specs.Sites.{MarkRef}
use Rattle.run_rules.specs.Texts.{FileText}
use Rattle.source_files.specs.declared.files.SourceFile.{SourceFile}
use Rattle.splice_laws.proofs.RunLaws.PathsOwn.{HasText, its_text}
use Rattle.run_plans.specs.PlannedFiles.Changes.{with_paths, files_differing}
use Rattle.run_plans.specs.PlannedFiles.Laws.{HasComeFrom, LastTextsAreThoseOfRuns, ChangesAreThoseOfRuns, LimitsAreToldOfReadFiles}
use Rattle.run_plans.specs.PlannedFiles.Limits.{file_with_path, path_in}
use Rattle.run_plans.specs.PlannedFiles.Texts.{file_paths, kept_texts, texts_by_path, text_with_path, text_row, text_rows}
use Rattle.run_plans.proofs.PlannedFiles.KeptTexts.{HaveThose, have_those, found_there, has_its_text, has_bytes}
use Rattle.run_plans.proofs.PlannedFiles.Modules.{in_packages, paths_of_texts, paths_of_files, has_text, has_among, file_found}
use Rattle.run_plans.proofs.PlannedFiles.Paths.{paths_by_package, all_paths, packages_alike, SamePaths, paths_stay, path_at_numbers, by_numbers, file_there}
use Rattle.run_plans.proofs.PlannedFiles.Rows.{changes_are, rows_are}

abbrev first_of : List (List ℕ × FileText) → List (List ℕ)
first_of ts = map (λ t. t.0) ts

paths_of_bytes : (ts : List (List ℕ × FileText)) → map (λ t. t.0) (bytes_of ts) ≡ first_of ts
paths_of_bytes [] = refl
paths_of_bytes (t ∷ ts) = λ w. t.0 ∷ paths_of_bytes ts w

-- `go.mod` is no file of Go source
no_module_file : (files : List SourceFile) → has_path (map (λ f. f.path) (go_files files)) module_file ≡ false
no_module_file [] = refl
no_module_file (f ∷ fs) = by (bytes_eq f.path module_file) refl (no_module_file fs)
  where
    by : (b : Bool) → bytes_eq f.path module_file ≡ b → has_path (map (λ f. f.path) (go_files fs)) module_file ≡ false
        → has_path (map (λ f. f.path) (cond (not b) (f ∷ go_files fs) (go_files fs))) module_file ≡ false
    by true e more = more
    by false e more = rw (turned module_file f.path ∙ e, more) refl

-- ---- a module that was read

module _ (folder : List Source) (files : List SourceFile) (m : ReadModule) (r : IsReadIn folder files m) where
  text_paths : first_of (texts_in m) ≡ map (λ f. f.path) (go_files files)
  text_paths = paths_of_texts m.files.items ∙ paths_of_files m.files.items ∙ ap (λ (fs : List SourceFile). map (λ f. f.path) fs) r.read.scanned.files_are

  paths_ascend : PathsAscend (first_of (texts_in m))
  paths_ascend = read_paths_ascend folder (packages_in m) (texts_in m) (modules_read folder files m r)

  texts_in_packages : (q : List ℕ) → has_path (first_of (texts_in m)) q ≡ true → has_path (file_paths (packages_in m)) q ≡ true
  texts_in_packages q h =
      subst (λ (ps : List (Package Span)). has_path (file_paths ps) q ≡ true) (sym r.read.packages_are)
      (in_packages m.home.path r.read.trees q (ap (λ (ps : List (List ℕ)). has_path ps q) (sym (paths_of_texts m.files.items ∙ paths_alike files m r.read)) ∙ h))

  module _ (marks : List MarkRef) (st : Standing) (c : HasComeFrom folder files m marks st) where
    same : SamePaths (standing_as_read (packages_in m) (texts_in m)) st
    same = paths_stay marks c.limits folder [] c.log (standing_as_read (packages_in m) (texts_in m)) st c.steps

    packages_same : paths_by_package st.packages ≡ paths_by_package (packages_in m)
    packages_same = same.packages ∙ packages_alike as_read (packages_in m)

    byte_paths : map (λ t. t.0) (bytes_of st.texts) ≡ first_of (texts_in m)
    byte_paths = paths_of_bytes st.texts ∙ same.texts

    module _ (p : Program) (g : IsProgramOf folder marks st p) where
      program_same : paths_by_package (map package_view p.packages.items) ≡ paths_by_package st.packages
      program_same = ap (λ (ps : List (Package Span)). paths_by_package ps) g.packages_are ∙ packages_alike here_of st.packages

      program_paths : file_paths (map package_view p.packages.items) ≡ file_paths st.packages
      program_paths = all_paths (map package_view p.packages.items) ∙ ap (flat_map (λ (l : List (List ℕ)). l)) program_same ∙ sym (all_paths st.packages)

      read_paths : file_paths st.packages ≡ file_paths (packages_in m)
      read_paths = all_paths st.packages ∙ ap (flat_map (λ (l : List (List ℕ)). l)) packages_same ∙ sym (all_paths (packages_in m))

      have : HaveThose st st.packages p.files.items
      have = have_those st st.packages p.files.items g.count g.kept

      texts_are : texts_by_path p ≡ zip (file_paths st.packages) (kept_texts p.files.items)
      texts_are = ap (λ (ps : List (List ℕ)). zip ps (kept_texts p.files.items)) program_paths

      -- the text of each path is that of the run's file
      text_same : (q : List ℕ) → text_with_path (texts_by_path p) q ≡ text_with_path (bytes_of st.texts) q
      text_same q = ap (λ (es : List (List ℕ × List ℕ)). text_with_path es q) texts_are ∙ by (text_with_path (zip (file_paths st.packages) (kept_texts p.files.items)) q) refl (text_with_path (bytes_of st.texts) q) refl
        where
          none_alike : text_with_path (zip (file_paths st.packages) (kept_texts p.files.items)) q ≡ None → (t : List ℕ) → text_with_path (bytes_of st.texts) q ≡ Some t → ⊥
          none_alike e t f =
              true≢false
              (sym
              (has_its_text (file_paths st.packages) (kept_texts p.files.items) q have.size ∙ ap (λ (ps : List (List ℕ)). has_path ps q) read_paths
              ∙ texts_in_packages q (ap (λ (ps : List (List ℕ)). has_path ps q) (sym byte_paths) ∙ has_bytes (bytes_of st.texts) q t f))
              ∙ ap is_some e)

          by : (o : Option (List ℕ)) → text_with_path (zip (file_paths st.packages) (kept_texts p.files.items)) q ≡ o → (a : Option (List ℕ)) → text_with_path (bytes_of st.texts) q ≡ a
              → text_with_path (zip (file_paths st.packages) (kept_texts p.files.items)) q ≡ text_with_path (bytes_of st.texts) q
          by (Some t) e a f = e ∙ sym (found_there (bytes_of st.texts) (zip (file_paths st.packages) (kept_texts p.files.items)) q t have.those e)
          by None e None f = e ∙ sym f
          by None e (Some t) f = absurd (none_alike e t f)

      rows_same : text_rows (texts_by_path p) 0 files ≡ text_rows (bytes_of st.texts) 0 files
      rows_same = alike 0 files
        where
          alike : (k : ℕ) (fs : List SourceFile) → text_rows (texts_by_path p) k fs ≡ text_rows (bytes_of st.texts) k fs
          alike k [] = refl
          alike k (f ∷ fs) = λ w. text_row k (text_same f.path w) ++ alike (suc k) fs w

      no_text : text_with_path (bytes_of st.texts) module_file ≡ None
      no_text = by (text_with_path (bytes_of st.texts) module_file) refl
        where
          by : (o : Option (List ℕ)) → text_with_path (bytes_of st.texts) module_file ≡ o → o ≡ None
          by None e = refl
          by (Some t) e =
              absurd
              (true≢false
              (sym (has_bytes (bytes_of st.texts) module_file t e) ∙ ap (λ (ps : List (List ℕ)). has_path ps module_file) (byte_paths ∙ text_paths) ∙ no_module_file files))

      texts_told : with_paths files (text_rows (texts_by_path p) 0 files) ≡ bytes_of st.texts
      texts_told =
          ap (with_paths files) rows_same
          ∙ rows_are files (bytes_of st.texts) (byte_paths ∙ text_paths) (subst PathsAscend (sym byte_paths) paths_ascend) no_text

      changes_told : changes files (text_rows (texts_by_path p) 0 files) ≡ files_differing (bytes_of st.texts) files
      changes_told = ap (changes files) rows_same ∙ changes_are files (bytes_of st.texts)

      -- ---- the file of a limit

      its_path : (k i : ℕ) → path_in p.packages.items k i ≡ path_at_numbers (paths_by_package (packages_in m)) k i
      its_path k i =
          by_numbers (packages_with as_read (map package_view p.packages.items)) k i
          ∙ ap (λ (ps : List (List (List ℕ))). path_at_numbers ps k i) (packages_alike as_read (map package_view p.packages.items) ∙ program_same ∙ packages_same)

  was_read : (k i : ℕ) (path : List ℕ) → path_at_numbers (paths_by_package (packages_in m)) k i ≡ Some path → (f : SourceFile) × (file_with_path files path ≡ Some f)
  was_read k i path e =
      let its = file_there (packages_in m) k i path e in
      let text : HasText (texts_in m) its.file = its_text folder (packages_in m) (texts_in m) (modules_read folder files m r) k i its.file its.at in
      file_found files path
      (has_among is_go_file files path
      (ap (λ (ps : List (List ℕ)). has_path ps path) (sym text_paths)
      ∙ subst (λ (q : List ℕ). has_path (first_of (texts_in m)) q ≡ true) its.path_is (has_text (texts_in m) its.file.path text.text text.there)))

pub last_texts_are : LastTextsAreThoseOfRuns
last_texts_are folder files m marks st p c g = texts_told folder files m c.read marks st c p g

pub changes_are_those : ChangesAreThoseOfRuns
changes_are_those folder files m marks st p c g = changes_told folder files m c.read marks st c p g

pub limits_are_told : LimitsAreToldOfReadFiles
limits_are_told folder files m marks st before p c g b home file path e =
    let read : path_at_numbers (paths_by_package (packages_in m)) home file ≡ Some path =
    ap (λ (ps : List (List (List ℕ))). path_at_numbers ps home file) (sym (packages_same folder files m b.read marks before b)) ∙ sym (by_numbers before.packages home file) ∙ e in
    let f = was_read folder files m b.read home file path read in
    record { path_is = its_path folder files m c.read marks st c p g home file ∙ read; read = f.0; there = f.1 }
