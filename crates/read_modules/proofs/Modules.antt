-- What is read from the selected files of a folder is what the folder reads as.
use Rattle.std.proofs.Common.{◌≡◌, ◌∙◌, refl, sym, ap, subst, ℕ, suc, ◌≤◌, Bool, true, false, not, cond, bytes_eq, List, [], ◌∷◌, map, filter, length, arith, All}
use Rattle.std.proofs.lemmas.List.{length-map}
use Rattle.std.proofs.lemmas.List.Elements.{All-head, All-tail}
use Rattle.go_tree.specs.declared.spans.Span.{Span}
use Rattle.pkg_graph.specs.ModuleFiles.Selected.{module_file}
use Rattle.pkg_graph.specs.Package.{SourceTree, first_seen, home_of, package_of}
use Rattle.pkg_graph.specs.Reads as trees
use Rattle.pkg_graph.specs.Reads.{Source, is_at, AreTrees}
use Rattle.pkg_graph.specs.Views.{package_view}
use Rattle.run_rules.specs.Inlining as inlining
use Rattle.run_rules.specs.Inlining.{IsSourceFile}
use Rattle.module_texts.specs.Files.{IsScanned, source_of, sources_of}
use Rattle.module_texts.specs.Modules.{go_sources, IsReadFrom}
use Rattle.module_texts.specs.declared.files.ScannedFile.{ScannedFile}
use Rattle.module_texts.specs.declared.modules.ReadModule.{ReadModule}
use Rattle.module_texts.proofs.RefusedLemmas.{texts_alike}
use Rattle.module_texts.proofs.SelectedLemmas.{selected_files_read}
use Rattle.module_marks.specs.Views.{file_text, texts_of}
use Rattle.source_files.specs.declared.files.SourceFile.{SourceFile}
use Rattle.read_modules.specs.Modules.{IsReadIn, packages_in, texts_in}
use Rattle.read_modules.specs.Laws.{ModulesAreRead, ModulesMayBeLoaded}

-- files with their tokens, as the texts of a program
texts_scanned : (ss : List ScannedFile) → All IsScanned ss → inlining.AreScanned (map (λ s. source_of s.file.now) ss) (texts_of ss)
texts_scanned [] h = inlining.none
texts_scanned (s ∷ ss) h =
    inlining.file (source_of s.file.now) (file_text s) (map (λ s. source_of s.file.now) ss) (texts_of ss) refl (All-head IsScanned s ss h).words
    (texts_scanned ss (All-tail IsScanned s ss h))

module _ (folder : List Source) (files : List SourceFile) (m : ReadModule) (r : IsReadIn folder files m) where
  scanned_sources : inlining.AreScanned (go_sources (sources_of files)) (texts_in m)
  scanned_sources =
      subst (λ (fs : List Source). inlining.AreScanned fs (texts_in m)) (texts_alike files m.files.items r.read.scanned)
      (texts_scanned m.files.items r.read.scanned.scans)

  pub module_read : inlining.ModuleReads folder (packages_in m) (texts_in m)
  module_read =
      record {
        by_path = r.by_path;
        reads = selected_files_read folder files m r.selected r.read;
        scanned =
            subst (λ (fs : List Source). inlining.AreScanned (filter (λ f. not (is_at module_file f)) fs) (texts_in m)) (sym r.selected)
            scanned_sources;
      }

pub modules_read : ModulesAreRead
modules_read folder files m r = module_read folder files m r

-- ---- the paths of files and trees

paths_scanned : (ss : List ScannedFile) → map (λ s. s.file.now.path) ss ≡ map (λ f. f.path) (map (λ s. source_of s.file.now) ss)
paths_scanned [] = refl
paths_scanned (s ∷ ss) = ap (λ (ps : List (List ℕ)). s.file.now.path ∷ ps) (paths_scanned ss)

paths_spelled : (fs : List Source) (ts : List (SourceTree Span)) → AreTrees IsSourceFile fs ts → map (λ f. f.path) fs ≡ map (λ t. t.path) ts
paths_spelled _ _ trees.none = refl
paths_spelled _ _ (trees.file f tree fs ts s rest) = ap (λ (ps : List (List ℕ)). f.path ∷ ps) (paths_spelled fs ts rest)

pub paths_alike : (files : List SourceFile) (m : ReadModule) (r : IsReadFrom files m) → map (λ s. s.file.now.path) m.files.items ≡ map (λ t. t.path) r.trees
paths_alike files m r =
    paths_scanned m.files.items ∙ ap (map (λ f. f.path)) (texts_alike files m.files.items r.scanned) ∙ paths_spelled (go_sources (sources_of files)) r.trees r.trees_are

-- ---- how many packages there are

fewer_first : {A : Type 0} (x : A) (xs ys : List A) (b : Bool) → length ys ≤ length xs → length (cond b (x ∷ ys) ys) ≤ length (x ∷ xs)
fewer_first x xs ys true h = omega (arith, h)
fewer_first x xs ys false h = omega (arith, h)

fewer : {A : Type 0} (p : A → Bool) (xs : List A) → length (filter p xs) ≤ length xs
fewer p [] = omega arith
fewer p (x ∷ xs) = fewer_first x xs (filter p xs) (p x) (fewer p xs)

fewer_seen : (xs : List (List ℕ)) → length (first_seen xs) ≤ length xs
fewer_seen [] = omega arith
fewer_seen (x ∷ xs) =
    let h = fewer (λ y. not (bytes_eq x y)) (first_seen xs) in
    let k = fewer_seen xs in
    omega (arith, h, k)

as_many_trees : (fs : List Source) (ts : List (SourceTree Span)) → AreTrees IsSourceFile fs ts → length ts ≡ length fs
as_many_trees _ _ trees.none = refl
as_many_trees _ _ (trees.file f tree fs ts s rest) = ap suc (as_many_trees fs ts rest)

pub may_be_loaded : ModulesMayBeLoaded
may_be_loaded files m r h =
    let packages : length m.graph.packages.items ≡ length (first_seen (map (home_of m.home.path) r.trees)) =
    sym (length-map m.graph.packages.items package_view) ∙ ap length r.packages_are ∙ length-map (first_seen (map (home_of m.home.path) r.trees)) (package_of m.home.path r.trees) in
    let seen = fewer_seen (map (home_of m.home.path) r.trees) in
    let homes : length (map (home_of m.home.path) r.trees) ≡ length r.trees = length-map r.trees (home_of m.home.path) in
    let spelled : length r.trees ≡ length (go_sources (sources_of files)) = as_many_trees (go_sources (sources_of files)) r.trees r.trees_are in
    let chosen = fewer (λ (f : Source). not (is_at module_file f)) (sources_of files) in
    let sources : length (sources_of files) ≡ length files = length-map files source_of in
    (omega (arith, packages, seen, homes, spelled, chosen, sources, h), r.scanned.scans)
