-- The files that are read of a folder are a folder of their own.
use Rattle.std.proofs.Common.{◌≡◌, ◌∙◌, refl, sym, ap, ℕ, Bool, true, false, not, ◌&&◌, ◌||◌, cond, bytes_eq, List, [], ◌∷◌, map, filter}
use Rattle.std.specs.List.{list_all, list_any}
use Rattle.std.proofs.lemmas.Bool.{true≢false}
use Rattle.go_tree.specs.GoWords.Tokens.Characters.{each}
use Rattle.module_texts.specs.Files.{sources_of}
use Rattle.pkg_graph.specs.ModuleFiles.Pieces.{comes_before, file_name, folders}
use Rattle.pkg_graph.specs.ModuleFiles.Selected.{is_in_other_module, is_selected, is_skipped_folder, is_source_name, module_file, module_files_in}
use Rattle.pkg_graph.specs.Reads.{Source}
use Rattle.run_rules.specs.Inlining.{are_by_path}
use Rattle.splice_laws.specs.ImportSplices.AddedFile.{is_byte}
use Rattle.source_files.specs.declared.files.SourceFile.{SourceFile}
use Rattle.run_plans.specs.PlannedModules.Folders.{AreFolder, ascend}
use Rattle.run_plans.specs.PlannedModules.Laws.{ListedFilesAreFolders, ReadFilesAreFolders}

pub both : (a b : Bool) → (a && b) ≡ true → (a ≡ true) × (b ≡ true)
both true b h = (refl, h)
both false b h = absurd (true≢false (sym h))

pub and_both : (a b : Bool) → a ≡ true → b ≡ true → (a && b) ≡ true
and_both true b e f = f
and_both false b e f = absurd (true≢false (sym e))

-- ---- what is kept of a list

module _ {A : Type 0} where
  all_kept : (q p : A → Bool) (xs : List A) → list_all q xs ≡ true → list_all q (filter p xs) ≡ true
  all_kept q p [] h = refl
  all_kept q p (x ∷ xs) h = by (p x) (all_kept q p xs (both (q x) (list_all q xs) h).1)
    where
      by : (b : Bool) → list_all q (filter p xs) ≡ true → list_all q (cond b (x ∷ filter p xs) (filter p xs)) ≡ true
      by true more = and_both (q x) (list_all q (filter p xs)) (both (q x) (list_all q xs) h).0 more
      by false more = more

  -- what passes a test passes another
  kept_pass : (p q : A → Bool) → ((x : A) → p x ≡ true → q x ≡ true) → (xs : List A) → list_all q (filter p xs) ≡ true
  kept_pass p q w [] = refl
  kept_pass p q w (x ∷ xs) = by (p x) refl (kept_pass p q w xs)
    where
      by : (b : Bool) → p x ≡ b → list_all q (filter p xs) ≡ true → list_all q (cond b (x ∷ filter p xs) (filter p xs)) ≡ true
      by true e more = and_both (q x) (list_all q (filter p xs)) (w x e) more
      by false e more = more

  -- all that pass are kept
  all_stay : (q : A → Bool) (xs : List A) → list_all q xs ≡ true → filter q xs ≡ xs
  all_stay q [] h = refl
  all_stay q (x ∷ xs) h =
      let parts = both (q x) (list_all q xs) h in
      let more = all_stay q xs parts.1 in
      λ v. cond (parts.0 v) (x ∷ more v) (more v)

  all_mapped : {B : Type 0} (f : A → B) (q : B → Bool) (xs : List A) → list_all q (map f xs) ≡ list_all (λ x. q (f x)) xs
  all_mapped f q [] = refl
  all_mapped f q (x ∷ xs) = λ v. q (f x) && all_mapped f q xs v

  kept_mapped : {B : Type 0} (f : A → B) (q : B → Bool) (xs : List A) → map f (filter (λ x. q (f x)) xs) ≡ filter q (map f xs)
  kept_mapped f q [] = refl
  kept_mapped f q (x ∷ xs) = by (q (f x)) (kept_mapped f q xs)
    where
      by : (b : Bool) → map f (filter (λ x. q (f x)) xs) ≡ filter q (map f xs)
          → map f (cond b (x ∷ filter (λ x. q (f x)) xs) (filter (λ x. q (f x)) xs)) ≡ cond b (f x ∷ filter q (map f xs)) (filter q (map f xs))
      by true more = ap (λ ys. f x ∷ ys) more
      by false more = more

ascend_kept : (p : List ℕ → Bool) (ps : List (List ℕ)) → ascend ps ≡ true → ascend (filter p ps) ≡ true
ascend_kept p [] h = refl
ascend_kept p (q ∷ qs) h = by (p q) (ascend_kept p qs (both (list_all (comes_before q) qs) (ascend qs) h).1)
  where
    by : (b : Bool) → ascend (filter p qs) ≡ true → ascend (cond b (q ∷ filter p qs) (filter p qs)) ≡ true
    by true more =
        and_both (list_all (comes_before q) (filter p qs)) (ascend (filter p qs))
        (all_kept (comes_before q) p qs (both (list_all (comes_before q) qs) (ascend qs) h).0) more
    by false more = more

-- ---- the paths among which files are selected

abbrev Within : List (List ℕ) → List (List ℕ) → Type 0
Within qs ps = (m : List ℕ) → list_any (bytes_eq m) qs ≡ true → list_any (bytes_eq m) ps ≡ true

kept_within : (p : List ℕ → Bool) (ps : List (List ℕ)) → Within (filter p ps) ps
kept_within p [] m h = h
kept_within p (q ∷ qs) m h = by (p q) h (kept_within p qs m)
  where
    or_more : (a b c : Bool) → (a || b) ≡ true → (b ≡ true → c ≡ true) → (a || c) ≡ true
    or_more true b c e g = refl
    or_more false b c e g = g e

    or_last : (a c : Bool) → c ≡ true → (a || c) ≡ true
    or_last true c e = refl
    or_last false c e = e

    by : (b : Bool) → list_any (bytes_eq m) (cond b (q ∷ filter p qs) (filter p qs)) ≡ true
        → (list_any (bytes_eq m) (filter p qs) ≡ true → list_any (bytes_eq m) qs ≡ true) → (bytes_eq m q || list_any (bytes_eq m) qs) ≡ true
    by true e more = or_more (bytes_eq m q) (list_any (bytes_eq m) (filter p qs)) (list_any (bytes_eq m) qs) e more
    by false e more = or_last (bytes_eq m q) (list_any (bytes_eq m) qs) (more e)

-- a folder that is no module of its own among some paths is none among fewer
none_there : (ps qs : List (List ℕ)) → Within qs ps → (ms : List (List ℕ)) → list_any (λ m. list_any (bytes_eq m) ps) ms ≡ false → list_any (λ m. list_any (bytes_eq m) qs) ms ≡ false
none_there ps qs w [] h = refl
none_there ps qs w (m ∷ ms) h = by (list_any (bytes_eq m) ps) (list_any (bytes_eq m) qs) (w m) h (none_there ps qs w ms)
  where
    by : (a b : Bool) → (b ≡ true → a ≡ true) → (a || list_any (λ m. list_any (bytes_eq m) ps) ms) ≡ false
        → (list_any (λ m. list_any (bytes_eq m) ps) ms ≡ false → list_any (λ m. list_any (bytes_eq m) qs) ms ≡ false)
        → (b || list_any (λ m. list_any (bytes_eq m) qs) ms) ≡ false
    by true b v e more = absurd (true≢false e)
    by false true v e more = absurd (true≢false (sym (v refl)))
    by false false v e more = more e

-- so a file that is selected among some paths is selected among fewer
still : (ps qs : List (List ℕ)) → Within qs ps → (p : List ℕ) → is_selected ps p ≡ true → is_selected qs p ≡ true
still ps qs w p h = by (bytes_eq p module_file) (is_source_name (file_name p)) (list_any is_skipped_folder (folders p)) (is_in_other_module ps p) refl h
  where
    by : (a b c d : Bool) → is_in_other_module ps p ≡ d → (a || (b && (not c && not d))) ≡ true → (a || (b && (not c && not (is_in_other_module qs p)))) ≡ true
    by true b c d e g = refl
    by false false c d e g = absurd (true≢false (sym g))
    by false true true d e g = absurd (true≢false (sym g))
    by false true false true e g = absurd (true≢false (sym g))
    by false true false false e g = ap not (none_there ps qs w (module_files_in [] (folders p)) e)

-- ---- files by their paths

abbrev paths_of : List Source → List (List ℕ)
paths_of fs = map (λ f. f.path) fs

by_paths : (fs : List Source) → are_by_path fs ≡ ascend (paths_of fs)
by_paths [] = refl
by_paths (f ∷ fs) = λ v. sym (all_mapped (λ (g : Source). g.path) (comes_before f.path) fs) v && by_paths fs v

source_paths : (files : List SourceFile) → paths_of (sources_of files) ≡ map (λ f. f.path) files
source_paths [] = refl
source_paths (f ∷ fs) = λ v. f.path ∷ source_paths fs v

module _ (listed : List (List ℕ)) (order : ascend listed ≡ true) (octets : list_all (each is_byte) listed ≡ true) (files : List SourceFile) (read : map (λ f. f.path) files ≡ filter (is_selected listed) listed) where
  own_paths : paths_of (sources_of files) ≡ filter (is_selected listed) listed
  own_paths = source_paths files ∙ read

  all_selected : list_all (λ f. is_selected (paths_of (sources_of files)) f.path) (sources_of files) ≡ true
  all_selected =
      sym (all_mapped (λ (f : Source). f.path) (is_selected (paths_of (sources_of files))) (sources_of files))
      ∙ (λ v. list_all (is_selected (own_paths v)) (own_paths v))
      ∙ kept_pass (is_selected listed) (is_selected (filter (is_selected listed) listed)) (still listed (filter (is_selected listed) listed) (kept_within (is_selected listed) listed)) listed

  pub are_folder : AreFolder files
  are_folder =
      record {
        by_path = by_paths (sources_of files) ∙ ap ascend own_paths ∙ ascend_kept (is_selected listed) listed order;
        octets =
            sym (all_mapped (λ (f : Source). f.path) (each is_byte) (sources_of files)) ∙ ap (list_all (each is_byte)) own_paths
            ∙ all_kept (each is_byte) (is_selected listed) listed octets;
        selected = all_stay (λ (f : Source). is_selected (paths_of (sources_of files)) f.path) (sources_of files) all_selected;
      }

pub listed_files_are_folders : ListedFilesAreFolders
listed_files_are_folders listed files order octets read = are_folder listed order octets files read

pub read_files_are_folders : ReadFilesAreFolders
read_files_are_folders folder files o =
    are_folder (paths_of folder) (sym (by_paths folder) ∙ o.by_path) (all_mapped (λ (f : Source). f.path) (each is_byte) folder ∙ o.octets) files
    (sym (source_paths files) ∙ ap paths_of (sym o.selected) ∙ kept_mapped (λ (f : Source). f.path) (is_selected (paths_of folder)) folder)
