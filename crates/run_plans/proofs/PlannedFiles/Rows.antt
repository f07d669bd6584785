-- Texts by the numbers of the files that were read.
use Rattle.std.proofs.Common.{◌≡◌, ◌∙◌, refl, sym, ap, subst, ℕ, zero, suc, Bool, true, false, cond, not, if◌then◌else◌, bytes_eq, List, [], ◌∷◌, ◌++◌, map, Option, Some, None, append-nil}
use Rattle.std.specs.Prelude.{slice_get}
use Rattle.std.proofs.lemmas.Bool.{true≢false}
use Rattle.std.proofs.lemmas.Option.{same_Some}
use Rattle.pkg_graph.proofs.ImportOrder.OpenLaws.{never_before_itself}
use Rattle.pkg_graph.specs.ModuleFiles.Pieces.{comes_before}
use Rattle.pkg_graph.specs.ModuleFiles.Selected.{module_file}
use Rattle.pkg_graph.proofs.ModuleFiles.PathLaws.{are_same, same_path}
use Rattle.module_texts.specs.Files.{go_files}
use Rattle.source_files.specs.declared.files.SourceFile.{SourceFile}
use Rattle.run_plans.specs.PlannedFiles.ChangedFiles.Changed.{change_in, change_of, changes}
use Rattle.run_plans.proofs.PlannedFiles.ChangedFiles.Both.{changes_both}
use Rattle.report_order.specs.ReportFiles.Files.{ComesFirst, PathsAscend}
use Rattle.run_plans.specs.PlannedFiles.Changes.{path_numbered, with_paths, other_bytes, files_differing}
use Rattle.run_plans.specs.PlannedFiles.Texts.{text_with_path, text_row, text_rows}

-- ---- files by their numbers

-- the files stand from this number on
abbrev Numbered : (ℕ → Option SourceFile) → ℕ → List SourceFile → Type 0
Numbered at k [] = Unit {0}
Numbered at k (f ∷ fs) = (at k ≡ Some f) × Numbered at (suc k) fs

one_later : (at : ℕ → Option SourceFile) (k : ℕ) (fs : List SourceFile) → Numbered (λ i. at (suc i)) k fs → Numbered at (suc k) fs
one_later at k [] h = tt
one_later at k (f ∷ fs) h = (h.0, one_later at (suc k) fs h.1)

all_numbered : (fs : List SourceFile) → Numbered (slice_get fs) 0 fs
all_numbered [] = tt
all_numbered (f ∷ fs) = (refl, one_later (slice_get (f ∷ fs)) 0 fs (all_numbered fs))

module _ (files : List SourceFile) (texts : List (List ℕ × List ℕ)) where
  -- ---- changes

  change_alike : (k : ℕ) (f : SourceFile) → slice_get files k ≡ Some f → (o : Option (List ℕ)) → text_with_path texts f.path ≡ o → changes files (text_row k o) ≡ other_bytes texts f
  change_alike k f at None e = ap (λ (o : Option (List ℕ)). elim o [ None ↦ [] | Some b ↦ if bytes_eq f.bytes b then [] else record { index = f.index; bytes = b } ∷ [] ]) (sym e)
  change_alike k f at (Some t) e =
      append-nil (change_of files (record { file = k; text = t }))
      ∙ ap (λ (o : Option SourceFile). change_in (record { file = k; text = t }) o) at
      ∙ ap (λ (o : Option (List ℕ)). elim o [ None ↦ [] | Some b ↦ if bytes_eq f.bytes b then [] else record { index = f.index; bytes = b } ∷ [] ]) (sym e)

  changes_from : (k : ℕ) (fs : List SourceFile) → Numbered (slice_get files) k fs → changes files (text_rows texts k fs) ≡ files_differing texts fs
  changes_from k [] h = refl
  changes_from k (f ∷ fs) h =
      changes_both files (text_row k (text_with_path texts f.path)) (text_rows texts (suc k) fs)
      ∙ (λ w. change_alike k f h.0 (text_with_path texts f.path) refl w ++ changes_from (suc k) fs h.1 w)

  -- ---- with their paths

  abbrev head_of : List (List ℕ) → List ℕ
  head_of [] = []
  head_of (p ∷ ps) = p

  abbrev behind : List (List ℕ) → List (List ℕ)
  behind [] = []
  behind (p ∷ ps) = ps

  -- each of these texts is that of its path
  abbrev AreOwn : List (List ℕ × List ℕ) → Type 0
  AreOwn ts = (i : ℕ) (t : List ℕ × List ℕ) → slice_get ts i ≡ Some t → text_with_path texts t.0 ≡ Some t.1

  rows_from : (k : ℕ) (fs : List SourceFile) (ts : List (List ℕ × List ℕ)) → Numbered (slice_get files) k fs → map (λ t. t.0) ts ≡ map (λ f. f.path) (go_files fs) → AreOwn ts
      → text_with_path texts module_file ≡ None → with_paths files (text_rows texts k fs) ≡ ts
  rows_from k [] [] h e own none = refl
  rows_from k [] (t ∷ ts) h e own none = absurd cc
  rows_from k (f ∷ fs) ts h e own none =
      by (bytes_eq f.path module_file) refl ts e own (λ us e own. rows_from (suc k) fs us h.1 e own none)
    where
      by : (b : Bool) → bytes_eq f.path module_file ≡ b → (ts : List (List ℕ × List ℕ)) → map (λ t. t.0) ts ≡ map (λ f. f.path) (cond (not b) (f ∷ go_files fs) (go_files fs)) → AreOwn ts
          → ((us : List (List ℕ × List ℕ)) → map (λ t. t.0) us ≡ map (λ f. f.path) (go_files fs) → AreOwn us → with_paths files (text_rows texts (suc k) fs) ≡ us)
          → with_paths files (text_row k (text_with_path texts f.path) ++ text_rows texts (suc k) fs) ≡ ts
      by true q ts e own more =
          ap (λ (o : Option (List ℕ)). with_paths files (text_row k o ++ text_rows texts (suc k) fs)) (ap (text_with_path texts) (are_same f.path module_file q) ∙ none)
          ∙ more ts e own
      by false q [] e own more = absurd cc
      by false q (t ∷ ts) e own more =
          let path : t.0 ≡ f.path = ap head_of e in
          let number : path_numbered files k ≡ t.0 = ap (λ (o : Option SourceFile). elim o [ None ↦ [] | Some g ↦ g.path ]) h.0 ∙ sym path in
          ap (λ (o : Option (List ℕ)). with_paths files (text_row k o ++ text_rows texts (suc k) fs)) (ap (text_with_path texts) (sym path) ∙ own 0 t refl)
          ∙ (λ w. (number w, t.1) ∷ more ts (ap behind e) (λ i u a. own (suc i) u a) w)

pub changes_are : (files : List SourceFile) (texts : List (List ℕ × List ℕ)) → changes files (text_rows texts 0 files) ≡ files_differing texts files
changes_are files texts = changes_from files texts 0 files (all_numbered files)

-- ---- ascending paths

first_before : (p : List ℕ) (ts : List (List ℕ × List ℕ)) (i : ℕ) (t : List ℕ × List ℕ) → ComesFirst p (map (λ t. t.0) ts) → slice_get ts i ≡ Some t → comes_before p t.0 ≡ true
first_before p [] i t h e = absurd cc
first_before p (u ∷ us) zero t h e = subst (λ (v : List ℕ × List ℕ). comes_before p v.0 ≡ true) (same_Some u t e) h.0
first_before p (u ∷ us) (suc i) t h e = first_before p us i t h.1 e

own_texts : (ts : List (List ℕ × List ℕ)) → PathsAscend (map (λ t. t.0) ts) → (i : ℕ) (t : List ℕ × List ℕ) → slice_get ts i ≡ Some t → text_with_path ts t.0 ≡ Some t.1
own_texts [] h i t e = absurd cc
own_texts (u ∷ us) h zero t e = subst (λ (v : List ℕ × List ℕ). text_with_path (u ∷ us) v.0 ≡ Some v.1) (same_Some u t e) (first (bytes_eq u.0 u.0) (same_path u.0))
  where
    first : (b : Bool) → b ≡ true → cond b (Some u.1) (text_with_path us u.0) ≡ Some u.1
    first true q = refl
    first false q = absurd (true≢false (sym q))
own_texts (u ∷ us) h (suc i) t e = by (bytes_eq t.0 u.0) refl (own_texts us h.1 i t e)
  where
    by : (b : Bool) → bytes_eq t.0 u.0 ≡ b → text_with_path us t.0 ≡ Some t.1 → cond b (Some u.1) (text_with_path us t.0) ≡ Some t.1
    by true q more = absurd (never_before_itself t.0 (subst (λ (p : List ℕ). comes_before p t.0 ≡ true) (sym (are_same t.0 u.0 q)) (first_before u.0 us i t h.0 e)))
    by false q more = more

pub rows_are : (files : List SourceFile) (texts : List (List ℕ × List ℕ)) → map (λ t. t.0) texts ≡ map (λ f. f.path) (go_files files) → PathsAscend (map (λ t. t.0) texts)
    → text_with_path texts module_file ≡ None → with_paths files (text_rows texts 0 files) ≡ texts
rows_are files texts paths ascend none = rows_from files texts 0 files texts (all_numbered files) paths (own_texts texts ascend) none
