-- The files of Go source, as a report has them.
use Rattle.std.proofs.Common.{◌≡◌, ◌≤◌, sym, ap, subst, ℕ, Bool, true, false, cond, List, [], ◌∷◌, map, length, All}
use Rattle.std.proofs.lemmas.List.Elements.{All-cons, All-head, All-nil, All-tail}
use Rattle.go_tree.specs.declared.limits.TheConstants.{MAX_FILE_BYTES}
use Rattle.module_marks.specs.Views.{texts_of}
use Rattle.module_texts.specs.Files.{go_files, is_go_file}
use Rattle.module_texts.specs.declared.files.ScannedFile.{ScannedFile}
use Rattle.report_order.specs.Laws.{AreSources}
use Rattle.report_order.specs.declared.text.ReportSource.{ReportSource}
use Rattle.source_files.specs.declared.files.SourceFile.{SourceFile}
use Rattle.run_plans.specs.PlannedModules.Runs.{AreGoSources, told_file, told_source}

-- the rows of files, one after another
abbrev pub go_rows : List SourceFile → List (List ℕ × List ℕ)
go_rows files = map told_file (go_files files)

-- ---- what they are

abbrev path_in_first : List (List ℕ × List ℕ) → List ℕ
path_in_first [] = []
path_in_first (x ∷ xs) = x.0

abbrev text_in_first : List (List ℕ × List ℕ) → List ℕ
text_in_first [] = []
text_in_first (x ∷ xs) = x.1

abbrev behind_first : List (List ℕ × List ℕ) → List (List ℕ × List ℕ)
behind_first [] = []
behind_first (x ∷ xs) = xs

-- the files and the texts of what was read
pub are_sources : (list : List ReportSource) (ss : List ScannedFile) → map told_source list ≡ map told_file (map (λ s. s.file.now) ss) → AreSources list (texts_of ss)
are_sources [] [] e = tt
are_sources [] (s ∷ ss) e = absurd cc
are_sources (r ∷ rs) [] e = absurd cc
are_sources (r ∷ rs) (s ∷ ss) e = (ap path_in_first e, ap text_in_first e, are_sources rs ss (ap behind_first e))

kept_small : (files : List SourceFile) → All (λ f. length f.bytes ≤ MAX_FILE_BYTES) files → All (λ f. length f.bytes ≤ MAX_FILE_BYTES) (go_files files)
kept_small [] all = all
kept_small (f ∷ fs) all = by (is_go_file f) (kept_small fs (All-tail Small f fs all))
  where
    Small : SourceFile → Type 0
    Small g = length g.bytes ≤ MAX_FILE_BYTES

    by : (b : Bool) → All Small (go_files fs) → All Small (cond b (f ∷ go_files fs) (go_files fs))
    by true more = All-cons Small f (go_files fs) (All-head Small f fs all) more
    by false more = more

texts_small : (list : List ReportSource) (fs : List SourceFile) → map told_source list ≡ map told_file fs → All (λ f. length f.bytes ≤ MAX_FILE_BYTES) fs
    → All (λ r. length r.text.now ≤ MAX_FILE_BYTES) list
texts_small [] fs e all = All-nil (λ (r : ReportSource). length r.text.now ≤ MAX_FILE_BYTES)
texts_small (r ∷ rs) [] e all = absurd cc
texts_small (r ∷ rs) (f ∷ fs) e all =
    let one : length f.bytes ≤ MAX_FILE_BYTES = All-head (λ (g : SourceFile). length g.bytes ≤ MAX_FILE_BYTES) f fs all in
    All-cons (λ (x : ReportSource). length x.text.now ≤ MAX_FILE_BYTES) r rs
    (subst (λ (t : List ℕ). length t ≤ MAX_FILE_BYTES) (sym (ap text_in_first e)) one)
    (texts_small rs fs (ap behind_first e) (All-tail (λ (g : SourceFile). length g.bytes ≤ MAX_FILE_BYTES) f fs all))

-- their texts are as short as those of all files
pub sources_small : (files : List SourceFile) (list : List ReportSource) → All (λ f. length f.bytes ≤ MAX_FILE_BYTES) files → AreGoSources files list → All (λ r. length r.text.now ≤ MAX_FILE_BYTES) list
sources_small files list all are = texts_small list (go_files files) are (kept_small files all)
