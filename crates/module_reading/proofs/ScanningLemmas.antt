-- Files that are cut into tokens one after another.
use Rattle.std.proofs.Common.{◌≡◌, ◌∙◌, ◌<◌, ◌≤◌, ◌+◌, ℕ, suc, Bool, true, false, not, cond, List, [], ◌∷◌, ◌++◌, length, filter, take, drop, refl, sym, ap, subst, arith, slice_index_or, All}
use Rattle.std.proofs.lemmas.List.{append-nil, length-map, length-take-le, map_push, take_all, take_more}
use Rattle.std.proofs.lemmas.List.Elements.{All-map, All-push, filter-append}
use Rattle.std.proofs.lemmas.List.Filters.{length-filter_both}
use Rattle.pkg_graph.specs.declared.module_files.faults.GraphError.TheVariants.{NoModuleLine, OldGo, MixedPackage, NoPackage, Cycle, Internal, NoMemory}
use Rattle.module_texts.specs.declared.faults.ReadFault.{ReadFault}
use Rattle.module_texts.specs.declared.faults.ReadFault.TheVariants.{Text, Module}
use Rattle.source_files.specs.declared.files.SourceFile.{SourceFile}
use Rattle.module_texts.specs.declared.files.ScannedFile.{ScannedFile}
use Rattle.module_texts.specs.Files.{AreScanned, IsScanned, go_files, is_go_file}
use Rattle.module_texts.specs.Refusals.{HasTokens, IsOfScan, RefusesScan}
use Rattle.module_texts.proofs.Lemmas.{filter_cut}

kept : (before : List SourceFile) (x : SourceFile) → is_go_file x ≡ true → go_files (before ++ x ∷ []) ≡ go_files before ++ x ∷ []
kept before x t = filter-append is_go_file before (x ∷ []) ∙ ap (λ b. go_files before ++ cond b (x ∷ []) []) t

passed : (before : List SourceFile) (x : SourceFile) → is_go_file x ≡ false → go_files (before ++ x ∷ []) ≡ go_files before
passed before x f = filter-append is_go_file before (x ∷ []) ∙ ap (λ b. go_files before ++ cond b (x ∷ []) []) f ∙ append-nil (go_files before)

scanned_push : (before : List SourceFile) (x : SourceFile) (list : List ScannedFile) (s : ScannedFile) → is_go_file x ≡ true → s.file.now ≡ x → IsScanned s
    → AreScanned (go_files before) list → AreScanned (go_files (before ++ x ∷ [])) (list ++ s ∷ [])
scanned_push before x list s t same is h = record {
  files_are = map_push (λ (y : ScannedFile). y.file.now) list s ∙ ap (λ l. l ++ s.file.now ∷ []) h.files_are ∙ ap (λ y. go_files before ++ y ∷ []) same ∙ sym (kept before x t);
  scans = All-push IsScanned list s h.scans is;
}

-- the files up to and with one
front_more : (files : List SourceFile) (i : ℕ) (x : SourceFile) → i < length files → x ≡ slice_index_or files i x → take i files ++ x ∷ [] ≡ take (i + 1) files
front_more files i x l e = ap (λ y. take i files ++ y ∷ []) e ∙ sym (take_more files i x l)

-- one more file has its tokens
pub scanned_more : (files : List SourceFile) (i : ℕ) (x : SourceFile) (list : List ScannedFile) (s : ScannedFile) → i < length files → x ≡ slice_index_or files i x → is_go_file x ≡ true → s.file.now ≡ x → IsScanned s
    → AreScanned (go_files (take i files)) list → AreScanned (go_files (take (i + 1) files)) (list ++ s ∷ [])
scanned_more files i x list s l e t same is h =
    subst (λ fs. AreScanned (go_files fs) (list ++ s ∷ [])) (front_more files i x l e) (scanned_push (take i files) x list s t same is h)

-- a file that isn't one of Go source is passed over
pub passed_over : (files : List SourceFile) (i : ℕ) (x : SourceFile) (list : List ScannedFile) → i < length files → x ≡ slice_index_or files i x → is_go_file x ≡ false
    → AreScanned (go_files (take i files)) list → AreScanned (go_files (take (i + 1) files)) list
passed_over files i x list l e f h =
    subst (λ fs. AreScanned (go_files fs) list) (front_more files i x l e) (subst (λ fs. AreScanned fs list) (sym (passed (take i files) x f)) h)

pub all_scanned : (files : List SourceFile) (i : ℕ) (list : List ScannedFile) → length files ≤ i → AreScanned (go_files (take i files)) list → AreScanned (go_files files) list
all_scanned files i list l h = subst (λ fs. AreScanned (go_files fs) list) (take_all i files l) h

filter_within : {A : Type 0} (p : A → Bool) (xs : List A) → length (filter p xs) ≤ length xs
filter_within p xs = let both = length-filter_both p (λ x. not (p x)) (λ x. refl) xs in omega (arith, both)

-- no more files are scanned than there are
pub scanned_count : (files : List SourceFile) (list : List ScannedFile) → AreScanned (go_files files) list → length list ≤ length files
scanned_count files list h =
    let a = length-map list (λ (y : ScannedFile). y.file.now) in
    let b = ap length h.files_are in
    let c = filter_within is_go_file files in
    omega (arith, a, b, c)

pub before_count : (files : List SourceFile) (i : ℕ) (list : List ScannedFile) → i < length files → AreScanned (go_files (take i files)) list → length list ≤ i
before_count files i list l h =
    let a = scanned_count (take i files) list h in
    let b = length-take-le i files (omega (arith, l)) in
    omega (arith, a, b)

tokens_of : (s : ScannedFile) → IsScanned s → HasTokens s.file.now.bytes
tokens_of s h = record { tokens = s.tokens.items; comments = s.tokens.comments; words = h.words; holds = tt }

tokens_before : (fs : List SourceFile) (list : List ScannedFile) → AreScanned fs list → All (λ f. HasTokens f.bytes) fs
tokens_before fs list h = subst (All (λ f. HasTokens f.bytes)) h.files_are (All-map (λ f. HasTokens f.bytes) (λ (y : ScannedFile). y.file.now) list (λ k d l. tokens_of _ (h.scans k d l)))

-- the first file without tokens
pub scan_refused : (files : List SourceFile) (i : ℕ) (x : SourceFile) (list : List ScannedFile) (n : ℕ) (fault : ReadFault) → i < length files → x ≡ slice_index_or files i x
    → is_go_file x ≡ true → AreScanned (go_files (take i files)) list → n ≡ length list → IsOfScan n x fault → RefusesScan (go_files files) fault
scan_refused files i x list n (Text k f) l e t h size r = (
  r.1,
  record {
    before = go_files (take i files);
    of = x;
    behind = go_files (drop (suc i) files);
    is = filter_cut is_go_file files i x l e t;
    count = ap length (sym h.files_are) ∙ length-map list (λ (y : ScannedFile). y.file.now) ∙ sym size ∙ sym r.0;
    passes = tokens_before (go_files (take i files)) list h;
    fails = r.2;
  },
)
scan_refused files i x list n (Module NoMemory) l e t h size r = tt
scan_refused files i x list n (Module NoModuleLine) l e t h size r = absurd r
scan_refused files i x list n (Module (OldGo v)) l e t h size r = absurd r
scan_refused files i x list n (Module (MixedPackage f a)) l e t h size r = absurd r
scan_refused files i x list n (Module (NoPackage f a p)) l e t h size r = absurd r
scan_refused files i x list n (Module (Cycle p)) l e t h size r = absurd r
scan_refused files i x list n (Module (Internal f a p)) l e t h size r = absurd r
