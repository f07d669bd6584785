-- What a run's last texts leave of the files that are held.
use Rattle.std.proofs.Common.{◌≡◌, ◌∙◌, List, [], ◌∷◌, ℕ, zero, suc, Bool, true, false, not, ◌||◌, cond, map, filter, refl, ap, sym, bytes_eq}
use Rattle.std.specs.Prelude.{Option, Some, None}
use Rattle.std.specs.List.{list_all}
use Rattle.std.proofs.lemmas.Bool.{true≢false}
use Rattle.go_tree.specs.declared.spans.Span.{Span}
use Rattle.fix_io.specs.Files.{HeldFile, bytes_at, paths}
use Rattle.fix_io.specs.Writes.{with_texts}
use Rattle.pkg_graph.specs.ModuleFiles.PathLists.{has_path, path_at}
use Rattle.pkg_graph.specs.ModuleFiles.Selected.{is_selected, module_file}
use Rattle.pkg_graph.specs.Package.{Package}
use Rattle.pkg_graph.specs.Reads.{Source, go_files, is_at}
use Rattle.pkg_graph.proofs.ModuleFiles.PathLaws.{are_same}
use Rattle.run_plans.proofs.PlannedFiles.Modules.{has_text}
use Rattle.run_plans.proofs.PlannedModules.Folders.{and_both, both}
use Rattle.printed_constants.specs.InlinedFiles.Files as run_files
use Rattle.run_rules.specs.Inlining.{AreScanned, IsInlining, none, file}
use Rattle.run_rules.specs.Marks.{text_at}
use Rattle.run_rules.specs.Run as run
use Rattle.run_rules.specs.Texts.{FileText}
use Rattle.fix_run.specs.Files.{OthersStay, files_after, folder_of, source_of, text_after}
use Rattle.fix_run.proofs.OrderLemmas.{folder_paths}

-- ---- the files of the folder

-- a file with the text that it has afterwards, if it has one
abbrev pub with_text : Source → Option FileText → Source
with_text f o = elim o [ None ↦ f | Some t ↦ record { path = f.path; text = t.text } ]

-- a file with another's text
abbrev of_text : Source → Source → Source
of_text f g = record { path = f.path; text = g.text }

file_left : (f : Source) (o : Option FileText) → of_text f (with_text f o) ≡ with_text f o
file_left f None = refl
file_left f (Some t) = refl

folder_from : (after : List (List ℕ × FileText)) (fs : List HeldFile) → folder_of (with_texts fs (map (text_after after) fs)) ≡ run_files.files_after (folder_of fs) after
folder_from after [] = refl
folder_from after (f ∷ fs) = λ v. file_left (source_of f) (text_at f.path after) v ∷ folder_from after fs v

pub folder_after : (files : List HeldFile) (after : List (List ℕ × FileText)) → folder_of (files_after files after) ≡ run_files.files_after (folder_of files) after
folder_after files after = folder_from after files

-- ---- the files that aren't read

-- no file has a last text that isn't read
abbrev pub OnlyRead : List (List ℕ) → List (List ℕ × FileText) → Type 0
OnlyRead all after = (p : List ℕ) → is_selected all p ≡ false → text_at p after ≡ None

pub same_text : (all : List (List ℕ)) (after : List (List ℕ × FileText)) → OnlyRead all after → (f : HeldFile) → is_selected all f.path ≡ false → text_after after f ≡ f.bytes
same_text all after only f e = ap (λ o. (with_text (source_of f) o).text) (only f.path e)

paths_stay : (fs : List HeldFile) (news : List (List ℕ)) → paths (with_texts fs news) ≡ paths fs
paths_stay [] news = refl
paths_stay (f ∷ fs) [] = refl
paths_stay (f ∷ fs) (t ∷ ts) = ap (λ ps. f.path ∷ ps) (paths_stay fs ts)

same_bytes : (all : List (List ℕ)) (fs : List HeldFile) (after : List (List ℕ × FileText)) → OnlyRead all after → (i : ℕ) → is_selected all (path_at (paths fs) i) ≡ false
    → bytes_at (with_texts fs (map (text_after after) fs)) i ≡ bytes_at fs i
same_bytes all [] after only i e = refl
same_bytes all (f ∷ fs) after only zero e = same_text all after only f e
same_bytes all (f ∷ fs) after only (suc i) e = same_bytes all fs after only i e

pub others_stay : (fix : Bool) (files : List HeldFile) (after : List (List ℕ × FileText)) → OnlyRead (paths files) after → OthersStay files (cond fix (files_after files after) files)
others_stay true files after only = record { same_paths = paths_stay files (map (text_after after) files); same_bytes = λ i e. same_bytes (paths files) files after only i e }
others_stay false files after only = record { same_paths = refl; same_bytes = λ i e. refl }

-- ---- the last texts of a run are of files that are read

scanned_paths : (fs : List Source) (ts : List (List ℕ × FileText)) → AreScanned fs ts → map (λ (t : List ℕ × FileText). t.0) ts ≡ map (λ (f : Source). f.path) fs
scanned_paths _ _ none = refl
scanned_paths _ _ (file f t fs ts e s rest) = ap (λ ps. f.path ∷ ps) (scanned_paths fs ts rest)

kept_paths : (log : List run.Logged) (olds news : List (List ℕ × List ℕ)) → run.FilesKeep log olds news → map (λ (f : List ℕ × List ℕ). f.0) news ≡ map (λ (f : List ℕ × List ℕ). f.0) olds
kept_paths log _ _ run.none = refl
kept_paths log _ _ (run.file {path = path} {olds = olds} {news = news} k rest) = ap (λ ps. path ∷ ps) (kept_paths log olds news rest)

bytes_paths : (ts : List (List ℕ × FileText)) → map (λ (f : List ℕ × List ℕ). f.0) (run.bytes_of ts) ≡ map (λ (t : List ℕ × FileText). t.0) ts
bytes_paths [] = refl
bytes_paths (t ∷ ts) = ap (λ ps. t.0 ∷ ps) (bytes_paths ts)

-- what is kept of the files that are read is read
all_read : (all : List (List ℕ)) (p : Source → Bool) (fs : List Source) → list_all (λ (f : Source). is_selected all f.path) (filter p (filter (λ (f : Source). is_selected all f.path) fs)) ≡ true
all_read all p [] = refl
all_read all p (f ∷ fs) = by (is_selected all f.path) refl (all_read all p fs)
  where
    rest : List Source
    rest = filter (λ (g : Source). is_selected all g.path) fs

    reads : List Source → Bool
    reads gs = list_all (λ (g : Source). is_selected all g.path) gs

    inner : is_selected all f.path ≡ true → reads (filter p rest) ≡ true → (c : Bool) → reads (cond c (f ∷ filter p rest) (filter p rest)) ≡ true
    inner e more true = and_both (is_selected all f.path) (reads (filter p rest)) e more
    inner e more false = more

    by : (b : Bool) → is_selected all f.path ≡ b → reads (filter p rest) ≡ true → reads (filter p (cond b (f ∷ rest) rest)) ≡ true
    by true e more = inner e more (p f)
    by false e more = more

not_among : (all : List (List ℕ)) (q : List ℕ) (gs : List Source) → list_all (λ (f : Source). is_selected all f.path) gs ≡ true → is_selected all q ≡ false
    → has_path (map (λ (f : Source). f.path) gs) q ≡ false
not_among all q [] h e = refl
not_among all q (g ∷ gs) h e =
    let parts = both (is_selected all g.path) (list_all (λ (f : Source). is_selected all f.path) gs) h in
    by (bytes_eq q g.path) refl parts.0 (not_among all q gs parts.1 e)
  where
    by : (b : Bool) → bytes_eq q g.path ≡ b → is_selected all g.path ≡ true → has_path (map (λ (f : Source). f.path) gs) q ≡ false
        → (b || has_path (map (λ (f : Source). f.path) gs) q) ≡ false
    by true same read more = absurd (true≢false (sym read ∙ ap (is_selected all) (sym (are_same q g.path same)) ∙ e))
    by false same read more = more

no_text : (q : List ℕ) (ts : List (List ℕ × FileText)) → has_path (map (λ (t : List ℕ × FileText). t.0) ts) q ≡ false → text_at q ts ≡ None
no_text q ts h = by (text_at q ts) refl
  where
    by : (o : Option FileText) → text_at q ts ≡ o → o ≡ None
    by None e = refl
    by (Some t) e = absurd (true≢false (sym (has_text ts q t e) ∙ h))

pub only_read : (files : List HeldFile) (ps : List (Package Span)) (texts : List (List ℕ × FileText)) (only : List ℕ) (after : List (List ℕ × FileText)) (report : List ℕ)
    → IsInlining run.the_limits (folder_of files) ps texts only after report → OnlyRead (paths files) after
only_read files ps texts only after report i = λ q e.
    let all : List (List ℕ) = map (λ (f : Source). f.path) (folder_of files) in
    let its : map (λ (t : List ℕ × FileText). t.0) after ≡ map (λ (f : Source). f.path) (go_files (folder_of files)) =
    sym (bytes_paths after) ∙ kept_paths i.log (run.bytes_of texts) (run.bytes_of after) i.keeps ∙ bytes_paths texts ∙ scanned_paths (go_files (folder_of files)) texts i.read.scanned in
    let unread : is_selected all q ≡ false = ap (λ ps. is_selected ps q) (folder_paths files) ∙ e in
    no_text q after (ap (λ ps. has_path ps q) its ∙ not_among all q (go_files (folder_of files)) (all_read all (λ (f : Source). not (is_at module_file f)) (folder_of files)) unread)
