-- Each file of a module that is read has its own path, and its text.
use Rattle.std.proofs.Common.{◌≡◌, ℕ, zero, suc, Bool, true, false, not, cond, ◌&&◌, List, [], ◌∷◌, map, Some, if◌then◌else◌, refl, sym, ap, subst, ◌∙◌, bytes_eq}
use Rattle.std.specs.Prelude.{slice_get, filter}
use Rattle.std.specs.List.{list_all}
use Rattle.std.proofs.lemmas.List.{length-map}
use Rattle.std.proofs.lemmas.Option.{same_Some}
use Rattle.std.proofs.lemmas.Slice.Eq.{bytes_eq-Decides}
use Rattle.go_tree.specs.declared.spans.Span.{Span}
use Rattle.go_tree.specs.declared.tokens.Token.{Token}
use Rattle.go_read.specs.SpellsFiles.{SpellsFile}
use Rattle.go_tree.specs.GoWords.Tokens.{TokensOf}
use Rattle.go_scan.proofs.Cuts.{tokens_once}
use Rattle.pkg_graph.specs.ModuleFiles.Pieces.{comes_before, folder_of}
use Rattle.pkg_graph.specs.ModuleFiles.PathLists.{number_of}
use Rattle.pkg_graph.specs.ModuleFiles.Selected.{is_selected, module_file}
use Rattle.pkg_graph.proofs.ImportOrder.OpenLaws.{never_before_itself}
use Rattle.pkg_graph.specs.Package.{SourceTree, Package, import_path, first_seen, home_of, package_of, packages_of}
use Rattle.pkg_graph.specs.Reads.{Source, is_at, selected_files, go_files, AreTrees}
use Rattle.pkg_graph.specs.Reads as trees
use Rattle.pkg_graph.proofs.PackageLaws.{paths_distinct}
use Rattle.pkg_graph.proofs.BridgeLaws.{got_at, got_within}
use Rattle.run_rules.specs.Marks.{text_at}
use Rattle.run_rules.specs.Texts.{FileText}
use Rattle.run_rules.specs.Inlining.{ReadsAs, IsSourceFile, are_by_path, AreScanned, none, file, ModuleReads}
use Rattle.splice_laws.specs.RunLaws.Reading.{FileAt, OnePathEach}
use Rattle.splice_laws.specs.RunLaws.Laws.{OneTextEach, ReadModulesHaveOnePathEach}

pub same_path : (a b : List ℕ) → bytes_eq a b ≡ true → a ≡ b
same_path a b e = (bytes_eq-Decides a b).0 e

-- ---- lists

both : (a b : Bool) → (a && b) ≡ true → (a ≡ true) × (b ≡ true)
both true b h = (refl, h)
both false b h = absurd cc

all_get : {A : Type 0} (p : A → Bool) (xs : List A) (i : ℕ) (x : A) → list_all p xs ≡ true → slice_get xs i ≡ Some x → p x ≡ true
all_get p [] i x h e = absurd cc
all_get p (y ∷ ys) zero x h e = subst (λ z. p z ≡ true) (same_Some y x e) (both (p y) (list_all p ys) h).0
all_get p (y ∷ ys) (suc i) x h e = all_get p ys i x (both (p y) (list_all p ys) h).1 e

all_kept : {A : Type 0} (p q : A → Bool) (xs : List A) → list_all p xs ≡ true → list_all p (filter q xs) ≡ true
all_kept p q [] h = refl
all_kept p q (x ∷ xs) h = by (q x) (both (p x) (list_all p xs) h).0 (all_kept p q xs (both (p x) (list_all p xs) h).1)
  where
    by : (b : Bool) → p x ≡ true → list_all p (filter q xs) ≡ true → list_all p (cond b (x ∷ filter q xs) (filter q xs)) ≡ true
    by true e f = rw e f
    by false e f = f

kept_was : {A : Type 0} (q : A → Bool) (xs : List A) (i : ℕ) (x : A) → slice_get (filter q xs) i ≡ Some x → (k : ℕ) × (slice_get xs k ≡ Some x) × (q x ≡ true)
kept_was q [] i x e = absurd cc
kept_was q (y ∷ ys) i x e = by (q y) refl i e (λ j f. kept_was q ys j x f)
  where
    by : (b : Bool) → q y ≡ b → (j : ℕ) → slice_get (cond b (y ∷ filter q ys) (filter q ys)) j ≡ Some x
        → ((l : ℕ) → slice_get (filter q ys) l ≡ Some x → (k : ℕ) × (slice_get ys k ≡ Some x) × (q x ≡ true))
        → (k : ℕ) × (slice_get (y ∷ ys) k ≡ Some x) × (q x ≡ true)
    by true h zero f more = (zero, f, subst (λ z. q z ≡ true) (same_Some y x f) h)
    by true h (suc j) f more = let w = more j f in (suc w.0, w.1, w.2)
    by false h j f more = let w = more j f in (suc w.0, w.1, w.2)

map_was : {A B : Type 0} (f : A → B) (xs : List A) (k : ℕ) (y : B) → slice_get (map f xs) k ≡ Some y → (x : A) × (slice_get xs k ≡ Some x) × (f x ≡ y)
map_was f [] k y e = absurd cc
map_was f (x ∷ xs) zero y e = (x, refl, same_Some (f x) y e)
map_was f (x ∷ xs) (suc k) y e = map_was f xs k y e

-- ---- lists by path

module _ {A : Type 0} (path : A → List ℕ) where
  -- each one's path comes before those of the ones behind it
  abbrev ascend : List A → Bool
  ascend [] = true
  ascend (x ∷ xs) = list_all (λ y. comes_before (path x) (path y)) xs && ascend xs

  abbrev comes_first : A → List A → Bool
  comes_first x xs = list_all (λ y. comes_before (path x) (path y)) xs

  ascend_kept : (q : A → Bool) (xs : List A) → ascend xs ≡ true → ascend (filter q xs) ≡ true
  ascend_kept q [] h = refl
  ascend_kept q (x ∷ xs) h =
      let two = both (comes_first x xs) (ascend xs) h in
      by (q x) (all_kept (λ y. comes_before (path x) (path y)) q xs two.0) (ascend_kept q xs two.1)
    where
      by : (b : Bool) → comes_first x (filter q xs) ≡ true → ascend (filter q xs) ≡ true → ascend (cond b (x ∷ filter q xs) (filter q xs)) ≡ true
      by true e f = rw e f
      by false e f = f

  never_behind : (x y : A) (xs : List A) (i : ℕ) → comes_first x xs ≡ true → slice_get xs i ≡ Some y → path x ≡ path y → ⊥
  never_behind x y xs i h e same =
      never_before_itself (path y) (subst (λ (p : List ℕ). comes_before p (path y) ≡ true) same (all_get (λ z. comes_before (path x) (path z)) xs i y h e))

  one_each : (xs : List A) (i j : ℕ) (x y : A) → ascend xs ≡ true → slice_get xs i ≡ Some x → slice_get xs j ≡ Some y → path x ≡ path y → i ≡ j
  one_each [] i j x y h e f same = absurd cc
  one_each (z ∷ zs) zero zero x y h e f same = refl
  one_each (z ∷ zs) zero (suc j) x y h e f same =
      let two = both (comes_first z zs) (ascend zs) h in
      absurd (never_behind z y zs j two.0 f (ap path (same_Some z x e) ∙ same))
  one_each (z ∷ zs) (suc i) zero x y h e f same =
      let two = both (comes_first z zs) (ascend zs) h in
      absurd (never_behind z x zs i two.0 e (ap path (same_Some z y f) ∙ sym same))
  one_each (z ∷ zs) (suc i) (suc j) x y h e f same =
      let two = both (comes_first z zs) (ascend zs) h in ap suc (one_each zs i j x y two.1 e f same)

abbrev itself : List ℕ → List ℕ
itself p = p

behind_paths : {A : Type 0} (path : A → List ℕ) (p : List ℕ) (xs : List A) → list_all (λ y. comes_before p (path y)) xs ≡ list_all (λ q. comes_before p q) (map path xs)
behind_paths path p [] = refl
behind_paths path p (x ∷ xs) = ap (λ (b : Bool). comes_before p (path x) && b) (behind_paths path p xs)

by_paths : {A : Type 0} (path : A → List ℕ) (xs : List A) → ascend path xs ≡ ascend itself (map path xs)
by_paths path [] = refl
by_paths path (x ∷ xs) =
    ap (λ (b : Bool). b && ascend path xs) (behind_paths path (path x) xs)
    ∙ ap (λ (b : Bool). list_all (λ q. comes_before (path x) q) (map path xs) && b) (by_paths path xs)

-- ---- files, trees and texts

abbrev path_of : Source → List ℕ
path_of f = f.path

abbrev path_of_tree : SourceTree Span → List ℕ
path_of_tree x = x.path

abbrev path_of_text : List ℕ × FileText → List ℕ
path_of_text t = t.0

files_ascend : (fs : List Source) → are_by_path fs ≡ ascend path_of fs
files_ascend [] = refl
files_ascend (f ∷ fs) = ap (λ (b : Bool). list_all (λ g. comes_before f.path g.path) fs && b) (files_ascend fs)

paths_of_trees : (fs : List Source) (xs : List (SourceTree Span)) → AreTrees IsSourceFile fs xs → map path_of fs ≡ map path_of_tree xs
paths_of_trees _ _ trees.none = refl
paths_of_trees _ _ (trees.file f tree fs xs s r) = ap (λ (ps : List (List ℕ)). f.path ∷ ps) (paths_of_trees fs xs r)

paths_of_texts : (fs : List Source) (ts : List (List ℕ × FileText)) → AreScanned fs ts → map path_of fs ≡ map path_of_text ts
paths_of_texts _ _ none = refl
paths_of_texts _ _ (file f t fs ts same scans r) = ap (λ (ps : List (List ℕ)). f.path ∷ ps) (paths_of_texts fs ts r)

one_text : (ts : List (List ℕ × FileText)) → ascend path_of_text ts ≡ true → OneTextEach ts
one_text [] h i t e = absurd cc
one_text (u ∷ us) h zero t e = subst (λ (x : List ℕ × FileText). text_at x.0 (u ∷ us) ≡ Some x.1) (same_Some u t e) (rw ((bytes_eq-Decides u.0 u.0).1 refl) refl)
one_text (u ∷ us) h (suc i) t e =
    let two = both (comes_first path_of_text u us) (ascend path_of_text us) h in by (bytes_eq t.0 u.0) refl two.0 (one_text us two.1 i t e)
  where
    by : (b : Bool) → bytes_eq t.0 u.0 ≡ b → comes_first path_of_text u us ≡ true → text_at t.0 us ≡ Some t.1 → (if b then Some u.1 else text_at t.0 us) ≡ Some t.1
    by true f g more = absurd (never_behind path_of_text u t us i g e (sym (same_path t.0 u.0 f)))
    by false f g more = more

-- the text with this number is that of the file, whose tree its tokens spell
record TextAt (ts : List (List ℕ × FileText)) (i : ℕ) (x : SourceTree Span) : Type 0 where
  text : FileText
  there : slice_get ts i ≡ Some (x.path, text)
  reads : ReadsAs text x.tree

tree_text : (fs : List Source) (xs : List (SourceTree Span)) (ts : List (List ℕ × FileText)) (i : ℕ) (x : SourceTree Span) → AreTrees IsSourceFile fs xs → AreScanned fs ts → slice_get xs i ≡ Some x → TextAt ts i x
tree_text _ _ _ i x trees.none none e = absurd cc
tree_text _ _ _ zero x (trees.file f tree fs xs s r) (file _ t _ ts same scans q) e =
    subst (λ (y : SourceTree Span). TextAt ((f.path, t) ∷ ts) zero y) (same_Some (record { path = f.path; tree = tree }) x e)
    (record { text = t; there = refl; reads = record { scans = scans; spells = subst (λ (us : List Token). SpellsFile us tree) (sym once.0) s.reads.spells } })
  where
    once : (t.tokens ≡ s.tokens) × (t.comments ≡ s.comments)
    once = tokens_once f.text s.tokens t.tokens s.comments t.comments s.reads.scans (subst (λ (b : List ℕ). TokensOf b t.tokens t.comments) same scans)
tree_text _ _ _ (suc i) x (trees.file f tree fs xs s r) (file _ t _ ts same scans q) e =
    let m : TextAt ts i x = tree_text fs xs ts i x r q e in record { text = m.text; there = m.there; reads = m.reads }

-- ---- packages

module _ (home : List ℕ) (xs : List (SourceTree Span)) where
  abbrev all : List (Package Span)
  all = packages_of home xs

  number_is : (k : ℕ) (p : Package Span) → slice_get all k ≡ Some p → number_of (map (λ p. p.path) all) p.path ≡ Some k
  number_is k p g =
      ap (number_of (map (λ p. p.path) all)) (sym (got_at (λ p. p.path) [] all k p g))
      ∙ paths_distinct home xs k (rw (length-map all (λ p. p.path)) (got_within all k p g))

  -- where a file of a package stands
  record Stands (p : Package Span) (f : SourceTree Span) : Type 0 where
    number : ℕ
    there : slice_get xs number ≡ Some f
    homed : p.path ≡ home_of home f

  stands : (k i : ℕ) (f : SourceTree Span) (at : FileAt all k i f) → Stands at.of f
  stands k i f at =
      let p = map_was (package_of home xs) (first_seen (map (home_of home) xs)) k at.of at.package_is in
      let w = kept_was (λ (g : SourceTree Span). bytes_eq p.0 (home_of home g)) xs i f (subst (λ (q : Package Span). slice_get q.files i ≡ Some f) (sym p.2) at.file_is) in
      record { number = w.0; there = w.1; homed = ap (λ (q : Package Span). q.path) (sym p.2) ∙ same_path p.0 (home_of home f) w.2 }

  files_by_path : ascend path_of_tree xs ≡ true → (k : ℕ) (p : Package Span) → slice_get all k ≡ Some p → ascend path_of_tree p.files ≡ true
  files_by_path h k p e =
      let q = map_was (package_of home xs) (first_seen (map (home_of home) xs)) k p e in
      subst (λ (r : Package Span). ascend path_of_tree r.files ≡ true) q.2 (ascend_kept path_of_tree (λ (g : SourceTree Span). bytes_eq q.0 (home_of home g)) xs h)

  one_path : ascend path_of_tree xs ≡ true → OnePathEach all
  one_path h k i l j f g a b e = (same_number, one_each path_of_tree a.of.files i j f g (files_by_path h k a.of a.package_is) a.file_is in_same e)
    where
      same_home : a.of.path ≡ b.of.path
      same_home =
          let s : Stands a.of f = stands k i f a in
          let t : Stands b.of g = stands l j g b in
          s.homed ∙ ap (λ (p : List ℕ). import_path home (folder_of p)) e ∙ sym t.homed

      same_number : k ≡ l
      same_number = same_Some k l (sym (number_is k a.of a.package_is) ∙ ap (number_of (map (λ p. p.path) all)) same_home ∙ number_is l b.of b.package_is)

      same_package : b.of ≡ a.of
      same_package = same_Some b.of a.of (sym b.package_is ∙ ap (slice_get all) (sym same_number) ∙ a.package_is)

      in_same : slice_get a.of.files j ≡ Some g
      in_same = subst (λ (p : Package Span). slice_get p.files j ≡ Some g) same_package b.file_is

-- ---- a module that is read

-- the text of a file, whose tokens spell its tree
pub record HasText (ts : List (List ℕ × FileText)) (x : SourceTree Span) : Type 0 where
  pub text : FileText
  pub there : text_at x.path ts ≡ Some text
  pub reads : ReadsAs text x.tree

module _ (files : List Source) (ps : List (Package Span)) (texts : List (List ℕ × FileText)) (r : ModuleReads files ps texts) where
  go_files_ascend : ascend path_of (go_files files) ≡ true
  go_files_ascend =
      ascend_kept path_of (λ (f : Source). not (is_at module_file f)) (selected_files files)
      (ascend_kept path_of (λ (f : Source). is_selected (map (λ g. g.path) files) f.path) files (sym (files_ascend files) ∙ r.by_path))

  trees_ascend : ascend path_of_tree r.reads.trees ≡ true
  trees_ascend =
      by_paths path_of_tree r.reads.trees ∙ ap (ascend itself) (sym (paths_of_trees (go_files files) r.reads.trees r.reads.trees_are))
      ∙ sym (by_paths path_of (go_files files)) ∙ go_files_ascend

  texts_ascend : ascend path_of_text texts ≡ true
  texts_ascend =
      by_paths path_of_text texts ∙ ap (ascend itself) (sym (paths_of_texts (go_files files) texts r.scanned))
      ∙ sym (by_paths path_of (go_files files)) ∙ go_files_ascend

  abbrev home : List ℕ
  home = r.reads.program.path

  one_path_each : OnePathEach ps
  one_path_each = subst (λ (qs : List (Package Span)). OnePathEach qs) (sym r.reads.program.packages_are) (one_path home r.reads.trees trees_ascend)

  one_text_each : OneTextEach texts
  one_text_each = one_text texts texts_ascend

  pub its_text : (k i : ℕ) (x : SourceTree Span) → FileAt ps k i x → HasText texts x
  its_text k i x at =
      let now : FileAt (packages_of home r.reads.trees) k i x = subst (λ (qs : List (Package Span)). FileAt qs k i x) r.reads.program.packages_are at in
      let s : Stands home r.reads.trees now.of x = stands home r.reads.trees k i x now in
      let t : TextAt texts s.number x = tree_text (go_files files) r.reads.trees texts s.number x r.reads.trees_are r.scanned s.there in
      record { text = t.text; there = one_text_each s.number (x.path, t.text) t.there; reads = t.reads }

pub paths_own : ReadModulesHaveOnePathEach
paths_own files ps texts r = (one_path_each files ps texts r, one_text_each files ps texts r)
