-- Files of a folder with another text for the file of one path: the same files are read, and read with that text.
use Rattle.std.proofs.Common.{◌≡◌, ◌≢◌, refl, sym, ◌∙◌, ap, subst, ℕ, zero, suc, Bool, true, false, not, cond, ◌&&◌, List, [], ◌∷◌, map, filter, find, Option, Some, None, if◌then◌else◌}
use Rattle.std.specs.Prelude.{bytes_eq, slice_get}
use Rattle.std.specs.List.{list_all}
use Rattle.std.proofs.lemmas.Option.{same_Some}
use Rattle.std.proofs.lemmas.Slice.Eq.{bytes_eq-Decides}
use Rattle.go_tree.specs.declared.spans.Span.{Span}
use Rattle.go_tree.specs.File.{File}
use Rattle.go_tree.specs.GoWords.Tokens.{TokensOf}
use Rattle.pkg_graph.proofs.ImportOrder.OpenLaws.{never_before_itself}
use Rattle.pkg_graph.specs.ModuleFiles.Pieces.{comes_before}
use Rattle.pkg_graph.specs.ModuleFiles.Selected.{is_selected, module_file}
use Rattle.pkg_graph.specs.Package.{SourceTree, Package}
use Rattle.pkg_graph.specs.Reads.{Source, is_at, selected_files, go_files, AreTrees}
use Rattle.pkg_graph.specs.Reads as trees
use Rattle.run_rules.specs.Inlining.{IsSourceFile, are_by_path, AreScanned, none, file, ModuleReads}
use Rattle.run_rules.specs.Marks.{text_at}
use Rattle.run_rules.specs.Run.{with_text}
use Rattle.run_rules.specs.Texts.{FileText}
use Rattle.splice_laws.proofs.RunLaws.PathsOwn.{same_path}
use Rattle.splice_laws.proofs.RunLaws.RunsRead.{texts_new, texts_other}
use Rattle.printed_constants.specs.InlinedFiles.Files.{file_after, files_after}
use Rattle.printed_constants.proofs.InlinedFiles.Trees.{kept_was, tree_if, with_tree}

pub differ_by : (a b : List ℕ) → bytes_eq a b ≡ false → a ≢ b
differ_by a b e s = let c : true ≡ false = sym ((bytes_eq-Decides a b).1 s) ∙ e in cc

-- the file as it was, or with its text
abbrev pub after_of : Source → Option FileText → Source
after_of f o = elim o [ None ↦ f | Some t ↦ record { path = f.path; text = t.text } ]

pub after_path : (f : Source) (o : Option FileText) → (after_of f o).path ≡ f.path
after_path f None = refl
after_path f (Some t) = refl

-- ---- another text for the file of a path

module _ (path : List ℕ) (new : FileText) where
  -- the file with the text, where it is that of the path
  abbrev text_if : Bool → Source → Source
  text_if true f = record { path = f.path; text = new.text }
  text_if false f = f

  abbrev pub with_source : Source → Source
  with_source f = text_if (bytes_eq path f.path) f

  source_path : (f : Source) → (with_source f).path ≡ f.path
  source_path f = by (bytes_eq path f.path)
    where
      by : (b : Bool) → (text_if b f).path ≡ f.path
      by true = refl
      by false = refl

  paths_same : (fs : List Source) → map (λ g. g.path) (map with_source fs) ≡ map (λ g. g.path) fs
  paths_same [] = refl
  paths_same (f ∷ fs) = λ z. source_path f z ∷ paths_same fs z

  -- ---- what is read

  behind_same : (p : List ℕ) (fs : List Source) → list_all (λ g. comes_before p g.path) (map with_source fs) ≡ list_all (λ g. comes_before p g.path) fs
  behind_same p [] = refl
  behind_same p (f ∷ fs) = λ z. comes_before p (source_path f z) && behind_same p fs z

  pub by_path_same : (fs : List Source) → are_by_path (map with_source fs) ≡ are_by_path fs
  by_path_same [] = refl
  by_path_same (f ∷ fs) =
      (λ z. list_all (λ g. comes_before (source_path f z) g.path) (map with_source fs) && by_path_same fs z)
      ∙ (λ z. behind_same f.path fs z && are_by_path fs)

  filtered : (q : List ℕ → Bool) (fs : List Source) → filter (λ f. q f.path) (map with_source fs) ≡ map with_source (filter (λ f. q f.path) fs)
  filtered q [] = refl
  filtered q (f ∷ fs) = (λ z. cond (q (source_path f z)) (with_source f ∷ filtered q fs z) (filtered q fs z)) ∙ by (q f.path)
    where
      by : (b : Bool) → cond b (with_source f ∷ map with_source (filter (λ g. q g.path) fs)) (map with_source (filter (λ g. q g.path) fs)) ≡ map with_source (cond b (f ∷ filter (λ g. q g.path) fs) (filter (λ g. q g.path) fs))
      by true = refl
      by false = refl

  pub go_files_same : (fs : List Source) → go_files (map with_source fs) ≡ map with_source (go_files fs)
  go_files_same fs =
      (λ z. filter (λ f. not (is_at module_file f)) (filter (λ f. is_selected (paths_same fs z) f.path) (map with_source fs)))
      ∙ ap (filter (λ f. not (is_at module_file f))) (filtered (is_selected (map (λ g. g.path) fs)) fs)
      ∙ filtered (λ p. not (bytes_eq p module_file)) (selected_files fs)

  pub module_file_same : bytes_eq path module_file ≡ false → (fs : List Source) → find (is_at module_file) (map with_source fs) ≡ find (is_at module_file) fs
  module_file_same other [] = refl
  module_file_same other (f ∷ fs) = by (bytes_eq path f.path) refl (module_file_same other fs)
    where
      by : (b : Bool) → bytes_eq path f.path ≡ b → find (is_at module_file) (map with_source fs) ≡ find (is_at module_file) fs
          → cond (bytes_eq (text_if b f).path module_file) (Some (text_if b f)) (find (is_at module_file) (map with_source fs)) ≡ cond (bytes_eq f.path module_file) (Some f) (find (is_at module_file) fs)
      by true e r =
          let o : bytes_eq f.path module_file ≡ false = subst (λ (p : List ℕ). bytes_eq p module_file ≡ false) (same_path path f.path e) other in
          (λ z. cond (o z) (Some (text_if true f)) (r z)) ∙ sym (λ z. cond (o z) (Some f) (find (is_at module_file) fs))
      by false e r = λ z. cond (bytes_eq f.path module_file) (Some f) (r z)

  pub scanned_after : TokensOf new.text new.tokens new.comments → {fs : List Source} {ts : List (List ℕ × FileText)} → AreScanned fs ts → AreScanned (map with_source fs) (with_text path new ts)
  scanned_after tokens none = none
  scanned_after tokens (file f t fs ts same scans r) = by (bytes_eq path f.path) (scanned_after tokens r)
    where
      by : (b : Bool) → AreScanned (map with_source fs) (with_text path new ts) → AreScanned (text_if b f ∷ map with_source fs) ((if b then (f.path, new) else (f.path, t)) ∷ with_text path new ts)
      by true r = file (record { path = f.path; text = new.text }) new (map with_source fs) (with_text path new ts) refl tokens r
      by false r = file f t (map with_source fs) (with_text path new ts) same scans r

  pub trees_after : (tree : File Span) → IsSourceFile new.text tree → {fs : List Source} {xs : List (SourceTree Span)} → AreTrees IsSourceFile fs xs → AreTrees IsSourceFile (map with_source fs) (map (with_tree path tree) xs)
  trees_after tree reads trees.none = trees.none
  trees_after tree reads (trees.file f t fs xs s r) = by (bytes_eq path f.path) (trees_after tree reads r)
    where
      by : (b : Bool) → AreTrees IsSourceFile (map with_source fs) (map (with_tree path tree) xs) → AreTrees IsSourceFile (text_if b f ∷ map with_source fs) (tree_if path tree b (record { path = f.path; tree = t }) ∷ map (with_tree path tree) xs)
      by true r = trees.file (record { path = f.path; text = new.text }) tree (map with_source fs) (map (with_tree path tree) xs) reads r
      by false r = trees.file f t (map with_source fs) (map (with_tree path tree) xs) s r

  -- ---- with the texts of a program

  module _ (old : FileText) (ts : List (List ℕ × FileText)) (there : text_at path ts ≡ Some old) where
    file_then : (f : Source) → file_after (with_text path new ts) f ≡ with_source (file_after ts f)
    file_then f = by (bytes_eq path f.path) refl ∙ sym (λ z. text_if (bytes_eq path (after_path f (text_at f.path ts) z)) (file_after ts f))
      where
        now : bytes_eq path f.path ≡ true → text_at f.path (with_text path new ts) ≡ Some new
        now e = subst (λ (p : List ℕ). text_at p (with_text path new ts) ≡ Some new) (same_path path f.path e) (texts_new path old new ts there)

        by : (b : Bool) → bytes_eq path f.path ≡ b → file_after (with_text path new ts) f ≡ text_if b (file_after ts f)
        by true e = (λ z. after_of f (now e z)) ∙ sym (λ z. record { path = after_path f (text_at f.path ts) z; text = new.text })
        by false e = λ z. after_of f (texts_other path f.path new ts (differ_by path f.path e) z)

    pub files_then : (fs : List Source) → files_after fs (with_text path new ts) ≡ map with_source (files_after fs ts)
    files_then [] = refl
    files_then (f ∷ fs) = λ z. file_then f z ∷ files_then fs z

-- ---- the files of a module that reads

-- the file of a text
text_source : {fs : List Source} {ts : List (List ℕ × FileText)} → AreScanned fs ts → (p : List ℕ) (t : FileText) → text_at p ts ≡ Some t
    → (k : ℕ) × (f : Source) × (slice_get fs k ≡ Some f) × (f.path ≡ p) × (t.text ≡ f.text)
text_source none p t e = cc
text_source (file f u fs ts same scans r) p t e = by (bytes_eq p f.path) refl e (text_source r p t)
  where
    by : (b : Bool) → bytes_eq p f.path ≡ b → (if b then Some u else text_at p ts) ≡ Some t
        → (text_at p ts ≡ Some t → (k : ℕ) × (g : Source) × (slice_get fs k ≡ Some g) × (g.path ≡ p) × (t.text ≡ g.text))
        → (k : ℕ) × (g : Source) × (slice_get (f ∷ fs) k ≡ Some g) × (g.path ≡ p) × (t.text ≡ g.text)
    by true g h more = (zero, f, refl, sym (same_path p f.path g), ap (λ (x : FileText). x.text) (sym (same_Some u t h)) ∙ same)
    by false g h more = let w = more h in (suc w.0, w.1, w.2, w.3, w.4)

both : (a b : Bool) → (a && b) ≡ true → (a ≡ true) × (b ≡ true)
both true b e = (refl, e)
both false b e = cc

all_get : {A : Type 0} (p : A → Bool) (xs : List A) (i : ℕ) (x : A) → slice_get xs i ≡ Some x → list_all p xs ≡ true → p x ≡ true
all_get p [] i x e h = cc
all_get p (y ∷ ys) zero x e h = subst (λ z. p z ≡ true) (same_Some y x e) (both (p y) (list_all p ys) h).0
all_get p (y ∷ ys) (suc i) x e h = all_get p ys i x e (both (p y) (list_all p ys) h).1

never_behind : (x y : Source) (fs : List Source) (i : ℕ) → list_all (λ g. comes_before x.path g.path) fs ≡ true → slice_get fs i ≡ Some y → x.path ≡ y.path → ⊥
never_behind x y fs i h e same =
    never_before_itself y.path (subst (λ (p : List ℕ). comes_before p y.path ≡ true) same (all_get (λ (g : Source). comes_before x.path g.path) fs i y e h))

-- each path is that of one file
one_source : (fs : List Source) → are_by_path fs ≡ true → (i j : ℕ) (x y : Source) → slice_get fs i ≡ Some x → slice_get fs j ≡ Some y → x.path ≡ y.path → x ≡ y
one_source [] h i j x y e f same = cc
one_source (g ∷ gs) h i j x y e f same = by i j e f (both (list_all (λ z. comes_before g.path z.path) gs) (are_by_path gs) h) (one_source gs)
  where
    by : (i j : ℕ) → slice_get (g ∷ gs) i ≡ Some x → slice_get (g ∷ gs) j ≡ Some y → (list_all (λ z. comes_before g.path z.path) gs ≡ true) × (are_by_path gs ≡ true)
        → (are_by_path gs ≡ true → (i j : ℕ) (x y : Source) → slice_get gs i ≡ Some x → slice_get gs j ≡ Some y → x.path ≡ y.path → x ≡ y) → x ≡ y
    by zero zero e f two r = sym (same_Some g x e) ∙ same_Some g y f
    by zero (suc j) e f two r = absurd (never_behind g y gs j two.0 f (ap (λ (z : Source). z.path) (same_Some g x e) ∙ same))
    by (suc i) zero e f two r = absurd (never_behind g x gs i two.0 e (ap (λ (z : Source). z.path) (same_Some g y f) ∙ sym same))
    by (suc i) (suc j) e f two r = r two.1 i j x y e f same

pub map_alike : {A : Type 0} (g : A → A) (xs : List A) → ((i : ℕ) (x : A) → slice_get xs i ≡ Some x → g x ≡ x) → map g xs ≡ xs
map_alike g [] h = refl
map_alike g (x ∷ xs) h = λ z. h zero x refl z ∷ map_alike g xs (λ i y e. h (suc i) y e) z

-- a Go file that is read is one of the files, other than `go.mod`
pub go_file_was : (files : List Source) (k : ℕ) (f : Source) → slice_get (go_files files) k ≡ Some f → (i : ℕ) × (slice_get files i ≡ Some f) × (bytes_eq f.path module_file ≡ false)
go_file_was files k f e =
    let a = kept_was (λ (g : Source). not (is_at module_file g)) (selected_files files) k f e in
    let b = kept_was (λ (g : Source). is_selected (map (λ h. h.path) files) g.path) files a.0 f a.1 in
    (b.0, b.1, by (bytes_eq f.path module_file) a.2)
  where
    by : (c : Bool) → not c ≡ true → c ≡ false
    by true e = cc
    by false e = refl

module _ (files : List Source) (ps : List (Package Span)) (texts : List (List ℕ × FileText)) (r : ModuleReads files ps texts) where
  -- each file has its text
  pub file_stays : (i : ℕ) (f : Source) → slice_get files i ≡ Some f → file_after texts f ≡ f
  file_stays i f e = by (text_at f.path texts) refl
    where
      by : (o : Option FileText) → text_at f.path texts ≡ o → after_of f o ≡ f
      by None g = refl
      by (Some t) g =
          let s = text_source r.scanned f.path t g in
          let w = go_file_was files s.0 s.1 s.2 in
          let same : s.1 ≡ f = one_source files r.by_path w.0 i s.1 f w.1 e s.3 in
          λ z. record { path = f.path; text = (s.4 ∙ ap (λ (x : Source). x.text) same) z }

  pub files_stay : files_after files texts ≡ files
  files_stay = map_alike (file_after texts) files file_stays

  -- the path of a text isn't `go.mod`
  pub text_elsewhere : (p : List ℕ) (t : FileText) → text_at p texts ≡ Some t → bytes_eq p module_file ≡ false
  text_elsewhere p t e =
      let s = text_source r.scanned p t e in
      let w = go_file_was files s.0 s.1 s.2 in subst (λ (q : List ℕ). bytes_eq q module_file ≡ false) s.3 w.2
