-- Texts of files by their paths.
use Rattle.std.proofs.Common.{◌≡◌, ◌∙◌, ◌<◌, ℕ, zero, suc, Bool, true, false, cond, List, [], ◌∷◌, Option, Some, None, refl, sym, ap, subst, length, map, get_or, bytes_eq}
use Rattle.std.specs.Option.{option_map}
use Rattle.std.proofs.lemmas.List.{length-map}
use Rattle.pkg_graph.specs.ModuleFiles.PathLists.{number_of}
use Rattle.pkg_graph.proofs.ImportOrder.NumberLaws.{number_at}
use Rattle.go_tree.specs.declared.spans.Span.{Span}
use Rattle.go_tree.specs.declared.scope_names.names.FileNames.{FileNames}
use Rattle.pkg_graph.specs.Package.{SourceTree, Package}
use Rattle.pkg_graph.specs.Members.{names_of_file}
use Rattle.directive_scan.specs.Marked.{good_marks, bad_marks}
use Rattle.run_rules.specs.Texts.{FileText}
use Rattle.directive_scan.specs.declared.mark_types.BadMark.{BadMark}
use Rattle.run_rules.specs.Marks.{BadAt, text_at, marks_by_number, file_marks, files_marks, file_bad, files_bad}
use Rattle.module_texts.specs.declared.files.ScannedFile.{ScannedFile}
use Rattle.module_marks.specs.Views.{file_text, texts_of}

abbrev paths : List ScannedFile → List (List ℕ)
paths fs = map (λ s. s.file.now.path) fs

-- the number of a path is that of a file
pub file_within : (fs : List ScannedFile) (q : List ℕ) (k : ℕ) → number_of (paths fs) q ≡ Some k → k < length fs
file_within fs q k e = subst (λ n. k < n) (length-map fs (λ s. s.file.now.path)) (number_at (paths fs) q k e).0

-- the file with the path has the text
pub text_found :
    (fs : List ScannedFile) (q : List ℕ) (k : ℕ) (d : ScannedFile) → number_of (paths fs) q ≡ Some k
    → text_at q (texts_of fs) ≡ Some (file_text (get_or fs k d))
text_found [] q k d e = absurd cc
text_found (s ∷ fs) q k d e = by (bytes_eq q s.file.now.path) k e (λ j. text_found fs q j d)
  where
    behind :
        (k : ℕ) (o : Option ℕ) → number_of (paths fs) q ≡ o → option_map suc o ≡ Some k
        → ((j : ℕ) → number_of (paths fs) q ≡ Some j → text_at q (texts_of fs) ≡ Some (file_text (get_or fs j d)))
        → text_at q (texts_of fs) ≡ Some (file_text (get_or (s ∷ fs) k d))
    behind k None f g further = absurd cc
    behind zero (Some j) f g further = absurd cc
    behind (suc k) (Some j) f g further = let same : j ≡ k = cc in further k (f ∙ ap Some same)

    by :
        (t : Bool) (k : ℕ) → cond t (Some 0) (option_map suc (number_of (paths fs) q)) ≡ Some k
        → ((j : ℕ) → number_of (paths fs) q ≡ Some j → text_at q (texts_of fs) ≡ Some (file_text (get_or fs j d)))
        → cond t (Some (file_text s)) (text_at q (texts_of fs)) ≡ Some (file_text (get_or (s ∷ fs) k d))
    by true zero f further = refl
    by true (suc k) f further = absurd cc
    by false k f further = behind k (number_of (paths fs) q) refl f further

-- no file has the path
pub text_absent : (fs : List ScannedFile) (q : List ℕ) → number_of (paths fs) q ≡ None → text_at q (texts_of fs) ≡ None
text_absent [] q e = refl
text_absent (s ∷ fs) q e = by (bytes_eq q s.file.now.path) e (text_absent fs q)
  where
    behind :
        (o : Option ℕ) → number_of (paths fs) q ≡ o → option_map suc o ≡ None
        → (number_of (paths fs) q ≡ None → text_at q (texts_of fs) ≡ None) → text_at q (texts_of fs) ≡ None
    behind None f g further = further f
    behind (Some j) f g further = absurd cc

    by :
        (t : Bool) → cond t (Some 0) (option_map suc (number_of (paths fs) q)) ≡ None
        → (number_of (paths fs) q ≡ None → text_at q (texts_of fs) ≡ None)
        → cond t (Some (file_text s)) (text_at q (texts_of fs)) ≡ None
    by true f further = absurd cc
    by false f further = behind (number_of (paths fs) q) refl f further

-- ---- marks of a file by its text

-- bad marks with a path
abbrev pub at_path : List ℕ → List BadMark → List BadAt
at_path path bs = map (λ b. (path, b)) bs

module _ (ps : List (Package Span)) (texts : List (List ℕ × FileText)) (k : ℕ) (p : Package Span) (n : ℕ) (f : SourceTree Span) where
  -- its marks are those of its text
  pub marks_with :
      (t : FileText) (names : FileNames) → Some t ≡ text_at f.path texts → names ≡ names_of_file ps p f.tree
      → marks_by_number k n f.tree (good_marks t.text t.tokens t.comments names f.tree) ≡ file_marks ps texts k p (n, f)
  marks_with t names e i =
      ap (λ x. marks_by_number k n f.tree (good_marks t.text t.tokens t.comments x f.tree)) i
      ∙ by (text_at f.path texts) (sym e)
    where
      by :
          (o : Option FileText) → o ≡ Some t
          → marks_by_number k n f.tree (good_marks t.text t.tokens t.comments (names_of_file ps p f.tree) f.tree)
          ≡ (elim o [
            | None ↦ []
            | Some t ↦ marks_by_number k n f.tree (good_marks t.text t.tokens t.comments (names_of_file ps p f.tree) f.tree)
          ])
      by None h = absurd cc
      by (Some u) h =
          let same : t ≡ u = cc in
          ap (λ t. marks_by_number k n f.tree (good_marks t.text t.tokens t.comments (names_of_file ps p f.tree) f.tree)) same

  -- and so its bad marks
  pub bad_with :
      (t : FileText) (names : FileNames) → Some t ≡ text_at f.path texts → names ≡ names_of_file ps p f.tree
      → at_path f.path (bad_marks t.text t.tokens t.comments names f.tree) ≡ file_bad ps texts p f
  bad_with t names e i =
      ap (λ x. at_path f.path (bad_marks t.text t.tokens t.comments x f.tree)) i
      ∙ by (text_at f.path texts) (sym e)
    where
      by :
          (o : Option FileText) → o ≡ Some t
          → at_path f.path (bad_marks t.text t.tokens t.comments (names_of_file ps p f.tree) f.tree)
          ≡ (elim o [
            | None ↦ []
            | Some t ↦ at_path f.path (bad_marks t.text t.tokens t.comments (names_of_file ps p f.tree) f.tree)
          ])
      by None h = absurd cc
      by (Some u) h =
          let same : t ≡ u = cc in
          ap (λ t. at_path f.path (bad_marks t.text t.tokens t.comments (names_of_file ps p f.tree) f.tree)) same

-- ---- the same packages and texts

module _ (ps qs : List (Package Span)) (texts others : List (List ℕ × FileText)) (e : ps ≡ qs) (f : texts ≡ others) (p : Package Span) where
  pub same_marks : (k : ℕ) (fs : List (ℕ × SourceTree Span)) → files_marks ps texts k p fs ≡ files_marks qs others k p fs
  same_marks k fs = ap (λ x. files_marks x texts k p fs) e ∙ ap (λ x. files_marks qs x k p fs) f

  pub same_bad : (fs : List (SourceTree Span)) → files_bad ps texts p fs ≡ files_bad qs others p fs
  same_bad fs = ap (λ x. files_bad x texts p fs) e ∙ ap (λ x. files_bad qs x p fs) f
