-- The paths of the texts of a module, and of the steps of a run.
use Rattle.std.proofs.Common.{◌≡◌, ◌∙◌, ◌⊎◌, inl, inr, refl, sym, ap, subst, ℕ, Bool, true, false, not, ◌&&◌, if◌then◌else◌, bytes_eq, List, [], ◌∷◌, ◌++◌, map, Some}
use Rattle.std.specs.Prelude.{filter}
use Rattle.std.specs.List.{list_all}
use Rattle.std.proofs.lemmas.Slice.Eq.{bytes_eq-Decides}
use Rattle.pkg_graph.specs.ModuleFiles.Pieces.{comes_before}
use Rattle.pkg_graph.specs.ModuleFiles.Selected.{module_file, is_selected}
use Rattle.pkg_graph.specs.Reads.{Source, is_at, selected_files, go_files}
use Rattle.run_rules.specs.Inlining.{are_by_path, AreScanned, none, file, begins, steps_on}
use Rattle.run_rules.specs.Marks.{text_at}
use Rattle.run_rules.specs.Report.{step_entry, file_of}
use Rattle.run_rules.specs.Run.{Logged, with_text}
use Rattle.run_rules.specs.Texts.{FileText}
use Rattle.report_order.specs.ReportFiles.Files.{ComesFirst, PathsAscend, IsPathIn, EachEntry}
use Rattle.report_order.specs.ReportFiles.Laws.{ReadPathsAscend, StepsLieInFiles}

-- ---- files

both_true : (b c : Bool) → (b && c) ≡ true → (b ≡ true) × (c ≡ true)
both_true true c e = (refl, e)
both_true false c e = absurd cc

abbrev paths : List Source → List (List ℕ)
paths fs = map (λ f. f.path) fs

first_so : (p : List ℕ) (fs : List Source) → list_all (λ g. comes_before p g.path) fs ≡ true → ComesFirst p (paths fs)
first_so p [] e = tt
first_so p (f ∷ fs) e = let b = both_true (comes_before p f.path) (list_all (λ g. comes_before p g.path) fs) e in (b.0, first_so p fs b.1)

ascend_so : (fs : List Source) → are_by_path fs ≡ true → PathsAscend (paths fs)
ascend_so [] e = tt
ascend_so (f ∷ fs) e = let b = both_true (list_all (λ g. comes_before f.path g.path) fs) (are_by_path fs) e in (first_so f.path fs b.0, ascend_so fs b.1)

module _ (chosen : Source → Bool) where
  first_filtered : (p : List ℕ) (fs : List Source) → ComesFirst p (paths fs) → ComesFirst p (paths (filter chosen fs))
  first_filtered p [] h = tt
  first_filtered p (f ∷ fs) h = by (chosen f) (first_filtered p fs h.1)
    where
      by : (b : Bool) → ComesFirst p (paths (filter chosen fs)) → ComesFirst p (paths (if b then f ∷ filter chosen fs else filter chosen fs))
      by true r = (h.0, r)
      by false r = r

  ascend_filtered : (fs : List Source) → PathsAscend (paths fs) → PathsAscend (paths (filter chosen fs))
  ascend_filtered [] h = tt
  ascend_filtered (f ∷ fs) h = by (chosen f) (ascend_filtered fs h.1)
    where
      by : (b : Bool) → PathsAscend (paths (filter chosen fs)) → PathsAscend (paths (if b then f ∷ filter chosen fs else filter chosen fs))
      by true r = (first_filtered f.path fs h.0, r)
      by false r = r

scanned_paths : (fs : List Source) (ts : List (List ℕ × FileText)) → AreScanned fs ts → paths fs ≡ map (λ t. t.0) ts
scanned_paths _ _ none = refl
scanned_paths _ _ (file f t fs ts same scans r) = ap (λ (ps : List (List ℕ)). f.path ∷ ps) (scanned_paths fs ts r)

pub read_paths_ascend : ReadPathsAscend
read_paths_ascend files ps texts m =
    subst PathsAscend (scanned_paths (go_files files) texts m.scanned)
    (ascend_filtered (λ f. not (is_at module_file f)) (selected_files files)
    (ascend_filtered (λ f. is_selected (map (λ g. g.path) files) f.path) files (ascend_so files m.by_path)))

-- ---- steps

path_there : (path : List ℕ) (ts : List (List ℕ × FileText)) (old : FileText) → text_at path ts ≡ Some old → IsPathIn (map (λ t. t.0) ts) path
path_there path [] old e = absurd cc
path_there path (t ∷ ts) old e = by (bytes_eq path t.0) refl (λ q. path_there path ts old q) e
  where
    by : (b : Bool) → bytes_eq path t.0 ≡ b → (text_at path ts ≡ Some old → IsPathIn (map (λ t. t.0) ts) path) → (if b then Some t.1 else text_at path ts) ≡ Some old → (path ≡ t.0) ⊎ IsPathIn (map (λ t. t.0) ts) path
    by true q r e = inl ((bytes_eq-Decides path t.0).0 q)
    by false q r e = inr (r e)

paths_kept : (path : List ℕ) (new : FileText) (ts : List (List ℕ × FileText)) → map (λ t. t.0) (with_text path new ts) ≡ map (λ t. t.0) ts
paths_kept path new [] = refl
paths_kept path new (t ∷ ts) = λ w. its_path (bytes_eq path t.0) w ∷ paths_kept path new ts w
  where
    first_of : List ℕ × FileText → List ℕ
    first_of u = u.0

    its_path : (b : Bool) → first_of (if b then (t.0, new) else t) ≡ t.0
    its_path true = refl
    its_path false = refl

pub steps_in_files : StepsLieInFiles
steps_in_files marks m files done _ st _ (begins _ _) = tt
steps_in_files marks m files done _ st last (steps_on _ log l _ mid _ n p rest) = (
  subst (λ (v : List ℕ). IsPathIn (map (λ t. t.0) st.texts) v) (ap (λ (r : Logged). r.file) (sym n.log_is)) (path_there n.found.site.at.source.path st.texts n.old n.stands),
  subst (λ (vs : List (List ℕ)). EachEntry (λ e. IsPathIn vs (file_of e)) (map step_entry log))
      (ap (λ (ts : List (List ℕ × FileText)). map (λ t. t.0) ts) n.texts_are ∙ paths_kept n.found.site.at.source.path n.new st.texts)
      (steps_in_files marks m files (done ++ l ∷ []) log mid last rest),
)
