-- No two texts of a program have one path, in a module that reads and after its steps.
use Rattle.std.proofs.Common.{◌≡◌, ◌∙◌, refl, ap, subst, ℕ, Bool, true, false, not, ◌&&◌, if◌then◌else◌, bytes_eq, List, [], ◌∷◌, map, filter}
use Rattle.std.specs.List.{list_all}
use Rattle.std.proofs.lemmas.Bool.{and_parts, and_from}
use Rattle.std.proofs.lemmas.Slice.Eq.{bytes_eq-Decides}
use Rattle.pkg_graph.specs.ModuleFiles.Pieces.{comes_before}
use Rattle.pkg_graph.specs.ModuleFiles.Selected.{is_selected, module_file}
use Rattle.pkg_graph.proofs.ImportOrder.OpenLaws.{never_before_itself}
use Rattle.pkg_graph.specs.Reads.{Source, is_at, selected_files}
use Rattle.run_rules.specs.Texts.{FileText}
use Rattle.run_rules.specs.Run.{with_text, ends, goes_on}
use Rattle.run_rules.specs.Inlining.{are_by_path, AreScanned, none, file}
use Rattle.run_by_steps.specs.RunProgress.Laws.{is_no_path, are_paths_apart, ReadPathsAreApart, StepsKeepPathsApart, RunsKeepPathsApart}

-- ---- files in the order of their paths

abbrev comes_first : Source → List Source → Bool
comes_first f fs = list_all (λ g. comes_before f.path g.path) fs

first_kept : (q : Source → Bool) (f : Source) (fs : List Source) → comes_first f fs ≡ true → comes_first f (filter q fs) ≡ true
first_kept q f [] h = refl
first_kept q f (g ∷ gs) h = by (q g) (first_kept q f gs two.1)
  where
    two : (comes_before f.path g.path ≡ true) × (comes_first f gs ≡ true)
    two = and_parts (comes_before f.path g.path) (comes_first f gs) h

    by : (b : Bool) → comes_first f (filter q gs) ≡ true → comes_first f (if b then g ∷ filter q gs else filter q gs) ≡ true
    by true r = and_from (comes_before f.path g.path) (comes_first f (filter q gs)) two.0 r
    by false r = r

order_kept : (q : Source → Bool) (fs : List Source) → are_by_path fs ≡ true → are_by_path (filter q fs) ≡ true
order_kept q [] h = refl
order_kept q (f ∷ fs) h = by (q f) (order_kept q fs two.1)
  where
    two : (comes_first f fs ≡ true) × (are_by_path fs ≡ true)
    two = and_parts (comes_first f fs) (are_by_path fs) h

    by : (b : Bool) → are_by_path (filter q fs) ≡ true → are_by_path (if b then f ∷ filter q fs else filter q fs) ≡ true
    by true r = and_from (comes_first f (filter q fs)) (are_by_path (filter q fs)) (first_kept q f fs two.0) r
    by false r = r

other_path : (a b : List ℕ) → comes_before a b ≡ true → not (bytes_eq a b) ≡ true
other_path a b h = by (bytes_eq a b) refl
  where
    by : (c : Bool) → bytes_eq a b ≡ c → not c ≡ true
    by true e = absurd (never_before_itself b (subst (λ (p : List ℕ). comes_before p b ≡ true) ((bytes_eq-Decides a b).0 e) h))
    by false e = refl

no_path : (path : List ℕ) {fs : List Source} {texts : List (List ℕ × FileText)} → AreScanned fs texts → list_all (λ g. comes_before path g.path) fs ≡ true → is_no_path path texts ≡ true
no_path path none h = refl
no_path path (file f t fs ts e s r) h =
    let two = and_parts (comes_before path f.path) (list_all (λ g. comes_before path g.path) fs) h in
    and_from (not (bytes_eq path f.path)) (is_no_path path ts) (other_path path f.path two.0) (no_path path r two.1)

scanned_apart : {fs : List Source} {texts : List (List ℕ × FileText)} → AreScanned fs texts → are_by_path fs ≡ true → are_paths_apart texts ≡ true
scanned_apart none h = refl
scanned_apart (file f t fs ts e s r) h =
    let two = and_parts (comes_first f fs) (are_by_path fs) h in
    and_from (is_no_path f.path ts) (are_paths_apart ts) (no_path f.path r two.0) (scanned_apart r two.1)

pub read_paths_are_apart : ReadPathsAreApart
read_paths_are_apart files ps texts m =
    scanned_apart m.scanned
    (order_kept (λ f. not (is_at module_file f)) (selected_files files) (order_kept (λ f. is_selected (map (λ g. g.path) files) f.path) files m.by_path))

-- ---- steps

none_there : (path other : List ℕ) (new : FileText) (ts : List (List ℕ × FileText)) → is_no_path other (with_text path new ts) ≡ is_no_path other ts
none_there path other new [] = refl
none_there path other new (t ∷ ts) = by (bytes_eq path t.0) (none_there path other new ts)
  where
    by : (b : Bool) → is_no_path other (with_text path new ts) ≡ is_no_path other ts
        → is_no_path other ((if b then (t.0, new) else t) ∷ with_text path new ts) ≡ is_no_path other (t ∷ ts)
    by true r = ap (λ (x : Bool). not (bytes_eq other t.0) && x) r
    by false r = ap (λ (x : Bool). not (bytes_eq other t.0) && x) r

apart_there : (path : List ℕ) (new : FileText) (ts : List (List ℕ × FileText)) → are_paths_apart (with_text path new ts) ≡ are_paths_apart ts
apart_there path new [] = refl
apart_there path new (t ∷ ts) = by (bytes_eq path t.0) (none_there path t.0 new ts) (apart_there path new ts)
  where
    by : (b : Bool) → is_no_path t.0 (with_text path new ts) ≡ is_no_path t.0 ts → are_paths_apart (with_text path new ts) ≡ are_paths_apart ts
        → are_paths_apart ((if b then (t.0, new) else t) ∷ with_text path new ts) ≡ are_paths_apart (t ∷ ts)
    by true e r = ap (λ (x : Bool). x && are_paths_apart (with_text path new ts)) e ∙ ap (λ (x : Bool). is_no_path t.0 ts && x) r
    by false e r = ap (λ (x : Bool). x && are_paths_apart (with_text path new ts)) e ∙ ap (λ (x : Bool). is_no_path t.0 ts && x) r

pub steps_keep_paths_apart : StepsKeepPathsApart
steps_keep_paths_apart marks st l after n h = ap are_paths_apart n.texts_are ∙ apart_there n.found.site.at.source.path n.new st.texts ∙ h

pub runs_keep_paths_apart : RunsKeepPathsApart
runs_keep_paths_apart marks _ _ _ (ends st e) h = h
runs_keep_paths_apart marks _ _ _ (goes_on st next last l log n r) h =
    runs_keep_paths_apart marks next log last r (steps_keep_paths_apart marks st l next n h)
