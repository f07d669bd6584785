-- Which files are read: one more byte of a path, one more path.
use Rattle.std.proofs.Common.{◌≡◌, ◌∙◌, ◌==◌, ◌≤◌, ◌<◌, ◌+◌, ◌-◌, ℕ, suc, Bool, true, false, not, ◌&&◌, ◌||◌, if◌then◌else◌, List, [], ◌∷◌, ◌++◌, length, refl, sym, ap, arith, take, drop, codes, bytes_eq, slice_index_or}
use Rattle.std.proofs.lemmas.Bool.{true≢false}
use Rattle.std.proofs.lemmas.List.{take_more, drop_all, length-take, length-take-le, drop-append-le, take-append-drop, drop-take, append-nil, append_assoc, append_cancel_right}
use Rattle.std.proofs.lemmas.List.Folds.{list_any-append}
use Rattle.std.specs.List.{list_any, join_with_byte}
use Rattle.pkg_graph.specs.ModuleFiles.Pieces.{elements, all_but_last, last_element, folders, file_name}
use Rattle.pkg_graph.specs.ModuleFiles.Selected.{is_skipped_folder, module_file, module_files_in, is_in_other_module, is_selected, selected_from}
use Rattle.pkg_graph.specs.ModuleFiles.PathLists.{has_path, with_path}
use Rattle.pkg_graph.specs.ModuleFiles.Selection.{AreModuleFolders, are_folders_read, IsFrontRead}
use Rattle.pkg_graph.proofs.ModuleFiles.PathLaws.{are_same, same_path}
use Rattle.pkg_graph.proofs.ModuleFiles.PieceLaws.{Parts, parts, join_elements, folders_slash, name_slash, folders_other, name_other, more, not_slash}

-- ---- the module files around a file

parts_last : (es : List (List ℕ)) → Parts es → es ≡ all_but_last es ++ last_element es ∷ []
parts_last [] p = absurd (cc (p.is))
parts_last (x ∷ []) p = refl
parts_last (x ∷ y ∷ ys) p = ap (λ r. x ∷ r) (parts_last (y ∷ ys) (record { first = y; rest = ys; is = refl }))

folders_name : (xs : List ℕ) → elements xs ≡ folders xs ++ file_name xs ∷ []
folders_name xs = parts_last (elements xs) (parts xs)

files_push : (around fs : List (List ℕ)) (f : List ℕ) → module_files_in around (fs ++ f ∷ []) ≡ module_files_in around fs ++ join_with_byte 47 ((around ++ fs) ++ f ∷ module_file ∷ []) ∷ []
files_push around [] f = ap (λ r. join_with_byte 47 (r ++ f ∷ module_file ∷ []) ∷ []) (sym (append-nil around))
files_push around (g ∷ gs) f = ap (λ r. join_with_byte 47 (around ++ g ∷ module_file ∷ []) ∷ r)
    (files_push (around ++ g ∷ []) gs f ∙ ap (λ r. module_files_in (around ++ g ∷ []) gs ++ join_with_byte 47 (r ++ f ∷ module_file ∷ []) ∷ []) (append_assoc around (g ∷ []) gs))

join_push : (x : List ℕ) (es : List (List ℕ)) (e : List ℕ) → join_with_byte 47 ((x ∷ es) ++ e ∷ []) ≡ join_with_byte 47 (x ∷ es) ++ 47 ∷ e
join_push x [] e = refl
join_push x (y ∷ ys) e = ap (λ r. x ++ 47 ∷ r) (join_push y ys e) ∙ sym (append_assoc x (47 ∷ join_with_byte 47 (y ∷ ys)) (47 ∷ e))

join_parts : (es : List (List ℕ)) (e : List ℕ) → Parts es → join_with_byte 47 (es ++ e ∷ []) ≡ join_with_byte 47 es ++ 47 ∷ e
join_parts [] e p = absurd (cc (p.is))
join_parts (x ∷ es) e p = join_push x es e

file_in : (xs : List ℕ) → join_with_byte 47 (folders xs ++ file_name xs ∷ module_file ∷ []) ≡ xs ++ codes "/go.mod"
file_in xs =
    ap (join_with_byte 47) (sym (append_assoc (folders xs) (file_name xs ∷ []) (module_file ∷ [])) ∙ ap (λ r. r ++ module_file ∷ []) (sym (folders_name xs)))
    ∙ join_parts (elements xs) module_file (parts xs)
    ∙ ap (λ r. r ++ 47 ∷ module_file) (join_elements xs)

-- ---- one byte more

or_none : (a b : Bool) → (a || (b || false)) ≡ (a || b)
or_none true b = refl
or_none false true = refl
or_none false false = refl

skipped_slash : (xs : List ℕ) → list_any is_skipped_folder (folders (xs ++ 47 ∷ [])) ≡ (list_any is_skipped_folder (folders xs) || is_skipped_folder (file_name xs))
skipped_slash xs =
    ap (list_any is_skipped_folder) (folders_slash xs ∙ folders_name xs)
    ∙ list_any-append is_skipped_folder (folders xs) (file_name xs ∷ [])
    ∙ or_none (list_any is_skipped_folder (folders xs)) (is_skipped_folder (file_name xs))

other_slash : (paths : List (List ℕ)) (xs : List ℕ) → is_in_other_module paths (xs ++ 47 ∷ []) ≡ (is_in_other_module paths xs || has_path paths (xs ++ codes "/go.mod"))
other_slash paths xs =
    ap (λ fs. list_any (has_path paths) (module_files_in [] fs)) (folders_slash xs ∙ folders_name xs)
    ∙ ap (list_any (has_path paths)) (files_push [] (folders xs) (file_name xs) ∙ ap (λ m. module_files_in [] (folders xs) ++ m ∷ []) (file_in xs))
    ∙ list_any-append (has_path paths) (module_files_in [] (folders xs)) ((xs ++ codes "/go.mod") ∷ [])
    ∙ or_none (is_in_other_module paths xs) (has_path paths (xs ++ codes "/go.mod"))

both : (a b c d : Bool) → (not (a || b) && not (c || d)) ≡ ((not a && not c) && (not b && not d))
both true b c d = refl
both false true true d = refl
both false true false d = refl
both false false true d = refl
both false false false d = refl

pub read_slash : (paths : List (List ℕ)) (xs : List ℕ) → are_folders_read paths (xs ++ 47 ∷ []) ≡ (are_folders_read paths xs && (not (is_skipped_folder (file_name xs)) && not (has_path paths (xs ++ codes "/go.mod"))))
read_slash paths xs = rw (skipped_slash xs, other_slash paths xs) (both (list_any is_skipped_folder (folders xs)) (is_skipped_folder (file_name xs)) (is_in_other_module paths xs) (has_path paths (xs ++ codes "/go.mod")))

pub read_other : (paths : List (List ℕ)) (xs : List ℕ) (b : ℕ) → (b == 47) ≡ false → are_folders_read paths (xs ++ b ∷ []) ≡ are_folders_read paths xs
read_other paths xs b h = ap (λ fs. not (list_any is_skipped_folder fs) && not (list_any (has_path paths) (module_files_in [] fs))) (folders_other xs b h)

-- what isn't read stays so with more bytes
out_by : (paths : List (List ℕ)) (xs : List ℕ) (b : ℕ) (t : Bool) → (b == 47) ≡ t → are_folders_read paths xs ≡ false → are_folders_read paths (xs ++ b ∷ []) ≡ false
out_by paths xs b true e h =
    let is : b ≡ 47 = grind (arith, e) in
    ap (λ n. are_folders_read paths (xs ++ n ∷ [])) is ∙ read_slash paths xs ∙ ap (λ r. r && (not (is_skipped_folder (file_name xs)) && not (has_path paths (xs ++ codes "/go.mod")))) h
out_by paths xs b false e h = read_other paths xs b e ∙ h

pub stays_out : (paths : List (List ℕ)) (xs ys : List ℕ) → are_folders_read paths xs ≡ false → are_folders_read paths (xs ++ ys) ≡ false
stays_out paths xs [] h = ap (are_folders_read paths) (append-nil xs) ∙ h
stays_out paths xs (y ∷ ys) h = ap (are_folders_read paths) (sym (append_assoc xs (y ∷ []) ys)) ∙ stays_out paths (xs ++ y ∷ []) ys (out_by paths xs y (y == 47) refl h)

all_out : (paths : List (List ℕ)) (path : List ℕ) (i : ℕ) → are_folders_read paths (take i path) ≡ false → are_folders_read paths path ≡ false
all_out paths path i h = sym (ap (are_folders_read paths) (take-append-drop i path)) ∙ stays_out paths (take i path) (drop i path) h

-- ---- the front of a path

pub between : (path : List ℕ) (i start : ℕ) → start ≤ i → take (i - start) (drop start path) ≡ drop start (take i path)
between path i start h = sym (drop-take start (i - start) path) ∙ ap (λ k. drop start (take k path)) (whole i start h)
  where
    whole : (i start : ℕ) → start ≤ i → start + (i - start) ≡ i
    whole i start h = omega (arith, h)

module _ (modules : List (List ℕ)) (path : List ℕ) (i start : ℕ) (h : i < length path) where
  one_folder : (name : List ℕ) → slice_index_or path i 0 ≡ 47 → IsFrontRead modules path i start → name ≡ file_name (take i path) → (paths : List (List ℕ)) → AreModuleFolders paths modules
      → are_folders_read paths (take (i + 1) path) ≡ (are_folders_read paths (take i path) && (not (is_skipped_folder name) && not (has_path modules (take i path))))
  one_folder name e f n paths a =
      ap (are_folders_read paths) (more path i 47 h e)
      ∙ read_slash paths (take i path)
      ∙ rw (n, a (take i path)) refl

  pub front_slash : (name : List ℕ) → slice_index_or path i 0 ≡ 47 → IsFrontRead modules path i start → name ≡ drop start (take i path) → (not (is_skipped_folder name) && not (has_path modules (take i path))) ≡ true → IsFrontRead modules path (i + 1) (i + 1)
  front_slash name e f n t = record {
    start_in = omega arith;
    name = drop_all (i + 1) (take (i + 1) path) (rw (length-take (i + 1) path) (omega arith)) ∙ sym (ap file_name (more path i 47 h e) ∙ name_slash (take i path));
    read = λ paths a. one_folder name e f (n ∙ f.name) paths a ∙ rw (f.read paths a, t) refl;
  }

  pub front_out : (name : List ℕ) → slice_index_or path i 0 ≡ 47 → IsFrontRead modules path i start → name ≡ drop start (take i path) → (not (is_skipped_folder name) && not (has_path modules (take i path))) ≡ false
      → (paths : List (List ℕ)) → AreModuleFolders paths modules → false ≡ are_folders_read paths path
  front_out name e f n t paths a = sym (all_out paths path (i + 1) (one_folder name e f (n ∙ f.name) paths a ∙ rw (f.read paths a, t) refl))

  pub front_other : (slice_index_or path i 0 ≡ 47 → ⊥) → IsFrontRead modules path i start → IsFrontRead modules path (i + 1) start
  front_other g f =
      let b = slice_index_or path i 0 in
      let other = not_slash b g in
      let m = more path i b h refl in
      let size : length (take i path) ≡ i = length-take-le i path (omega (arith, h)) in
      record {
        start_in = omega (arith, f.start_in);
        name = ap (drop start) m ∙ drop-append-le start (take i path) (b ∷ []) (rw size f.start_in) ∙ ap (λ n. n ++ b ∷ []) f.name ∙ sym (ap file_name m ∙ name_other (take i path) b other);
        read = λ paths a. ap (are_folders_read paths) m ∙ read_other paths (take i path) b other ∙ f.read paths a;
      }

-- ---- one path more

same_ends_by : (q f s : List ℕ) (t u : Bool) → bytes_eq (q ++ s) (f ++ s) ≡ t → bytes_eq q f ≡ u → t ≡ u
same_ends_by q f s true true e h = refl
same_ends_by q f s false false e h = refl
same_ends_by q f s true false e h = absurd (true≢false (sym (ap (bytes_eq q) (sym (append_cancel_right q f s (are_same (q ++ s) (f ++ s) e))) ∙ same_path q) ∙ h))
same_ends_by q f s false true e h = absurd (true≢false (sym (ap (λ r. bytes_eq (q ++ s) (r ++ s)) (sym (are_same q f h)) ∙ same_path (q ++ s)) ∙ e))

same_ends : (q f s : List ℕ) → bytes_eq (q ++ s) (f ++ s) ≡ bytes_eq q f
same_ends q f s = same_ends_by q f s (bytes_eq (q ++ s) (f ++ s)) (bytes_eq q f) refl refl

has_push : (paths : List (List ℕ)) (p q : List ℕ) → has_path (paths ++ p ∷ []) q ≡ (has_path paths q || bytes_eq q p)
has_push paths p q = list_any-append (bytes_eq q) paths (p ∷ []) ∙ or_false (has_path paths q) (bytes_eq q p)
  where
    or_false : (a b : Bool) → (a || (b || false)) ≡ (a || b)
    or_false = or_none

has_with_by : (paths : List (List ℕ)) (p q : List ℕ) (t u : Bool) → has_path paths p ≡ t → bytes_eq q p ≡ u → has_path (if t then paths else paths ++ p ∷ []) q ≡ (has_path paths q || bytes_eq q p)
has_with_by paths p q true true h e = ap (has_path paths) (are_same q p e) ∙ h ∙ sym (ap (λ r. r || bytes_eq q p) (ap (has_path paths) (are_same q p e) ∙ h))
has_with_by paths p q true false h e = rw e (sym (or_false (has_path paths q)))
  where
    or_false : (a : Bool) → (a || false) ≡ a
    or_false true = refl
    or_false false = refl
has_with_by paths p q false u h e = has_push paths p q

has_with : (paths : List (List ℕ)) (p q : List ℕ) → has_path (with_path paths p) q ≡ (has_path paths q || bytes_eq q p)
has_with paths p q = has_with_by paths p q (has_path paths p) (bytes_eq q p) refl refl

no_end_by : (q p s : List ℕ) (t : Bool) → bytes_eq (q ++ s) p ≡ t → ((front : List ℕ) → p ≡ front ++ s → ⊥) → t ≡ false
no_end_by q p s true e f = absurd (f q (sym (are_same (q ++ s) p e)))
no_end_by q p s false e f = refl

module _ (paths more_paths modules : List (List ℕ)) (p : List ℕ) (is : more_paths ≡ paths ++ p ∷ []) where
  pub folder_more : (f : List ℕ) (new : List (List ℕ)) → p ≡ f ++ codes "/go.mod" → AreModuleFolders paths modules → new ≡ with_path modules f → AreModuleFolders more_paths new
  folder_more f new e a n q =
      ap (λ r. has_path r q) n
      ∙ has_with modules f q
      ∙ rw (a q) (ap (λ r. has_path paths (q ++ codes "/go.mod") || r) (sym (ap (bytes_eq (q ++ codes "/go.mod")) e ∙ same_ends q f (codes "/go.mod"))))
      ∙ sym (ap (λ r. has_path r (q ++ codes "/go.mod")) is ∙ has_push paths p (q ++ codes "/go.mod"))

  pub folder_same : ((front : List ℕ) → p ≡ front ++ codes "/go.mod" → ⊥) → AreModuleFolders paths modules → AreModuleFolders more_paths modules
  folder_same f a q =
      a q
      ∙ or_no (has_path paths (q ++ codes "/go.mod")) (bytes_eq (q ++ codes "/go.mod") p) (no_end_by q p (codes "/go.mod") (bytes_eq (q ++ codes "/go.mod") p) refl f)
      ∙ sym (ap (λ r. has_path r (q ++ codes "/go.mod")) is ∙ has_push paths p (q ++ codes "/go.mod"))
    where
      or_no : (a b : Bool) → b ≡ false → a ≡ (a || b)
      or_no true b e = refl
      or_no false b e = sym e

-- ---- one number more

plus_zero : (k : ℕ) → k + 0 ≡ k
plus_zero k = omega arith

zero_plus : (k : ℕ) → 0 + k ≡ k
zero_plus k = omega arith

plus_suc : (k n : ℕ) → suc k + n ≡ k + suc n
plus_suc k n = omega arith

selected_by : (all : List (List ℕ)) (k n : ℕ) (p : List ℕ) (rest more_rest : List ℕ) (t u : Bool) → more_rest ≡ rest ++ (if u then (suc k + n) ∷ [] else []) → (if t then k ∷ more_rest else more_rest) ≡ (if t then k ∷ rest else rest) ++ (if u then (k + suc n) ∷ [] else [])
selected_by all k n p rest more_rest true u e = ap (λ r. k ∷ r) (e ∙ ap (λ m. rest ++ (if u then m ∷ [] else [])) (plus_suc k n))
selected_by all k n p rest more_rest false u e = e ∙ ap (λ m. rest ++ (if u then m ∷ [] else [])) (plus_suc k n)

pub selected_push : (all : List (List ℕ)) (k : ℕ) (ps : List (List ℕ)) (p : List ℕ) → selected_from all k (ps ++ p ∷ []) ≡ selected_from all k ps ++ (if is_selected all p then (k + length ps) ∷ [] else [])
selected_push all k [] p = ap (λ m. if is_selected all p then m ∷ [] else []) (sym (plus_zero k))
selected_push all k (x ∷ xs) p = selected_by all k (length xs) p (selected_from all (suc k) xs) (selected_from all (suc k) (xs ++ p ∷ [])) (is_selected all x) (is_selected all p) (selected_push all (suc k) xs p)

module _ (all : List (List ℕ)) (i : ℕ) (p : List ℕ) (h : i < length all) (is : p ≡ slice_index_or all i p) where
  number_more : (t : Bool) → is_selected all p ≡ t → selected_from all 0 (take (i + 1) all) ≡ selected_from all 0 (take i all) ++ (if t then i ∷ [] else [])
  number_more t e =
      ap (selected_from all 0) (take_more all i p h ∙ ap (λ r. take i all ++ r ∷ []) (sym is))
      ∙ selected_push all 0 (take i all) p
      ∙ rw (e, length-take-le i all (omega (arith, h))) (ap (λ m. selected_from all 0 (take i all) ++ (if t then m ∷ [] else [])) (zero_plus i))

  pub number_in : (numbers new : List ℕ) → true ≡ is_selected all p → numbers ≡ selected_from all 0 (take i all) → new ≡ numbers ++ i ∷ [] → new ≡ selected_from all 0 (take (i + 1) all)
  number_in numbers new e a n = n ∙ ap (λ r. r ++ i ∷ []) a ∙ sym (number_more true (sym e))

  pub number_out : (numbers : List ℕ) → false ≡ is_selected all p → numbers ≡ selected_from all 0 (take i all) → numbers ≡ selected_from all 0 (take (i + 1) all)
  number_out numbers e a = a ∙ sym (append-nil (selected_from all 0 (take i all))) ∙ sym (number_more false (sym e))
