-- The files that are given to a package are those of its path.
use Rattle.std.proofs.Common.{◌≡◌, ◌∙◌, refl, sym, ap, subst, ℕ, zero, suc, Bool, true, false, nat_eq, List, [], ◌∷◌, map, Some, bytes_eq, eq-eqb}
use Rattle.std.specs.Prelude.{if◌then◌else◌, slice_get}
use Rattle.std.proofs.lemmas.Bool.{eqb-true, true≢false}
use Rattle.std.proofs.lemmas.Option.{get_or_from_slice_get, slice_get_within}
use Rattle.go_tree.specs.declared.spans.Span.{Span}
use Rattle.name_walks.specs.Around.{place_in}
use Rattle.pkg_graph.proofs.ImportOrder.NumberLaws.{number_at, same_number}
use Rattle.pkg_graph.specs.ModuleFiles.Pieces.{folder_of}
use Rattle.pkg_graph.specs.ModuleFiles.PathLists.{number_of, path_at, AreDistinct}
use Rattle.pkg_graph.proofs.ModuleFiles.PathLaws.{same_path, are_same}
use Rattle.pkg_graph.specs.Package.{SourceTree, import_path, home_of, files_of}
use Rattle.module_texts.specs.declared.files.ScannedFile.{ScannedFile}
use Rattle.programs.specs.TextsOfPackages.Given.{home_path, given_to}

-- ---- each is one of all files

given_first : {A : Type 0} (x s : A) (gs ss : List A) (b : Bool) (i : ℕ) → slice_get (if b then x ∷ gs else gs) i ≡ Some s → ((i : ℕ) → slice_get gs i ≡ Some s → (j : ℕ) × (slice_get ss j ≡ Some s))
    → (j : ℕ) × (slice_get (x ∷ ss) j ≡ Some s)
given_first x s gs ss true zero h f = (0, h)
given_first x s gs ss true (suc i) h f = let r = f i h in (suc r.0, r.1)
given_first x s gs ss false i h f = let r = f i h in (suc r.0, r.1)

pub given_among : (k : ℕ) (ns : List ℕ) (ss : List ScannedFile) (i : ℕ) (s : ScannedFile) → slice_get (given_to k ns ss) i ≡ Some s → (j : ℕ) × (slice_get ss j ≡ Some s)
given_among k [] ss i s h = absurd cc
given_among k (n ∷ ns) [] i s h = absurd cc
given_among k (n ∷ ns) (x ∷ ss) i s h = given_first x s (given_to k ns ss) ss (nat_eq n k) i h (λ j e. given_among k ns ss j s e)

-- ---- those of a package

module _ (module_path : List ℕ) (places : List (List ℕ × ℕ)) (paths : List (List ℕ)) (found : (q : List ℕ) → place_in places q ≡ number_of paths q) (distinct : AreDistinct paths)
    (k : ℕ) (own : List ℕ) (there : slice_get paths k ≡ Some own) where
  own_there : path_at paths k ≡ own
  own_there = get_or_from_slice_get paths k own [] there

  -- a path has the number of the package just where it is the package's
  numbered_own : (n : ℕ) (q : List ℕ) → number_of paths q ≡ Some n → bytes_eq own q ≡ true → nat_eq n k ≡ true
  numbered_own n q h e =
      eq-eqb n k (sym (same_number paths k n distinct (slice_get_within paths k own there) q (own_there ∙ are_same own q e) h))

  numbered_other : (n : ℕ) (q : List ℕ) → number_of paths q ≡ Some n → bytes_eq own q ≡ false → (b : Bool) → nat_eq n k ≡ b → b ≡ false
  numbered_other n q h e false f = refl
  numbered_other n q h e true f =
      let same : own ≡ q = sym own_there ∙ ap (path_at paths) (sym (eqb-true n k f)) ∙ (number_at paths q n h).1 in
      absurd (true≢false (sym (subst (λ (p : List ℕ). bytes_eq own p ≡ true) same (same_path own)) ∙ e))

  same_test : (n : ℕ) (q : List ℕ) → number_of paths q ≡ Some n → (b : Bool) → bytes_eq own q ≡ b → nat_eq n k ≡ b
  same_test n q h true e = numbered_own n q h e
  same_test n q h false e = numbered_other n q h e (nat_eq n k) refl

  abbrev path_scanned : ScannedFile → List ℕ
  path_scanned s = s.file.now.path

  abbrev path_read : SourceTree Span → List ℕ
  path_read t = t.path

  one_given : (s : ScannedFile) (t : SourceTree Span) (gs : List ScannedFile) (fs : List (SourceTree Span)) (b c : Bool) → b ≡ c → path_scanned s ≡ path_read t → map path_scanned gs ≡ map path_read fs
      → map path_scanned (if b then s ∷ gs else gs) ≡ map path_read (if c then t ∷ fs else fs)
  one_given s t gs fs true true e p h = λ v. p v ∷ h v
  one_given s t gs fs true false e p h = absurd (true≢false e)
  one_given s t gs fs false true e p h = absurd (true≢false (sym e))
  one_given s t gs fs false false e p h = h

  pub files_given : (ns : List ℕ) (ss : List ScannedFile) (ts : List (SourceTree Span)) → map Some ns ≡ map (λ s. place_in places (home_path module_path s)) ss
      → map path_scanned ss ≡ map path_read ts → map path_scanned (given_to k ns ss) ≡ map path_read (files_of module_path ts own)
  files_given [] [] [] e p = refl
  files_given [] [] (t ∷ ts) e p = absurd cc
  files_given [] (s ∷ ss) ts e p = absurd cc
  files_given (n ∷ ns) [] ts e p = absurd cc
  files_given (n ∷ ns) (s ∷ ss) [] e p = absurd cc
  files_given (n ∷ ns) (s ∷ ss) (t ∷ ts) e p =
      let first : Some n ≡ place_in places (home_path module_path s) = cc in
      let rest : map Some ns ≡ map (λ s. place_in places (home_path module_path s)) ss = cc in
      let path : path_scanned s ≡ path_read t = cc in
      let paths_left : map path_scanned ss ≡ map path_read ts = cc in
      let number : number_of paths (home_of module_path t) ≡ Some n =
      ap (λ (q : List ℕ). number_of paths (import_path module_path (folder_of q))) (sym path) ∙ sym (found (home_path module_path s)) ∙ sym first in
      one_given s t (given_to k ns ss) (files_of module_path ts own) (nat_eq n k) (bytes_eq own (home_of module_path t))
      (same_test n (home_of module_path t) number (bytes_eq own (home_of module_path t)) refl) path (files_given ns ss ts rest paths_left)
