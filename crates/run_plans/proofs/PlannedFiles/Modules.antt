-- The files of a module that is read: each stands in a package.
use Rattle.std.proofs.Common.{◌≡◌, ◌∙◌, refl, sym, subst, ℕ, Bool, true, false, ◌||◌, cond, bytes_eq, List, [], ◌∷◌, ◌++◌, map, filter, Some}
use Rattle.std.proofs.lemmas.List.Folds.{list_any-append}
use Rattle.std.proofs.lemmas.Bool.{true≢false}
use Rattle.go_tree.specs.declared.spans.Span.{Span}
use Rattle.pkg_graph.specs.ModuleFiles.PathLists.{has_path}
use Rattle.pkg_graph.proofs.ModuleFiles.PathLaws.{are_same, same_path}
use Rattle.pkg_graph.specs.Package.{SourceTree, first_seen, home_of, package_of, packages_of}
use Rattle.pkg_graph.proofs.PackageLaws.{has_seen}
use Rattle.run_rules.specs.Marks.{text_at}
use Rattle.run_rules.specs.Texts.{FileText}
use Rattle.module_texts.specs.declared.files.ScannedFile.{ScannedFile}
use Rattle.module_marks.specs.Views.{texts_of}
use Rattle.source_files.specs.declared.files.SourceFile.{SourceFile}
use Rattle.run_plans.specs.PlannedFiles.Limits.{file_with_path}
use Rattle.run_plans.specs.PlannedFiles.Texts.{file_paths}

or_left : (a b : Bool) → a ≡ true → (a || b) ≡ true
or_left true b e = refl
or_left false b e = absurd cc

or_right : (a b : Bool) → b ≡ true → (a || b) ≡ true
or_right true b e = refl
or_right false b e = e

-- a path among those of two lists
has_either : (xs ys : List (List ℕ)) (q : List ℕ) → has_path (xs ++ ys) q ≡ (has_path xs q || has_path ys q)
has_either xs ys q = list_any-append (bytes_eq q) xs ys

abbrev tree_paths : List (SourceTree Span) → List (List ℕ)
tree_paths xs = map (λ x. x.path) xs

module _ (home : List ℕ) where
  -- the path of a package in which a file with the path stands
  record Homed (xs : List (SourceTree Span)) (q : List ℕ) : Type 0 where
    of : List ℕ
    there : has_path (map (home_of home) xs) of ≡ true
    listed : has_path (tree_paths (filter (λ f. bytes_eq of (home_of home f)) xs)) q ≡ true

  homed : (xs : List (SourceTree Span)) (q : List ℕ) → has_path (tree_paths xs) q ≡ true → Homed xs q
  homed [] q h = absurd (true≢false (sym h))
  homed (x ∷ xs) q h = by (bytes_eq q x.path) refl h (homed xs q)
    where
      own : List ℕ
      own = home_of home x

      listed_first : bytes_eq q x.path ≡ true → (b : Bool) → b ≡ true → has_path (tree_paths (cond b (x ∷ filter (λ f. bytes_eq own (home_of home f)) xs) (filter (λ f. bytes_eq own (home_of home f)) xs))) q ≡ true
      listed_first e true f = or_left (bytes_eq q x.path) (has_path (tree_paths (filter (λ f. bytes_eq own (home_of home f)) xs)) q) e
      listed_first e false f = absurd (true≢false (sym f))

      listed_later : (of : List ℕ) (b : Bool) → has_path (tree_paths (filter (λ f. bytes_eq of (home_of home f)) xs)) q ≡ true
          → has_path (tree_paths (cond b (x ∷ filter (λ f. bytes_eq of (home_of home f)) xs) (filter (λ f. bytes_eq of (home_of home f)) xs))) q ≡ true
      listed_later of true f = or_right (bytes_eq q x.path) (has_path (tree_paths (filter (λ f. bytes_eq of (home_of home f)) xs)) q) f
      listed_later of false f = f

      by : (b : Bool) → bytes_eq q x.path ≡ b → (b || has_path (tree_paths xs) q) ≡ true → (has_path (tree_paths xs) q ≡ true → Homed xs q) → Homed (x ∷ xs) q
      by true e f more =
          record {
            of = own;
            there = or_left (bytes_eq own own) (has_path (map (home_of home) xs) own) (same_path own);
            listed = listed_first e (bytes_eq own own) (same_path own);
          }
      by false e f more =
          let its = more f in
          record {
            of = its.of;
            there = or_right (bytes_eq its.of own) (has_path (map (home_of home) xs) its.of) its.there;
            listed = listed_later its.of (bytes_eq its.of own) its.listed;
          }

  -- the files of packages with these paths
  gathered : (xs : List (SourceTree Span)) (q of : List ℕ) → has_path (tree_paths (filter (λ f. bytes_eq of (home_of home f)) xs)) q ≡ true
      → (hs : List (List ℕ)) → has_path hs of ≡ true → has_path (file_paths (map (package_of home xs) hs)) q ≡ true
  gathered xs q of listed [] h = absurd (true≢false (sym h))
  gathered xs q of listed (k ∷ ks) h = has_either own others q ∙ by (bytes_eq of k) refl h (gathered xs q of listed ks)
    where
      own : List (List ℕ)
      own = tree_paths (filter (λ f. bytes_eq k (home_of home f)) xs)

      others : List (List ℕ)
      others = file_paths (map (package_of home xs) ks)

      by : (b : Bool) → bytes_eq of k ≡ b → (b || has_path ks of) ≡ true → (has_path ks of ≡ true → has_path others q ≡ true) → (has_path own q || has_path others q) ≡ true
      by true e f more =
          or_left (has_path own q) (has_path others q)
          (subst (λ (p : List ℕ). has_path (tree_paths (filter (λ f. bytes_eq p (home_of home f)) xs)) q ≡ true) (are_same of k e) listed)
      by false e f more = or_right (has_path own q) (has_path others q) (more f)

  pub in_packages : (xs : List (SourceTree Span)) (q : List ℕ) → has_path (tree_paths xs) q ≡ true → has_path (file_paths (packages_of home xs)) q ≡ true
  in_packages xs q h =
      let its = homed xs q h in
      gathered xs q its.of its.listed (first_seen (map (home_of home) xs)) (has_seen (map (home_of home) xs) its.of ∙ its.there)

-- ---- files that were read

pub paths_of_texts : (ss : List ScannedFile) → map (λ t. t.0) (texts_of ss) ≡ map (λ s. s.file.now.path) ss
paths_of_texts [] = refl
paths_of_texts (s ∷ ss) = λ w. s.file.now.path ∷ paths_of_texts ss w

pub paths_of_files : (ss : List ScannedFile) → map (λ s. s.file.now.path) ss ≡ map (λ (f : SourceFile). f.path) (map (λ s. s.file.now) ss)
paths_of_files [] = refl
paths_of_files (s ∷ ss) = λ w. s.file.now.path ∷ paths_of_files ss w

-- a path with a text
pub has_text : (ts : List (List ℕ × FileText)) (q : List ℕ) (t : FileText) → text_at q ts ≡ Some t → has_path (map (λ t. t.0) ts) q ≡ true
has_text [] q t e = absurd cc
has_text (u ∷ us) q t e = by (bytes_eq q u.0) e (has_text us q t)
  where
    by : (b : Bool) → cond b (Some u.1) (text_at q us) ≡ Some t → (text_at q us ≡ Some t → has_path (map (λ t. t.0) us) q ≡ true) → (b || has_path (map (λ t. t.0) us) q) ≡ true
    by true e f = refl
    by false e f = f e

pub has_among : (test : SourceFile → Bool) (fs : List SourceFile) (q : List ℕ) → has_path (map (λ f. f.path) (filter test fs)) q ≡ true → has_path (map (λ f. f.path) fs) q ≡ true
has_among test [] q h = h
has_among test (f ∷ fs) q h = by (test f) h (has_among test fs q)
  where
    or_more : (a b c : Bool) → (a || b) ≡ true → (b ≡ true → c ≡ true) → (a || c) ≡ true
    or_more true b c e g = refl
    or_more false b c e g = g e

    by : (b : Bool) → has_path (map (λ f. f.path) (cond b (f ∷ filter test fs) (filter test fs))) q ≡ true
        → (has_path (map (λ f. f.path) (filter test fs)) q ≡ true → has_path (map (λ f. f.path) fs) q ≡ true)
        → (bytes_eq q f.path || has_path (map (λ f. f.path) fs) q) ≡ true
    by true e g = or_more (bytes_eq q f.path) (has_path (map (λ f. f.path) (filter test fs)) q) (has_path (map (λ f. f.path) fs) q) e g
    by false e g = or_right (bytes_eq q f.path) (has_path (map (λ f. f.path) fs) q) (g e)

pub file_found : (fs : List SourceFile) (q : List ℕ) → has_path (map (λ f. f.path) fs) q ≡ true → (f : SourceFile) × (file_with_path fs q ≡ Some f)
file_found [] q h = absurd (true≢false (sym h))
file_found (f ∷ fs) q h = by (bytes_eq q f.path) h (file_found fs q)
  where
    by : (b : Bool) → (b || has_path (map (λ f. f.path) fs) q) ≡ true → (has_path (map (λ f. f.path) fs) q ≡ true → (g : SourceFile) × (file_with_path fs q ≡ Some g))
        → (g : SourceFile) × (cond b (Some f) (file_with_path fs q) ≡ Some g)
    by true e more = (f, refl)
    by false e more = more e
