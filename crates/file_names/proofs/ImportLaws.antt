-- Packages by their paths.
use Rattle.std.proofs.Common.{◌≡◌, ◌∙◌, ◌<◌, ◌+◌, ℕ, zero, suc, Bool, true, false, cond, List, [], ◌∷◌, ◌++◌, Option, Some, None, refl, sym, ap, subst, length, map, take, get_or, bytes_eq, arith}
use Rattle.std.specs.Option.{option_map}
use Rattle.std.proofs.lemmas.List.{length-map}
use Rattle.go_tree.specs.declared.spans.Span.{Span}
use Rattle.pkg_graph.specs.ModuleFiles.PathLists.{number_of}
use Rattle.pkg_graph.proofs.ImportOrder.NumberLaws.{number_at}
use Rattle.pkg_graph.specs.Members.{package_name}
use Rattle.pkg_graph.specs.Views.{package_view}
use Rattle.pkg_graph.specs.declared.packages.Package.{Package}

abbrev paths : List Package → List (List ℕ)
paths ps = map (λ p. p.path) ps

-- the number of a path is that of a package
pub path_within : (ps : List Package) (q : List ℕ) (k : ℕ) → number_of (paths ps) q ≡ Some k → k < length ps
path_within ps q k e = subst (λ n. k < n) (length-map ps (λ p. p.path)) (number_at (paths ps) q k e).0

-- the package with the path has the name
pub name_found :
    (ps : List Package) (q : List ℕ) (k : ℕ) (d : Package) → number_of (paths ps) q ≡ Some k
    → package_name (map package_view ps) q ≡ (get_or ps k d).name
name_found [] q k d e = absurd cc
name_found (p ∷ ps) q k d e = by (bytes_eq q p.path) k e (λ j. name_found ps q j d)
  where
    behind :
        (k : ℕ) (o : Option ℕ) → number_of (paths ps) q ≡ o → option_map suc o ≡ Some k
        → ((j : ℕ) → number_of (paths ps) q ≡ Some j → package_name (map package_view ps) q ≡ (get_or ps j d).name)
        → package_name (map package_view ps) q ≡ (get_or (p ∷ ps) k d).name
    behind k None f g further = absurd cc
    behind zero (Some j) f g further = absurd cc
    behind (suc k) (Some j) f g further = let same : j ≡ k = cc in further k (f ∙ ap Some same)

    by :
        (t : Bool) (k : ℕ) → cond t (Some 0) (option_map suc (number_of (paths ps) q)) ≡ Some k
        → ((j : ℕ) → number_of (paths ps) q ≡ Some j → package_name (map package_view ps) q ≡ (get_or ps j d).name)
        → cond t p.name (package_name (map package_view ps) q) ≡ (get_or (p ∷ ps) k d).name
    by true zero f further = refl
    by true (suc k) f further = absurd cc
    by false k f further = behind k (number_of (paths ps) q) refl f further

-- no package has the path
pub name_absent :
    (ps : List Package) (q : List ℕ) → number_of (paths ps) q ≡ None → package_name (map package_view ps) q ≡ []
name_absent [] q e = refl
name_absent (p ∷ ps) q e = by (bytes_eq q p.path) e (name_absent ps q)
  where
    behind :
        (o : Option ℕ) → number_of (paths ps) q ≡ o → option_map suc o ≡ None
        → (number_of (paths ps) q ≡ None → package_name (map package_view ps) q ≡ [])
        → package_name (map package_view ps) q ≡ []
    behind None f g further = further f
    behind (Some j) f g further = absurd cc

    by :
        (t : Bool) → cond t (Some 0) (option_map suc (number_of (paths ps) q)) ≡ None
        → (number_of (paths ps) q ≡ None → package_name (map package_view ps) q ≡ [])
        → cond t p.name (package_name (map package_view ps) q) ≡ []
    by true f further = absurd cc
    by false f further = behind (number_of (paths ps) q) refl f further
