-- Where no package and no import is named as a predeclared value, no import has such a name.
use Rattle.std.proofs.Common.{◌≡◌, refl, sym, ap, ◌∙◌, ℕ, Bool, true, false, not, ◌&&◌, ◌||◌, bytes_eq, if◌then◌else◌, List, [], ◌∷◌, ◌++◌, Option, Some, None}
use Rattle.std.specs.List.{list_all}
use Rattle.go_tree.specs.declared.spans.Span.{Span}
use Rattle.go_tree.specs.Tree.{NameAt}
use Rattle.go_tree.specs.File.{ImportSpec, ImportDecl, File}
use Rattle.go_tree.specs.GoTypes.Answers.{unless_missing, is_among}
use Rattle.go_tree.specs.ScopeNames.Means.{is_blank}
use Rattle.pkg_graph.specs.Package.{SourceTree, Package, specs_in, import_specs}
use Rattle.pkg_graph.specs.Members.{package_name, name_or, import_name}
use Rattle.constant_modules.specs.ApartKeys.Files.{is_value_name, import_apart, file_apart, keys_are_apart}
use Rattle.constant_modules.specs.ApartKeys.Keys.{decl_keys}
use Rattle.constant_modules.specs.LookUps.Beside.{names_over}
use Rattle.run_plans.specs.PlannedModules.Modules.{named_apart, imports_apart, package_apart}
use Rattle.run_plans.proofs.PlannedModules.Folders.{and_both, both}

not_set : (b : Bool) → not b ≡ true → b ≡ false
not_set true h = absurd cc
not_set false h = refl

-- what holds of each element holds of all
all_so : {A : Type 0} (f g : A → Bool) → ((a : A) → f a ≡ true → g a ≡ true) → (xs : List A) → list_all f xs ≡ true → list_all g xs ≡ true
all_so f g h [] e = refl
all_so f g h (x ∷ xs) e =
    let p = both (f x) (list_all f xs) e in
    and_both (g x) (list_all g xs) (h x p.0) (all_so f g h xs p.1)

-- so in both parts of a list
all_behind : {A : Type 0} (f : A → Bool) (xs ys : List A) → list_all f xs ≡ true → list_all f ys ≡ true → list_all f (xs ++ ys) ≡ true
all_behind f [] ys h g = g
all_behind f (x ∷ xs) ys h g =
    let p = both (f x) (list_all f xs) h in
    and_both (f x) (list_all f (xs ++ ys)) p.0 (all_behind f xs ys p.1 g)

all_specs : (ds : List (ImportDecl Span)) → list_all (λ d. list_all named_apart d.specs) ds ≡ true → list_all named_apart (specs_in ds) ≡ true
all_specs [] h = refl
all_specs (d ∷ ds) h =
    let p = both (list_all named_apart d.specs) (list_all (λ e. list_all named_apart e.specs) ds) h in
    all_behind named_apart d.specs (specs_in ds) p.0 (all_specs ds p.1)

module _ (ps : List (Package Span)) where
  own_of : (q : Package Span) (qs : List (Package Span)) (path : List ℕ) (b : Bool) → package_apart q ≡ true → is_value_name (package_name qs path) ≡ false → is_value_name (if b then q.name else package_name qs path) ≡ false
  own_of q qs path true h e = not_set (is_value_name q.name) (both (not (is_value_name q.name)) (list_all (λ f. imports_apart f.tree) q.files) h).0
  own_of q qs path false h e = e

  own_apart : (qs : List (Package Span)) → list_all package_apart qs ≡ true → (path : List ℕ) → is_value_name (package_name qs path) ≡ false
  own_apart [] e path = refl
  own_apart (q ∷ qs) e path =
      let parts : (package_apart q ≡ true) × (list_all package_apart qs ≡ true) = both (package_apart q) (list_all package_apart qs) e in
      own_of q qs path (bytes_eq path q.path) parts.0 (own_apart qs parts.1 path)

  name_apart : (own : List ℕ) → is_value_name own ≡ false → (n : Option (NameAt Span)) → unless_missing n (λ m. not (is_value_name m.name)) ≡ true → is_value_name (name_or n own) ≡ false
  name_apart own e None h = e
  name_apart own e (Some m) h = not_set (is_value_name m.name) h

  module _ (apart : list_all package_apart ps ≡ true) where
    spec_so : (f : File Span) (s : ImportSpec Span) → named_apart s ≡ true → import_apart ps f s ≡ true
    spec_so f s h = by (is_blank (import_name ps s)) (is_value_name (import_name ps s)) (is_among (import_name ps s) (names_over decl_keys f.decls)) (name_apart (package_name ps s.path) (own_apart ps apart s.path) s.name h)
      where
        by : (b p k : Bool) → p ≡ false → (b || not (p && k)) ≡ true
        by true p k e = refl
        by false true k e = absurd cc
        by false false k e = refl

    file_so : (f : SourceTree Span) → imports_apart f.tree ≡ true → file_apart ps f.tree ≡ true
    file_so f h = all_so named_apart (import_apart ps f.tree) (spec_so f.tree) (import_specs f.tree) (all_specs f.tree.imports h)

    package_so : (p : Package Span) → package_apart p ≡ true → list_all (λ f. file_apart ps f.tree) p.files ≡ true
    package_so p h =
        all_so (λ f. imports_apart f.tree) (λ f. file_apart ps f.tree) file_so p.files
        (both (not (is_value_name p.name)) (list_all (λ f. imports_apart f.tree) p.files) h).1

    pub keys_apart : keys_are_apart ps ≡ true
    keys_apart = all_so package_apart (λ p. list_all (λ f. file_apart ps f.tree) p.files) package_so ps apart
