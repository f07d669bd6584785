-- Paths of packages: none of a module is empty, and a package has the name that its path has.
use Rattle.std.proofs.Common.{◌≡◌, refl, sym, ◌∙◌, ap, subst, ◌⊎◌, inl, inr, ℕ, zero, suc, Bool, true, false, not, ◌&&◌, List, [], ◌∷◌, ◌++◌, map, filter, Option, Some, None, if◌then◌else◌}
use Rattle.std.specs.Prelude.{bytes_eq, slice_get, option_and_then, codes}
use Rattle.std.proofs.lemmas.Option.{same_Some}
use Rattle.std.proofs.lemmas.Slice.Eq.{bytes_eq-Decides}
use Rattle.go_tree.specs.declared.spans.Span.{Span}
use Rattle.pkg_graph.specs.ModuleFiles.Pieces.{folder_of, has_bytes}
use Rattle.pkg_graph.specs.ModuleFiles.ModuleFile.{is_module_path, unquoted, path_in, argument_of, module_path, version_answer, path_answer, is_version, is_module, old_go}
use Rattle.pkg_graph.specs.Package.{SourceTree, Package, import_path, first_seen, home_of, package_of, packages_of}
use Rattle.pkg_graph.specs.Members.{package_name}
use Rattle.pkg_graph.specs.Reads.{Source}
use Rattle.run_rules.specs.Steps.{At, change_nth}
use Rattle.run_rules.specs.Texts.{FileText}
use Rattle.run_rules.specs.Run.{as_read}
use Rattle.run_rules.specs.Inlining.{ModuleReads, standing_as_read}
use Rattle.order_runs.specs.CycleRuns.OrderCycles.NewNames.{NamesByPath}
use Rattle.order_runs.specs.CycleRuns.OrderedSteps.Ranks.{OwnPaths}
use Rattle.order_runs.proofs.CycleRuns.OrderedSteps.Members.{changed-one}
use Rattle.order_runs.proofs.CycleRuns.OrderedSteps.Modules.{package-at}

-- no package has the empty path
abbrev pub NoneEmpty : {S : Type 0} → List (Package S) → Type 0
NoneEmpty {S = S} ps = (k : ℕ) (p : Package S) → slice_get ps k ≡ Some p → p.path ≡ [] → ⊥

-- ---- names by paths

module _ {S : Type 0} where
  no-name : (ps : List (Package S)) → NoneEmpty ps → package_name ps [] ≡ []
  no-name [] h = refl
  no-name (p ∷ ps) h = by (bytes_eq [] p.path) refl (no-name ps (λ k q e f. h (suc k) q e f))
    where
      by : (b : Bool) → bytes_eq [] p.path ≡ b → package_name ps [] ≡ [] → (if b then p.name else package_name ps []) ≡ []
      by true e r = absurd (h zero p refl (sym ((bytes_eq-Decides [] p.path).0 e)))
      by false e r = r

  name-at : (ps : List (Package S)) (q : ℕ) (p : Package S) → slice_get ps q ≡ Some p → ((j : ℕ) (r : Package S) → slice_get ps j ≡ Some r → r.path ≡ p.path → j ≡ q) → package_name ps p.path ≡ p.name
  name-at [] q p e h = cc
  name-at (x ∷ ps) zero p e h =
      (λ z. if ((bytes_eq-Decides p.path x.path).1 (ap (λ (y : Package S). y.path) (sym (same_Some x p e)))) z then x.name else package_name ps p.path)
      ∙ ap (λ (y : Package S). y.name) (same_Some x p e)
  name-at (x ∷ ps) (suc q) p e h = by (bytes_eq p.path x.path) refl (name-at ps q p e (λ j r f s. less j (h (suc j) r f s)))
    where
      less : (j : ℕ) → suc j ≡ suc q → j ≡ q
      less j e = cc

      never : zero ≡ suc q → ⊥
      never e = cc

      by : (b : Bool) → bytes_eq p.path x.path ≡ b → package_name ps p.path ≡ p.name → (if b then x.name else package_name ps p.path) ≡ p.name
      by true f r = absurd (never (h zero x refl (sym ((bytes_eq-Decides p.path x.path).0 f))))
      by false f r = r

  pub names-by-path : (ps : List (Package S)) → OwnPaths ps → NoneEmpty ps → NamesByPath ps
  names-by-path ps own none q = by (slice_get ps q) refl
    where
      by : (o : Option (Package S)) → slice_get ps q ≡ o → package_name ps (elim o [ None ↦ [] | Some p ↦ p.path ]) ≡ elim o [ None ↦ [] | Some p ↦ p.name ]
      by None e = no-name ps none
      by (Some p) e = name-at ps q p e (λ j r f s. own j q r p f e s)

-- ---- the paths of a module's packages

some-bytes : (xs : List ℕ) → has_bytes xs ≡ true → xs ≡ [] → ⊥
some-bytes [] h e = cc
some-bytes (x ∷ xs) h e = cc

path-of-argument : (a p : List ℕ) → path_in a ≡ Some p → has_bytes p ≡ true
path-of-argument a p e = by (is_module_path (unquoted a)) refl e
  where
    first : (a b : Bool) → (a && b) ≡ true → a ≡ true
    first true b e = refl
    first false b e = cc

    by : (b : Bool) → is_module_path (unquoted a) ≡ b → (if b then Some (unquoted a) else None) ≡ Some p → has_bytes p ≡ true
    by true g f = subst (λ (q : List ℕ). has_bytes q ≡ true) (same_Some (unquoted a) p f) (first (has_bytes (unquoted a)) _ g)
    by false g f = cc

path-some : (text p : List ℕ) → module_path text ≡ Some p → has_bytes p ≡ true
unfolding module_path
path-some text p e = by (argument_of (codes "module") text) e
  where
    by : (o : Option (List ℕ)) → option_and_then path_in o ≡ Some p → has_bytes p ≡ true
    by None e = cc
    by (Some a) e = path-of-argument a p e

same-answer : (p path : List ℕ) → is_module p ≡ is_module path → p ≡ path
same-answer p path e = cc

by-recent : (p path v : List ℕ) (b : Bool) → (if b then is_module p else old_go v) ≡ is_module path → p ≡ path
by-recent p path v true e = same-answer p path e
by-recent p path v false e = cc

by-version : (p path : List ℕ) (v : Option (List ℕ)) → version_answer p v ≡ is_module path → p ≡ path
unfolding version_answer
by-version p path None e = cc
by-version p path (Some v) e = by-recent p path v (is_version v) e

by-answer : (text path : List ℕ) (o : Option (List ℕ)) → path_answer text o ≡ is_module path → o ≡ Some path
unfolding path_answer
by-answer text path None e = cc
by-answer text path (Some p) e = ap Some (by-version p path (argument_of (codes "go") text) e)

import-some : (home folder : List ℕ) → has_bytes home ≡ true → import_path home folder ≡ [] → ⊥
import-some [] folder h e = cc
import-some (c ∷ cs) folder h e = by (has_bytes folder) e
  where
    by : (b : Bool) → (if b then (c ∷ cs) ++ (codes "/" ++ folder) else c ∷ cs) ≡ [] → ⊥
    by true e = cc
    by false e = cc

-- none of these is empty
abbrev EachSome : List (List ℕ) → Type 0
EachSome [] = Unit {0}
EachSome (x ∷ xs) = (x ≡ [] → ⊥) × EachSome xs

some-kept : (f : List ℕ → Bool) (xs : List (List ℕ)) → EachSome xs → EachSome (filter f xs)
some-kept f [] h = tt
some-kept f (x ∷ xs) h = by (f x) (some-kept f xs h.1)
  where
    by : (b : Bool) → EachSome (filter f xs) → EachSome (if b then x ∷ filter f xs else filter f xs)
    by true r = (h.0, r)
    by false r = r

some-seen : (xs : List (List ℕ)) → EachSome xs → EachSome (first_seen xs)
some-seen [] h = tt
some-seen (x ∷ xs) h = (h.0, some-kept (λ y. not (bytes_eq x y)) (first_seen xs) (some-seen xs h.1))

module _ (home : List ℕ) (h : has_bytes home ≡ true) where
  homes-some : (fs : List (SourceTree Span)) → EachSome (map (home_of home) fs)
  homes-some [] = tt
  homes-some (f ∷ fs) = (import-some home (folder_of f.path) h, homes-some fs)

  packages-some : (fs : List (SourceTree Span)) (xs : List (List ℕ)) → EachSome xs → NoneEmpty (map (package_of home fs) xs)
  packages-some fs [] e k p g s = cc
  packages-some fs (x ∷ xs) e zero p g s = e.0 (ap (λ (q : Package Span). q.path) (same_Some (package_of home fs x) p g) ∙ s)
  packages-some fs (x ∷ xs) e (suc k) p g s = packages-some fs xs e.1 k p g s

pub module-some : (files : List Source) (ps : List (Package Span)) (texts : List (List ℕ × FileText)) → ModuleReads files ps texts → NoneEmpty (standing_as_read ps texts).packages
module-some files ps texts r k q e s =
    let p = package-at as_read ps k q e in
    subst (λ (qs : List (Package Span)). NoneEmpty qs) (sym r.reads.program.packages_are) there k p.0 p.1 (sym (ap (λ (z : Package At). z.path) p.2) ∙ s)
  where
    there : NoneEmpty (packages_of r.reads.program.path r.reads.trees)
    there =
        packages-some r.reads.program.path (path-some r.reads.program.module_text.text r.reads.program.path (by-answer r.reads.program.module_text.text r.reads.program.path (module_path r.reads.program.module_text.text) r.reads.program.path_is))
        r.reads.trees (first_seen (map (home_of r.reads.program.path) r.reads.trees)) (some-seen (map (home_of r.reads.program.path) r.reads.trees)
        (homes-some r.reads.program.path (path-some r.reads.program.module_text.text r.reads.program.path (by-answer r.reads.program.module_text.text r.reads.program.path (module_path r.reads.program.module_text.text) r.reads.program.path_is)) r.reads.trees))

-- with one package changed
pub changed-some : {S : Type 0} (f : Package S → Package S) → ((p : Package S) → (f p).path ≡ p.path) → (n : ℕ) (ps : List (Package S)) → NoneEmpty ps → NoneEmpty (change_nth n f ps)
changed-some f same n ps h k q e s = let c = changed-one f n ps k q e in by c.0 c.1 c.2
  where
    by : (p : Package _) → slice_get ps k ≡ Some p → (q ≡ p) ⊎ ((k ≡ n) × (q ≡ f p)) → ⊥
    by p g (inl t) = h k p g (sym (ap (λ (z : Package _). z.path) t) ∙ s)
    by p g (inr t) = h k p g (sym (same p) ∙ sym (ap (λ (z : Package _). z.path) t.1) ∙ s)
