-- Where a form needs no new import, each package that it needs has, at the use, a name that means its import there.
use Rattle.std.specs.Prelude.{◌≡◌, refl, ℕ, Bool, true, false, List, [], ◌∷◌, ◌++◌, Option, Some, None, if◌then◌else◌, nat_eq, slice_get}
use mathlib.Core.Path.{ap, sym, ◌∙◌, subst}
use Rattle.std.proofs.Common.{arith}
use Rattle.pkg_graph.specs.Package.{Package}
use Rattle.run_rules.specs.ImportRules.Needs.{serving, avoided}
use Rattle.run_rules.specs.Surroundings.{Place}
use Rattle.run_rules.specs.Sites.{Where, qualifier}
use Rattle.run_rules.specs.Naming.{Named, names_by, name_added, imports_added, fresh_name, package_path, own_name, names_here, environment_here, added_import, named_packages, unnamed, unnamed_package, unnamed_in, new_first}
use Rattle.constant_steps.proofs.AfterStep.{same_number}
use Rattle.constant_steps.proofs.NamesOutside.{equal_numbers}
use Rattle.constant_steps.proofs.QualifiedSteps.Qualifiers.{OwnPath, serving_means}

-- an item of a list
pub data InList {A : Type 0} (x : A) : List A → Type 0 where
  first_in : {xs : List A} → InList x (x ∷ xs)
  later_in : {y : A} {xs : List A} → InList x xs → InList x (y ∷ xs)

pub in-front : {A : Type 0} {x : A} {xs : List A} (ys : List A) → InList x xs → InList x (xs ++ ys)
in-front ys first_in = first_in
in-front ys (later_in i) = later_in (in-front ys i)

pub in-rest : {A : Type 0} {x : A} (xs : List A) {ys : List A} → InList x ys → InList x (xs ++ ys)
in-rest [] i = i
in-rest (y ∷ xs) i = later_in (in-rest xs i)

-- ---- the packages that stand unnamed in a form

-- another number stays
stays-new : (q k : ℕ) → nat_eq q k ≡ false → {rs : List ℕ} → InList k rs → InList k (new_first q rs)
stays-new q k e (first_in {xs = rs}) = subst (λ b. InList k (if b then new_first q rs else k ∷ new_first q rs)) (sym e) first_in
stays-new q k e (later_in {y = r} {xs = rs} i) = go (nat_eq q r) (stays-new q k e i)
  where
    go : (b : Bool) → InList k (new_first q rs) → InList k (if b then new_first q rs else r ∷ new_first q rs)
    go true j = j
    go false j = later_in j

behind : (k : ℕ) (o : Option ℕ) {rs : List ℕ} → InList k rs → InList k (elim o [ None ↦ rs | Some q ↦ q ∷ new_first q rs ])
behind k None i = i
behind k (Some q) {rs = rs} i = go (nat_eq q k) refl
  where
    go : (b : Bool) → nat_eq q k ≡ b → InList k (q ∷ new_first q rs)
    go true e = subst (λ j. InList k (j ∷ new_first j rs)) (sym (equal_numbers q k e)) first_in
    go false e = later_in (stays-new q k e i)

-- a package that stands unnamed among names is one of the packages
pub unnamed-there : (k : ℕ) {ns : List (List ℕ)} → InList (unnamed k) ns → InList k (unnamed_in ns)
unnamed-there k first_in = first_in
unnamed-there k (later_in {y = n} i) = behind k (unnamed_package n) (unnamed-there k i)

-- ---- names for packages

module _ {S : Type 0} (rs : List (Package S)) (w : Where S) (p : Place S) where
  abbrev serves : ℕ → Option (List ℕ)
  serves q = serving (environment_here rs w p) [] (package_path rs q) (names_here rs w).imports

  abbrev by-option : ℕ → Option (List ℕ) → Named
  by-option q o =
      elim o [
        | Some n ↦ record { of = q; name = n; added = None }
        | None ↦ let n : List ℕ = fresh_name w.source.tree (avoided (names_here rs w) []) (own_name rs q) in record { of = q; name = n; added = Some (added_import rs q n) }
      ]

  abbrev listed : ℕ → List ℕ → Option (List ℕ) → List Named
  listed q qs o = by-option q o ∷ named_packages rs w p (name_added (by-option q o) ++ []) qs

  -- each stands for its package at the place
  pub all-served : (k : ℕ) (of : Package S) → slice_get rs k ≡ Some of → OwnPath rs k → {qs : List ℕ} → InList k qs → imports_added (named_packages rs w p [] qs) ≡ [] → qualifier rs w p (names_by (named_packages rs w p [] qs) k) ≡ Some k
  all-served k of there own (first_in {xs = qs}) h = by (serves k) refl h
    where
      by : (o : Option (List ℕ)) → serves k ≡ o → imports_added (listed k qs o) ≡ [] → qualifier rs w p (names_by (listed k qs o) k) ≡ Some k
      by None e h = absurd (grind (arith, h))
      by (Some n) e h = ap (λ b. qualifier rs w p (if b then n else names_by (named_packages rs w p [] qs) k)) (same_number k k refl) ∙ serving_means rs w p k of n there own e
  all-served k of there own (later_in {y = q} {xs = qs} i) h = by (serves q) refl h (all-served k of there own i)
    where
      named : (n : List ℕ) → serves q ≡ Some n → qualifier rs w p (names_by (named_packages rs w p [] qs) k) ≡ Some k → (b : Bool) → nat_eq q k ≡ b → qualifier rs w p (if b then n else names_by (named_packages rs w p [] qs) k) ≡ Some k
      named n e r true f = serving_means rs w p k of n there own (ap serves (sym (equal_numbers q k f)) ∙ e)
      named n e r false f = r

      by : (o : Option (List ℕ)) → serves q ≡ o → imports_added (listed q qs o) ≡ [] → (imports_added (named_packages rs w p [] qs) ≡ [] → qualifier rs w p (names_by (named_packages rs w p [] qs) k) ≡ Some k) → qualifier rs w p (names_by (listed q qs o) k) ≡ Some k
      by None e h f = absurd (grind (arith, h))
      by (Some n) e h f = named n e (f h) (nat_eq q k) refl
