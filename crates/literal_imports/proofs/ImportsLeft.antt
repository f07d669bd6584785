-- Imports of a file of which some go: a name that none of them has is that of the same package, or of none; those that are left may be declared; and each is one that doesn't go.
use Rattle.std.proofs.Common.{◌≡◌, ◌∙◌, refl, sym, ◌⊎◌, inl, inr, ℕ, zero, suc, ◌+◌, Bool, true, false, not, if◌then◌else◌, bytes_eq, List, [], ◌∷◌, map, Option, Some, arith}
use Rattle.std.specs.List.{list_all}
use Rattle.std.specs.Prelude.{filter, slice_get}
use Rattle.std.proofs.lemmas.Slice.Eq.{bytes_eq-Decides}
use Rattle.go_tree.specs.File.{ImportSpec}
use Rattle.go_tree.specs.GoTypes.Programs.{Import}
use Rattle.order_runs.specs.ImportCodes.PackagesMoved.{imported_as}
use Rattle.pkg_graph.specs.Members.{import_name}
use Rattle.pkg_graph.specs.Package.{Package}
use Rattle.run_rules.specs.Programs.{numbered_from, linked_import}
use Rattle.typed_in_place.specs.ImportRule.{Fewer, no_imports, this_stays, this_goes}
use Rattle.typed_in_place.proofs.Rising.{and_first, and_second, both_true}

module _ {S : Type 0} (rs : List (Package S)) (gone : ℕ × ImportSpec S → Bool) where
  -- those that are left, the first having this number
  abbrev pub left_from : ℕ → List (ImportSpec S) → List (Import S)
  left_from k ss = map (λ (q : ℕ × ImportSpec S). linked_import rs q.1) (filter (λ (q : ℕ × ImportSpec S). not (gone q)) (numbered_from k ss))

  abbrev all_of : List (ImportSpec S) → List (Import S)
  all_of ss = map (linked_import rs) ss

  abbrev first_left : Bool → ImportSpec S → ℕ → List (ImportSpec S) → List (Import S)
  first_left b s k ss = map (λ (q : ℕ × ImportSpec S). linked_import rs q.1) (if not b then (k, s) ∷ filter (λ (q : ℕ × ImportSpec S). not (gone q)) (numbered_from (suc k) ss) else filter (λ (q : ℕ × ImportSpec S). not (gone q)) (numbered_from (suc k) ss))

  -- ---- names

  -- one that goes has the name
  pub record Gone (k : ℕ) (ss : List (ImportSpec S)) (n : List ℕ) : Type 0 where
    pub nth : ℕ
    pub number : ℕ
    pub spec : ImportSpec S
    pub there : slice_get ss nth ≡ Some spec
    pub number_is : number ≡ k + nth
    pub goes : gone (number, spec) ≡ true
    pub named : import_name rs spec ≡ n

  later : (k : ℕ) (s : ImportSpec S) (ss : List (ImportSpec S)) (n : List ℕ) → Gone (suc k) ss n → Gone k (s ∷ ss) n
  later k s ss n g = let i : g.number ≡ suc k + g.nth = g.number_is in record { nth = suc g.nth; number = g.number; spec = g.spec; there = g.there; number_is = omega (arith, i); goes = g.goes; named = g.named }

  abbrev of_first : Bool → ImportSpec S → Option ℕ → Option ℕ
  of_first t s o = if t then Some (linked_import rs s).of else o

  abbrev SameOf : ℕ → List (ImportSpec S) → List ℕ → Type 0
  SameOf k ss n = imported_as (left_from k ss) n ≡ imported_as (all_of ss) n

  pub same_or_gone : (k : ℕ) (ss : List (ImportSpec S)) (n : List ℕ) → SameOf k ss n ⊎ Gone k ss n
  same_or_gone k [] n = inl refl
  same_or_gone k (s ∷ ss) n = by (gone (k, s)) refl (bytes_eq (import_name rs s) n) refl (same_or_gone (suc k) ss n)
    where
      by : (b : Bool) → gone (k, s) ≡ b → (t : Bool) → bytes_eq (import_name rs s) n ≡ t → SameOf (suc k) ss n ⊎ Gone (suc k) ss n → SameOf k (s ∷ ss) n ⊎ Gone k (s ∷ ss) n
      by b g t h (inr r) = inr (later k s ss n r)
      by true g true h (inl r) = inr (record { nth = zero; number = k; spec = s; there = refl; number_is = plain k; goes = g; named = (bytes_eq-Decides (import_name rs s) n).0 h })
        where
          plain : (a : ℕ) → a ≡ a + zero
          plain a = omega arith
      by true g false h (inl r) = inl ((λ v. imported_as (first_left (g v) s k ss) n) ∙ r ∙ sym (λ v. of_first (h v) s (imported_as (all_of ss) n)))
      by false g t h (inl r) = inl ((λ v. imported_as (first_left (g v) s k ss) n) ∙ (λ v. of_first (bytes_eq (import_name rs s) n) s (r v)))

  -- ---- those that are left

  pub fewer : (k : ℕ) (ss : List (ImportSpec S)) → Fewer (left_from k ss) (all_of ss)
  fewer k [] = no_imports
  fewer k (s ∷ ss) = by (gone (k, s)) (fewer (suc k) ss)
    where
      by : (b : Bool) → Fewer (left_from (suc k) ss) (all_of ss) → Fewer (first_left b s k ss) (all_of (s ∷ ss))
      by true r = this_goes r
      by false r = this_stays r

  -- what holds of all holds of these
  pub left_pass : (f : Import S → Bool) (k : ℕ) (ss : List (ImportSpec S)) → list_all f (all_of ss) ≡ true → list_all f (left_from k ss) ≡ true
  left_pass f k [] e = refl
  left_pass f k (s ∷ ss) e = by (gone (k, s)) (left_pass f (suc k) ss (and_second (f (linked_import rs s)) (list_all f (all_of ss)) e))
    where
      by : (b : Bool) → list_all f (left_from (suc k) ss) ≡ true → list_all f (first_left b s k ss) ≡ true
      by true r = r
      by false r = both_true (and_first (f (linked_import rs s)) (list_all f (all_of ss)) e) r

  -- what holds of each that doesn't go holds of all that are left
  pub each_left : (f : Import S → Bool) (k : ℕ) (ss : List (ImportSpec S)) → ((j m : ℕ) (s : ImportSpec S) → slice_get ss j ≡ Some s → m ≡ k + j → gone (m, s) ≡ false → f (linked_import rs s) ≡ true) → list_all f (left_from k ss) ≡ true
  each_left f k [] each = refl
  each_left f k (s ∷ ss) each = by (gone (k, s)) refl (each_left f (suc k) ss (λ j m t e i g. each (suc j) m t e (omega (arith, i)) g))
    where
      plain : (a : ℕ) → a ≡ a + zero
      plain a = omega arith

      by : (b : Bool) → gone (k, s) ≡ b → list_all f (left_from (suc k) ss) ≡ true → list_all f (first_left b s k ss) ≡ true
      by true g r = r
      by false g r = both_true (each zero k s refl (plain k) g) r
