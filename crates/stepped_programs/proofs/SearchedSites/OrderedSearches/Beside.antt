-- Lists that are the same in a view: what stands in one stands in the other.
use Rattle.std.proofs.Common.{◌≡◌, ◌∙◌, refl, sym, ap, subst, ℕ, zero, suc, ◌+◌, Bool, true, false, if◌then◌else◌, List, [], ◌∷◌, ◌++◌, map, length, Option, Some, None, arith}
use Rattle.std.specs.Prelude.{slice_get}
use Rattle.std.specs.Option.{option_map}
use Rattle.std.proofs.lemmas.Option.{none-some, same_Some, slice_get-map}
use Rattle.pkg_graph.specs.Package.{Package}
use Rattle.pkg_graph.specs.ModuleFiles.Pieces.{comes_before}
use Rattle.run_rules.specs.Programs.{numbered_from, numbered, is_ready, lesser, least_ready, ordered_after, in_dependency_order}

module _ {A B C : Type 0} (f : A → C) (g : B → C) where
  beside : (o : Option A) (r : Option B) → option_map f o ≡ option_map g r → (y : B) → r ≡ Some y → (x : A) × (o ≡ Some x) × (f x ≡ g y)
  beside None None e y h = absurd (none-some y h)
  beside None (Some z) e y h = absurd (none-some (g z) e)
  beside (Some x) None e y h = absurd (none-some y h)
  beside (Some x) (Some z) e y h = (x, refl, same_Some (f x) (g z) e ∙ ap g (same_Some z y h))

  -- what stands at a number of a list
  pub beside_at : (xs : List A) (ys : List B) → map f xs ≡ map g ys → (k : ℕ) (y : B) → slice_get ys k ≡ Some y → (x : A) × (slice_get xs k ≡ Some x) × (f x ≡ g y)
  beside_at xs ys e k y h =
      beside (slice_get xs k) (slice_get ys k) (sym (slice_get-map f xs k) ∙ ap (λ (zs : List C). slice_get zs k) e ∙ slice_get-map g ys k) y h

  -- the one that is known
  pub same_at : (xs : List A) (ys : List B) → map f xs ≡ map g ys → (k : ℕ) (x : A) (y : B) → slice_get xs k ≡ Some x → slice_get ys k ≡ Some y → f x ≡ g y
  same_at xs ys e k x y a b = let t = beside_at xs ys e k y b in ap f (same_Some x t.0 (sym a ∙ t.1)) ∙ t.2

-- ---- items with their numbers

module _ {A : Type 0} (P : ℕ × A → Type 0) where
  -- it holds for each
  abbrev pub EachItem : List (ℕ × A) → Type 0
  EachItem [] = Unit {0}
  EachItem (q ∷ qs) = P q × EachItem qs

  abbrev OfItem : Option (ℕ × A) → Type 0
  OfItem None = Unit {0}
  OfItem (Some q) = P q

  numbered_each : (k : ℕ) (xs : List A) → ((i n : ℕ) (x : A) → slice_get xs i ≡ Some x → n ≡ k + i → P (n, x)) → EachItem (numbered_from k xs)
  numbered_each k [] f = tt
  numbered_each k (x ∷ xs) f = (f 0 k x refl (omega arith), numbered_each (suc k) xs (λ i n y e m. f (suc i) n y e (omega (arith, m))))

-- each stands under its number
pub all_numbered : {A : Type 0} (xs : List A) → EachItem (λ q. slice_get xs q.0 ≡ Some q.1) (numbered xs)
all_numbered xs = numbered_each (λ q. slice_get xs q.0 ≡ Some q.1) 0 xs (λ i n x e m. let h : n ≡ i = omega (arith, m) in subst (λ (j : ℕ). slice_get xs j ≡ Some x) (sym h) e)

-- ---- packages in dependency order

module _ {S : Type 0} (ps : List (Package S)) where
  abbrev Stands : ℕ × Package S → Type 0
  Stands q = slice_get ps q.0 ≡ Some q.1

  least_stands : (placed : List ℕ) (qs : List (ℕ × Package S)) → EachItem Stands qs → OfItem Stands (least_ready ps placed qs)
  least_stands placed [] h = tt
  least_stands placed (q ∷ qs) h = by (is_ready ps placed q) (least_ready ps placed qs) (least_stands placed qs h.1)
    where
      of_two : (r : ℕ × Package S) (b : Bool) → Stands r → OfItem Stands (if b then Some r else Some q)
      of_two r true k = k
      of_two r false k = h.0

      by : (b : Bool) (o : Option (ℕ × Package S)) → OfItem Stands o → OfItem Stands (if b then lesser q o else o)
      by false o k = k
      by true None k = h.0
      by true (Some r) k = of_two r (comes_before r.1.path q.1.path) k

  ordered_stand : (n : ℕ) (placed : List ℕ) → EachItem Stands (ordered_after ps n placed)
  ordered_stand zero placed = tt
  ordered_stand (suc n) placed = by (least_ready ps placed (numbered ps)) (least_stands placed (numbered ps) (all_numbered ps)) (λ q. ordered_stand n (placed ++ q.0 ∷ []))
    where
      by : (o : Option (ℕ × Package S)) → OfItem Stands o → ((q : ℕ × Package S) → EachItem Stands (ordered_after ps n (placed ++ q.0 ∷ [])))
          → EachItem Stands (elim o [ None ↦ [] | Some q ↦ q ∷ ordered_after ps n (placed ++ q.0 ∷ []) ])
      by None k f = tt
      by (Some q) k f = (k, f q)

  -- packages in dependency order stand under their numbers
  pub order_stands : EachItem Stands (in_dependency_order ps)
  order_stands = ordered_stand (length ps) []
