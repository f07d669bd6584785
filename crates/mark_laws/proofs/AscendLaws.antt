-- Ascending numbers, and the lists that have them.
use Rattle.std.proofs.Common.{◌≡◌, ◌≤◌, ℕ, Bool, true, false, cond, if◌then◌else◌, List, [], ◌∷◌, map, filter, Option, Some, None, refl, sym, arith, nat_le, subst}
use Rattle.std.specs.Bool.{⊤}
use Rattle.std.specs.List.{filter_map, cons_option}
use Rattle.directive_scan.specs.declared.mark_types.BadMark.{BadMark}
use Rattle.directive_scan.specs.Marked.{merge_at, placed_in}
use Rattle.mark_laws.specs.Ascending.{AscendFrom, none, next}

pub from_less : (j k : ℕ) (xs : List ℕ) → j ≤ k → AscendFrom k xs → AscendFrom j xs
from_less j k _ h none = none
from_less j k _ h (next x xs le a) = next x xs (omega arith) a

module _ {A : Type 0} (place : A → ℕ) where
  filter_by : (p : A → Bool) (x : A) (xs : List A) (k : ℕ) (t : Bool) → k ≤ place x → AscendFrom (place x) (map place (filter p xs)) → AscendFrom k (map place (cond t (x ∷ filter p xs) (filter p xs)))
  filter_by p x xs k true h a = next (place x) (map place (filter p xs)) h a
  filter_by p x xs k false h a = from_less k (place x) (map place (filter p xs)) h a

  -- those that pass
  pub filtered : (p : A → Bool) (xs : List A) (k : ℕ) → AscendFrom k (map place xs) → AscendFrom k (map place (filter p xs))
  filtered p [] k a = none
  filtered p (x ∷ xs) k (next _ _ h a) = filter_by p x xs k (p x) h (filtered p xs (place x) a)

  module _ {B : Type 0} (of : B → ℕ) where
    -- what is made of an element, if anything is, has its place
    abbrev pub Keeps : ℕ → Option B → Type 0
    Keeps k None = ⊤
    Keeps k (Some y) = of y ≡ k

    made_by : (x : A) (ys : List B) (k : ℕ) (o : Option B) → Keeps (place x) o → k ≤ place x → AscendFrom (place x) (map of ys) → AscendFrom k (map of (cons_option o ys))
    made_by x ys k None e h a = from_less k (place x) (map of ys) h a
    made_by x ys k (Some y) e h a = next (of y) (map of ys) (subst (λ n. k ≤ n) (sym e) h) (subst (λ n. AscendFrom n (map of ys)) (sym e) a)

    -- what is made of each element
    pub made : (f : A → Option B) → ((x : A) → Keeps (place x) (f x)) → (xs : List A) (k : ℕ) → AscendFrom k (map place xs) → AscendFrom k (map of (filter_map f xs))
    made f e [] k a = none
    made f e (x ∷ xs) k (next _ _ h a) = made_by x (filter_map f xs) k (f x) (e x) h (made f e xs (place x) a)

    pub mapped : (f : A → B) → ((x : A) → of (f x) ≡ place x) → (xs : List A) (k : ℕ) → AscendFrom k (map place xs) → AscendFrom k (map of (map f xs))
    mapped f e [] k a = none
    mapped f e (x ∷ xs) k (next _ _ h a) = next (of (f x)) (map of (map f xs)) (subst (λ n. k ≤ n) (sym (e x)) h) (subst (λ n. AscendFrom n (map of (map f xs))) (sym (e x)) (mapped f e xs (place x) a))

-- ---- two lists, joined by place

abbrev place_of : BadMark → ℕ
place_of m = m.at

merge_by : (x y : BadMark) (xs ys : List BadMark) (k : ℕ) (t : Bool) → nat_le x.at y.at ≡ t → k ≤ x.at → k ≤ y.at → AscendFrom y.at (map place_of ys)
    → ((zs : List BadMark) → AscendFrom x.at (map place_of zs) → AscendFrom x.at (map place_of (placed_in xs zs)))
    → (y.at ≤ x.at → AscendFrom y.at (map place_of (merge_at x (placed_in xs) ys)))
    → AscendFrom k (map place_of (if t then x ∷ placed_in xs (y ∷ ys) else y ∷ merge_at x (placed_in xs) ys))
merge_by x y xs ys k true e h l b f g = next x.at (map place_of (placed_in xs (y ∷ ys))) h (f (y ∷ ys) (next y.at (map place_of ys) (grind (arith, e)) b))
merge_by x y xs ys k false e h l b f g = next y.at (map place_of (merge_at x (placed_in xs) ys)) l (g (grind (arith, e)))

merged : (x : BadMark) (xs ys : List BadMark) (k : ℕ) → k ≤ x.at → AscendFrom k (map place_of ys)
    → ((zs : List BadMark) → AscendFrom x.at (map place_of zs) → AscendFrom x.at (map place_of (placed_in xs zs)))
    → AscendFrom k (map place_of (merge_at x (placed_in xs) ys))
merged x xs [] k h b f = next x.at (map place_of (placed_in xs [])) h (f [] none)
merged x xs (y ∷ ys) k h (next _ _ l b) f = merge_by x y xs ys k (nat_le x.at y.at) refl h l b f (λ le. merged x xs ys y.at le b f)

pub placed : (xs ys : List BadMark) (k : ℕ) → AscendFrom k (map place_of xs) → AscendFrom k (map place_of ys) → AscendFrom k (map place_of (placed_in xs ys))
placed [] ys k a b = b
placed (x ∷ xs) ys k (next _ _ h a) b = merged x xs ys k h b (λ zs c. placed xs zs x.at a c)
