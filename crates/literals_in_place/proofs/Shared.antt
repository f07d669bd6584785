-- Two things that are one, of which something holds, and what follows of what is made of them.
use Rattle.std.specs.Prelude.{◌≡◌, refl, ℕ, suc, Bool, true, false, List, ◌∷◌, Option, Some, None, if◌then◌else◌}
use mathlib.Core.Path.{subst}
use Rattle.go_translation.specs.Operators.{answer_or}
use Rattle.imported_typing.specs.Reach.{AllOf}
use Rattle.imported_typing.proofs.Alike.{Any, Alike, neither, alike}

-- two things are one, of which `K` holds
pub data Shared {A : Type 0} (K : A → Type 0) : A → A → Type 0 where
  shared : {x : A} → K x → Shared K x x

module _ {A : Type 0} {K : A → Type 0} where
  pub one : {x y : A} → Shared K x y → x ≡ y
  one (shared k) = refl

  pub holds : {x y : A} → Shared K x y → K x
  holds (shared k) = k

  pub shared_by : {x y : A} → x ≡ y → K x → Shared K x y
  shared_by {x = x} e k = subst (λ y. Shared K x y) e (shared k)

  pub of_some : {x y : A} → Alike K (Some x) (Some y) → Shared K x y
  of_some (alike k) = shared k

  pub if_shared : (b : Bool) {x y v w : A} → Shared K x y → Shared K v w →
      Shared K (if b then x else v) (if b then y else w)
  if_shared true d e = d
  if_shared false d e = e

  pub both_shared : {x y : A} {xs ys : List A} → Shared K x y → Shared (AllOf K) xs ys →
      Shared (AllOf K) (x ∷ xs) (y ∷ ys)
  both_shared (shared k) (shared h) = shared (k, h)

  -- what is the same of each that they may be is the same of both
  pub with_shared : {B : Type 0} {x y : A} → Shared K x y → (f g : A → B) → ((a : A) → K a → f a ≡ g a) → f x ≡ g y
  with_shared (shared {x = a} k) f g h = h a k

  pub answer_or_same : {B : Type 0} {p q : Option A} → (b : B) → Alike K p q → (f g : A → B) →
      ((a : A) → K a → f a ≡ g a) → answer_or b p f ≡ answer_or b q g
  answer_or_same b neither f g h = refl
  answer_or_same b (alike {x = a} k) f g h = h a k

module _ {A B : Type 0} {K : A → Type 0} {L : B → Type 0} where
  pub elim_shared : {p q : Option A} → Alike K p q → (f g : A → B) {x y : B} → Shared L x y →
      ((a : A) → K a → Shared L (f a) (g a)) → Shared L (elim p [ None ↦ x | Some a ↦ f a ])
      (elim q [ None ↦ y | Some a ↦ g a ])
  elim_shared neither f g d h = d
  elim_shared (alike {x = a} k) f g d h = h a k

  pub answer_or_shared : {p q : Option A} {x y : B} → Alike K p q → Shared L x y → (f g : A → B) →
      ((a : A) → K a → Shared L (f a) (g a)) → Shared L (answer_or x p f) (answer_or y q g)
  answer_or_shared neither d f g h = d
  answer_or_shared (alike {x = a} k) d f g h = h a k

-- a number, of which nothing is asked
pub same_number : (n : ℕ) → Shared (Any {A = ℕ}) n n
same_number n = shared tt

pub next_number : {m n : ℕ} → Shared (Any {A = ℕ}) m n → Shared (Any {A = ℕ}) (suc m) (suc n)
next_number (shared k) = shared tt
