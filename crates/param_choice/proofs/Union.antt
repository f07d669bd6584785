-- The union of two safe sets is safe.
use Rattle.std.proofs.Common.{◌≡◌, ◌⊎◌, inl, inr, ℕ, Bool, true, false, ◌||◌, refl, ap}
use Rattle.param_choice.specs.Safe.{IsSafe, union}
use Rattle.param_choice.specs.declared.table.CallTable.{CallTable}

in_either : (a b : Bool) → (a || b) ≡ true → (a ≡ true) ⊎ (b ≡ true)
in_either true b h = inl refl
in_either false b h = inr h

by_left : (a b : Bool) → a ≡ true → (a || b) ≡ true
by_left a b h = ap (λ c. c || b) h

by_right : (a b : Bool) → b ≡ true → (a || b) ≡ true
by_right true b h = refl
by_right false b h = h

module _ (t : CallTable) (s u : ℕ → Bool) where
  left : (i : ℕ) → s i ≡ true → union s u i ≡ true
  left i = by_left (s i) (u i)

  right : (i : ℕ) → u i ≡ true → union s u i ≡ true
  right i = by_right (s i) (u i)

  by_cases : (i : ℕ) (P : Type 0) → union s u i ≡ true → (s i ≡ true → P) → (u i ≡ true → P) → P
  by_cases i P h f g = go (in_either (s i) (u i) h)
    where
      go : (s i ≡ true) ⊎ (u i ≡ true) → P
      go (inl e) = f e
      go (inr e) = g e

  pub IsSafe-union : IsSafe t s → IsSafe t u → IsSafe t (union s u)
  IsSafe-union a b = record {
    params = λ i h. by_cases i _ h (a.params i) (b.params i);
    alone = λ i r h at. by_cases i _ h (λ e. a.alone i r e at) (λ e. b.alone i r e at);
    ordered = λ i j r q h lt at_i at_j clash. by_cases i _ h
        (λ e. let o = a.ordered i j r q e lt at_i at_j clash in (left j o.0, o.1))
        (λ e. let o = b.ordered i j r q e lt at_i at_j clash in (right j o.0, o.1));
    named = λ i j h names other. by_cases i _ h (λ e. left j (a.named i j e names other)) (λ e. right j (b.named i j e names other));
  }
