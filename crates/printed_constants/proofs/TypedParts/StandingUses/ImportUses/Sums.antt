-- Sums over the declarations of a file, of which one is changed.
use Rattle.std.proofs.Common.{◌≡◌, ◌∙◌, refl, sym, ap, subst, ℕ, zero, suc, ◌+◌, Bool, ◌||◌, nat_lt, List, [], ◌∷◌, Some, is_some, arith}
use Rattle.std.specs.Prelude.{slice_get}
use Rattle.std.specs.List.{list_any}
use Rattle.std.proofs.lemmas.Bool.Decides.{nat_tests}
use Rattle.std.proofs.lemmas.Option.{same_Some}
use Rattle.go_tree.specs.File.{Decl}
use Rattle.run_rules.specs.Steps.{change_nth}
use Rattle.printed_constants.specs.TypedParts.StandingUses.ImportUses.Steps.{EachDecl}

module _ {S : Type 0} where
  abbrev pub sum : (Decl S → ℕ) → List (Decl S) → ℕ
  sum h [] = 0
  sum h (x ∷ xs) = h x + sum h xs

  pub each_at : (P : Decl S → Type 0) (xs : List (Decl S)) → ((i : ℕ) (d : Decl S) → slice_get xs i ≡ Some d → P d) → EachDecl P xs
  each_at P [] h = tt
  each_at P (x ∷ xs) h = (h zero x refl, each_at P xs (λ i d e. h (suc i) d e))

  pub nth_of : (P : Decl S → Type 0) (xs : List (Decl S)) (i : ℕ) (d : Decl S) → slice_get xs i ≡ Some d → EachDecl P xs → P d
  nth_of P [] i d e h = absurd (grind (arith, ap is_some e))
  nth_of P (x ∷ xs) zero d e h = subst P (same_Some x d e) h.0
  nth_of P (x ∷ xs) (suc i) d e h = nth_of P xs i d e h.1

  pub sum_same : (h g : Decl S → ℕ) (xs : List (Decl S)) → EachDecl (λ d. h d ≡ g d) xs → sum h xs ≡ sum g xs
  sum_same h g [] e = refl
  sum_same h g (x ∷ xs) e = λ v. e.0 v + sum_same h g xs e.1 v

  pub any_sum : (h : Decl S → ℕ) (f : Decl S → Bool) (xs : List (Decl S)) → EachDecl (λ x. f x ≡ nat_lt 0 (h x)) xs → list_any f xs ≡ nat_lt 0 (sum h xs)
  any_sum h f [] e = refl
  any_sum h f (x ∷ xs) e = (λ v. e.0 v || any_sum h f xs e.1 v) ∙ by (h x) (sum h xs)
    where
      by : (m n : ℕ) → (nat_lt 0 m || nat_lt 0 n) ≡ nat_lt 0 (m + n)
      by m n = grind (arith, nat_tests)

  pub each_so : (P Q : Decl S → Type 0) → ((d : Decl S) → P d → Q d) → (xs : List (Decl S)) → EachDecl P xs → EachDecl Q xs
  each_so P Q f [] h = tt
  each_so P Q f (x ∷ xs) h = (f x h.0, each_so P Q f xs h.1)

  -- one of them changes by what goes and what comes, the others keep what they have
  pub sum_changed : (before after : Decl S → ℕ) (F : Decl S → Decl S) (P Q : Decl S → Type 0) (goes comes : ℕ) (x : Decl S)
      → ((y : Decl S) → P y → Q y → after y ≡ before y) → (P x → Q (F x) → after (F x) + goes ≡ before x + comes)
      → (i : ℕ) (xs : List (Decl S)) → slice_get xs i ≡ Some x → EachDecl P xs → EachDecl Q (change_nth i F xs) → sum after (change_nth i F xs) + goes ≡ sum before xs + comes
  sum_changed before after F P Q goes comes x same own i [] e p q = absurd (grind (arith, ap is_some e))
  sum_changed before after F P Q goes comes x same own zero (y ∷ ys) e p q =
      omega (arith, subst (λ (z : Decl S). P z → Q (F z) → after (F z) + goes ≡ before z + comes) (sym (same_Some y x e)) own p.0 q.0, rest ys p.1 q.1)
    where
      rest : (xs : List (Decl S)) → EachDecl P xs → EachDecl Q xs → sum after xs ≡ sum before xs
      rest [] p q = refl
      rest (z ∷ zs) p q = λ v. same z p.0 q.0 v + rest zs p.1 q.1 v
  sum_changed before after F P Q goes comes x same own (suc i) (y ∷ ys) e p q = omega (arith, same y p.0 q.0, sum_changed before after F P Q goes comes x same own i ys e p.1 q.1)
