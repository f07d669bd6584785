-- How often the parts that a walk lists use an import.
use Rattle.std.proofs.Common.{◌≡◌, ◌∙◌, refl, ℕ, ◌+◌, Bool, true, false, ◌||◌, nat_lt, List, [], ◌∷◌, ◌++◌, Some, None, arith}
use Rattle.std.proofs.lemmas.Bool.Decides.{nat_tests}
use Rattle.std.specs.List.{list_any}
use Rattle.go_tree.specs.Tree.{TypeExpr, named, pointer, slice_type, map_type, struct_type, ident, selector}
use Rattle.run_rules.specs.Surroundings.{Place, Seen, seen, seen_type, seen_stmt}
use Rattle.run_rules.specs.Sites.{named_in}
use Rattle.repeated_parts.specs.ImportsUnused.Uses.{one_if}

module _ {S : Type 0} where
  -- the total of what is counted of each
  abbrev pub total : (Seen S → ℕ) → List (Seen S) → ℕ
  total h [] = 0
  total h (x ∷ xs) = h x + total h xs

  pub total-append : (h : Seen S → ℕ) (xs ys : List (Seen S)) → total h (xs ++ ys) ≡ total h xs + total h ys
  total-append h [] ys = omega arith
  total-append h (x ∷ xs) ys = omega (arith, total-append h xs ys)

  -- what is before the dot in a type passes
  abbrev pub before_dot : (List ℕ → Bool) → TypeExpr S → Bool
  before_dot h (named _ (Some q) n) = h q.name
  before_dot h t = false

  abbrev pub types_of : (List ℕ → Bool) → List (TypeExpr S) → ℕ
  types_of h [] = 0
  types_of h (t ∷ ts) = one_if (before_dot h t) + types_of h ts

  -- how often a part uses what names mean that pass, before its dot
  abbrev pub uses_of : (Place S → List ℕ → Bool) → Seen S → ℕ
  uses_of h (seen p u (selector _ (ident _ n) _)) = one_if (h p n)
  uses_of h (seen p u e) = 0
  uses_of h (seen_type p t) = types_of (h p) (named_in t)
  uses_of h (seen_stmt p s) = 0

  pub before_same : (h k : List ℕ → Bool) → ((n : List ℕ) → h n ≡ k n) → (t : TypeExpr S) → before_dot h t ≡ before_dot k t
  before_same h k e (named s None n) = refl
  before_same h k e (named s (Some q) n) = e q.name
  before_same h k e (pointer s t) = refl
  before_same h k e (slice_type s t) = refl
  before_same h k e (map_type s a t) = refl
  before_same h k e (struct_type s fs) = refl

  pub types_same : (h k : List ℕ → Bool) → ((n : List ℕ) → h n ≡ k n) → (ts : List (TypeExpr S)) → types_of h ts ≡ types_of k ts
  types_same h k e [] = refl
  types_same h k e (t ∷ ts) = λ v. one_if (before_same h k e t v) + types_same h k e ts v

  -- ---- something is used where the total isn't 0

  pub any_types : (h : List ℕ → Bool) (q : TypeExpr S → Bool) → ((t : TypeExpr S) → q t ≡ before_dot h t) → (ts : List (TypeExpr S)) → list_any q ts ≡ nat_lt 0 (types_of h ts)
  any_types h q e [] = refl
  any_types h q e (t ∷ ts) = (λ v. e t v || any_types h q e ts v) ∙ by (before_dot h t) (types_of h ts)
    where
      by : (b : Bool) (m : ℕ) → (b || nat_lt 0 m) ≡ nat_lt 0 (one_if b + m)
      by true m = grind (arith, nat_tests)
      by false m = grind (arith, nat_tests)

-- ---- sums of few numbers

pub two_parts : (a b i j : ℕ) {l m x y z : ℕ} → x ≡ a + b → y ≡ i + j → z ≡ l + m → a + i ≡ l → b + j ≡ m → x + y ≡ z
two_parts a b i j e f g h k = omega (arith, e, f, g, h, k)

pub zero_sum : {a b : ℕ} → a ≡ 0 → b ≡ 0 → a + b ≡ 0
zero_sum e f = omega (arith, e, f)

pub none_first : {a b c : ℕ} → a ≡ 0 → b ≡ c → a + b ≡ c
none_first e f = omega (arith, e, f)

pub none_last : {a b c : ℕ} → a ≡ c → b ≡ 0 → a + b ≡ c
none_last e f = omega (arith, e, f)

pub past_one : (u t : ℕ) {z v c h : ℕ} → z ≡ v + t → v ≡ u + c → c ≡ h → z ≡ u + (h + t)
past_one u t e f g = omega (arith, e, f, g)

pub past_none : (u t : ℕ) {z h : ℕ} → z ≡ u + t → h ≡ 0 → z ≡ u + (h + t)
past_none u t e f = omega (arith, e, f)

pub put_last : (h : ℕ) {s n t r : ℕ} → s ≡ n → t ≡ r → (h + s) + t ≡ (h + r) + n
put_last h e f = omega (arith, e, f)

pub put_later : (r n : ℕ) {o h t : ℕ} → o ≡ h → t ≡ r + n → o + t ≡ (h + r) + n
put_later r n e f = omega (arith, e, f)

pub past_nothing : (u t : ℕ) {z v : ℕ} → z ≡ v + t → v ≡ u + 0 → z ≡ u + t
past_nothing u t e f = omega (arith, e, f)
