-- The first token over the limit is found from left to right.
use Rattle.std.proofs.Common.{◌≡◌, ℕ, ◌<◌, ◌≤◌, Bool, true, false, cond, nat_lt, List, [], ◌∷◌, ◌++◌, length, take, get_or, Option, Some, None, refl, ap, subst, arith, All}
use Rattle.std.specs.Prelude.{sum}
use Rattle.std.proofs.lemmas.Bool.Decides.{nat_tests}
use Rattle.std.proofs.lemmas.List.Elements.{All-nil, All-cons}
use Rattle.go_tree.specs.declared.tokens.Token.{Token}
use Rattle.go_read.specs.SpellsWeight.{weights_after}
use Rattle.go_nesting.specs.Over.{IsFirstOver, counts_at, first_over}

pub nil-over : (limit : ℕ) (counts : List ℕ) → first_over limit counts [] ≡ None
unfolding first_over
nil-over limit counts = refl

over_is : (a b : ℕ) → a < b → nat_lt a b ≡ true
over_is a b lt = grind (arith, nat_tests, lt)

within_is : (a b : ℕ) → b ≤ a → nat_lt a b ≡ false
within_is a b le = grind (arith, nat_tests, le)

pub over_here : (limit : ℕ) (counts : List ℕ) (t : Token) (ts : List Token) → limit < sum (counts_at t counts) → first_over limit counts (t ∷ ts) ≡ Some t.span.start
unfolding first_over
over_here limit counts t ts lt =
    let yes : nat_lt limit (sum (counts_at t counts)) ≡ true = over_is limit (sum (counts_at t counts)) lt in
    ap (λ (b : Bool). cond b (Some t.span.start) (first_over limit (counts_at t counts) ts)) yes

pub over_later : (limit : ℕ) (counts : List ℕ) (t : Token) (ts : List Token) → sum (counts_at t counts) ≤ limit → first_over limit counts (t ∷ ts) ≡ first_over limit (counts_at t counts) ts
unfolding first_over
over_later limit counts t ts le =
    let no : nat_lt limit (sum (counts_at t counts)) ≡ false = within_is limit (sum (counts_at t counts)) le in
    ap (λ (b : Bool). cond b (Some t.span.start) (first_over limit (counts_at t counts) ts)) no

-- from any counts
Over : ℕ → List ℕ → List Token → Option ℕ → Type 0
Over limit counts tokens None = All (λ weight. weight ≤ limit) (weights_after counts tokens)
Over limit counts tokens (Some place) =
    (front : List Token) × (token : Token) × (rest : List Token) × (tokens ≡ front ++ token ∷ rest)
    × All (λ weight. weight ≤ limit) (take (length front) (weights_after counts tokens)) × (limit < get_or (weights_after counts tokens) (length front) 0) × (place ≡ token.span.start)

finds_over : (limit : ℕ) (counts : List ℕ) (tokens : List Token) → Over limit counts tokens (first_over limit counts tokens)
unfolding Over first_over
finds_over limit counts [] = All-nil (λ (weight : ℕ). weight ≤ limit)
finds_over limit counts (t ∷ ts) = by_test (nat_lt limit (sum (counts_at t counts))) refl (finds_over limit (counts_at t counts) ts)
  where
    down : (a b : ℕ) → nat_lt a b ≡ false → b ≤ a
    down a b e = grind (arith, nat_tests, e)

    up : (a b : ℕ) → nat_lt a b ≡ true → a < b
    up a b e = grind (arith, nat_tests, e)

    further : (o : Option ℕ) → sum (counts_at t counts) ≤ limit → Over limit (counts_at t counts) ts o → Over limit counts (t ∷ ts) o
    further None le h = All-cons (λ (weight : ℕ). weight ≤ limit) (sum (counts_at t counts)) (weights_after (counts_at t counts) ts) le h
    further (Some place) le h = (
      t ∷ h.0,
      h.1,
      h.2,
      ap (λ (xs : List Token). t ∷ xs) h.3,
      All-cons (λ (weight : ℕ). weight ≤ limit) (sum (counts_at t counts)) (take (length h.0) (weights_after (counts_at t counts) ts)) le h.4,
      h.5,
      h.6,
    )

    by_test : (b : Bool) → nat_lt limit (sum (counts_at t counts)) ≡ b → Over limit (counts_at t counts) ts (first_over limit (counts_at t counts) ts)
        → Over limit counts (t ∷ ts) (cond b (Some t.span.start) (first_over limit (counts_at t counts) ts))
    by_test true e h = ([], t, ts, refl, All-nil (λ (weight : ℕ). weight ≤ limit), up limit (sum (counts_at t counts)) e, refl)
    by_test false e h = further (first_over limit (counts_at t counts) ts) (down limit (sum (counts_at t counts)) e) h

pub first_is_over : (limit : ℕ) (tokens : List Token) (o : Option ℕ) → first_over limit (0 ∷ []) tokens ≡ o → IsFirstOver limit tokens o
unfolding Over
first_is_over limit tokens o e = whole o (subst (λ (p : Option ℕ). Over limit (0 ∷ []) tokens p) e (finds_over limit (0 ∷ []) tokens))
  where
    whole : (o : Option ℕ) → Over limit (0 ∷ []) tokens o → IsFirstOver limit tokens o
    whole None h = h
    whole (Some place) h = record { front = h.0; token = h.1; rest = h.2; cut = h.3; within = h.4; over = h.5; place_is = h.6 }
