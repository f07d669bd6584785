-- The first weight over a limit is one more than the limit: a token adds one at most.
use Rattle.std.proofs.Common.{◌≡◌, ◌∙◌, ℕ, zero, suc, ◌+◌, ◌<◌, ◌≤◌, Bool, cond, if◌then◌else◌, nat_lt, List, [], ◌∷◌, take, slice_index, Option, Some, None, refl, ap, arith, All}
use Rattle.std.specs.Prelude.{sum}
use Rattle.std.proofs.lemmas.Bool.{lt-ltb, le-ltb}
use Rattle.std.proofs.lemmas.List.Sums.{sum_by-cons}
use Rattle.go_tree.specs.declared.tokens.Token.{Token}
use Rattle.go_tree.specs.GoWords.Terminals.{Terminal, comma, semicolon, paren, end_paren, bracket, end_bracket, brace, end_brace, terminal_of}
use Rattle.go_read.specs.SpellsWeight.{opened, closed, separated, counted, counts_after, weights_after}
use Rattle.run_rules.specs.Run.{first_over}

-- ---- what a token adds

sum_cons : (n : ℕ) (ns : List ℕ) → sum (n ∷ ns) ≡ n + sum ns
sum_cons n ns = sum_by-cons (λ (x : ℕ). x) n ns

opened_adds : (counts : List ℕ) → sum (opened counts) ≤ suc (sum counts)
opened_adds [] = omega arith
opened_adds (n ∷ counts) =
    let a = sum_cons 0 ((n + 1) ∷ counts) in
    let b = sum_cons (n + 1) counts in
    let c = sum_cons n counts in
    omega (arith, a, b, c)

closed_adds : (counts : List ℕ) → sum (closed counts) ≤ suc (sum counts)
closed_adds [] = omega arith
closed_adds (n ∷ []) = omega arith
closed_adds (n ∷ m ∷ counts) = let a = sum_cons n (m ∷ counts) in omega (arith, a)

separated_adds : (counts : List ℕ) → sum (separated counts) ≤ suc (sum counts)
separated_adds [] = omega arith
separated_adds (n ∷ counts) = let a = sum_cons 0 counts in let b = sum_cons n counts in omega (arith, a, b)

counted_adds : (counts : List ℕ) → sum (counted counts) ≤ suc (sum counts)
counted_adds [] = omega arith
counted_adds (n ∷ counts) = let a = sum_cons (n + 1) counts in let b = sum_cons n counts in omega (arith, a, b)

adds : (t : Terminal) (counts : List ℕ) → sum (counts_after t counts) ≤ suc (sum counts)
adds semicolon counts = separated_adds counts
adds comma counts = separated_adds counts
adds paren counts = opened_adds counts
adds bracket counts = opened_adds counts
adds brace counts = opened_adds counts
adds end_paren counts = closed_adds counts
adds end_bracket counts = closed_adds counts
adds end_brace counts = closed_adds counts
adds t counts = counted_adds counts

-- ---- the first over the limit

abbrev after : Token → List ℕ → List ℕ
after t counts = counts_after (terminal_of t.kind t.spelling) counts

-- a weight over the limit behind one within it
next_over : (bound before weight : ℕ) → before ≤ bound → weight ≤ suc before → bound < weight → weight ≡ suc bound
next_over bound before weight a b c = omega (arith, a, b, c)

at_first : (bound weight : ℕ) (rest : Option ℕ) → bound < weight → weight ≡ suc bound → (if nat_lt bound weight then Some weight else rest) ≡ Some (suc bound)
at_first bound weight rest over is = ap (λ (b : Bool). cond b (Some weight) rest) (lt-ltb bound weight over) ∙ ap Some is

at_later : (bound weight : ℕ) (rest : Option ℕ) → weight ≤ bound → (if nat_lt bound weight then Some weight else rest) ≡ rest
at_later bound weight rest within = ap (λ (b : Bool). cond b (Some weight) rest) (le-ltb bound weight within)

pub over_is : (bound : ℕ) (counts : List ℕ) (tokens : List Token) (k : ℕ) → sum counts ≤ bound → All (λ w. w ≤ bound) (take k (weights_after counts tokens))
    → bound < slice_index (weights_after counts tokens) k → first_over bound (weights_after counts tokens) ≡ Some (suc bound)
over_is bound counts [] k small within over = absurd (omega (arith, over))
over_is bound counts (t ∷ tokens) zero small within over =
    at_first bound (sum (after t counts)) (first_over bound (weights_after (after t counts) tokens)) over
    (next_over bound (sum counts) (sum (after t counts)) small (adds (terminal_of t.kind t.spelling) counts) over)
over_is bound counts (t ∷ tokens) (suc k) small within over =
    let here : sum (after t counts) ≤ bound = within 0 (sum (after t counts)) (omega arith) in
    at_later bound (sum (after t counts)) (first_over bound (weights_after (after t counts) tokens)) here
    ∙ over_is bound (after t counts) tokens k here (λ j d l. within (suc j) d (omega (arith, l))) over

pub none_over : (bound : ℕ) (weights : List ℕ) → All (λ w. w ≤ bound) weights → first_over bound weights ≡ None
none_over bound [] all = refl
none_over bound (w ∷ weights) all =
    at_later bound w (first_over bound weights) (all 0 w (omega arith)) ∙ none_over bound weights (λ j d l. all (suc j) d (omega (arith, l)))
