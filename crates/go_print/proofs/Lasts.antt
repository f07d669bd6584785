-- The last expression of a list, and whether its text ends in an integer literal.
use Rattle.std.proofs.Common.{◌≡◌, ◌+◌, ◌-◌, ◌&&◌, ℕ, suc, zero, Bool, true, false, not, nat_eq, List, [], ◌∷◌, length, get_or, map, sym, ap, ◌∙◌, arith}
use Rattle.std.proofs.lemmas.Bool.{true≢false}
use Rattle.go_tree.specs.declared.spans.Span.{Span}
use Rattle.go_tree.specs.declared.exprs.Expr.{Expr}
use Rattle.go_tree.specs.Tree as pure
use Rattle.go_tree.specs.View.{expr_of}
use Rattle.go_tree.specs.Lists.{exprs_from}
use Rattle.go_layout.specs.Parens.{ends_in_integer, last_ends_in_integer, needs_parens}

-- the same of one expression in its place
abbrev is_spread_number : pure.Expr Span → Bool
is_spread_number e = not (needs_parens 1 false false e) && ends_in_integer false false e

entry_at : (xs : List Expr) (x : Expr) (k : ℕ) → k + 1 ≡ length xs → x ≡ get_or xs k x → last_ends_in_integer false false (exprs_from (map expr_of xs)) ≡ is_spread_number (expr_of x)
entry_at [] x k h e = absurd (omega (arith, h))
entry_at (y ∷ []) x zero h e = ap (λ z. is_spread_number (expr_of z)) (sym e)
entry_at (y ∷ []) x (suc k) h e = absurd (omega (arith, h))
entry_at (y ∷ z ∷ zs) x zero h e = absurd (omega (arith, h))
entry_at (y ∷ z ∷ zs) x (suc k) h e = entry_at (z ∷ zs) x k (omega (arith, h)) e

last_place : (n : ℕ) (b : Bool) → b ≡ nat_eq n 0 → b ≡ false → n - 1 + 1 ≡ n
last_place zero b h e = absurd (true≢false (sym h ∙ e))
last_place (suc n) b h e = omega arith

last_is : (l : pure.Exprs Span) (xs : List Expr) (x : Expr) (b : Bool) → l ≡ exprs_from (map expr_of xs) → b ≡ nat_eq (length xs) 0 → b ≡ false → x ≡ get_or xs (length xs - 1) x → last_ends_in_integer false false l ≡ is_spread_number (expr_of x)
last_is l xs x b seen empty some at = ap (last_ends_in_integer false false) seen ∙ entry_at xs x (length xs - 1) (last_place (length xs) b empty some) at

pub last_bare : (l : pure.Exprs Span) (xs : List Expr) (x : Expr) (b p q : Bool) → l ≡ exprs_from (map expr_of xs) → b ≡ nat_eq (length xs) 0 → b ≡ false → x ≡ get_or xs (length xs - 1) x → p ≡ needs_parens 1 false false (expr_of x) → p ≡ false → q ≡ ends_in_integer false false (expr_of x) → q ≡ last_ends_in_integer false false l
last_bare l xs x b p q seen empty some at ep is eq =
    eq ∙ sym (ap (λ m. not m && ends_in_integer false false (expr_of x)) (sym ep ∙ is)) ∙ sym (last_is l xs x b seen empty some at)

pub last_within : (l : pure.Exprs Span) (xs : List Expr) (x : Expr) (b p : Bool) → l ≡ exprs_from (map expr_of xs) → b ≡ nat_eq (length xs) 0 → b ≡ false → x ≡ get_or xs (length xs - 1) x → p ≡ needs_parens 1 false false (expr_of x) → p ≡ true → not p ≡ last_ends_in_integer false false l
last_within l xs x b p seen empty some at ep is =
    ap not is ∙ sym (ap (λ m. not m && ends_in_integer false false (expr_of x)) (sym ep ∙ is)) ∙ sym (last_is l xs x b seen empty some at)
