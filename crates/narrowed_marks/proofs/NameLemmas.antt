-- The name of a constant by its number among the names of its group.
use Rattle.std.proofs.Common.{◌≡◌, ◌∙◌, ◌<◌, ◌≤◌, ◌-◌, ℕ, zero, suc, List, [], ◌∷◌, Option, Some, None, length, map, refl, ap, sym, arith}
use Rattle.std.specs.Option.{option_map}
use Rattle.std.specs.Prelude.{slice_get}
use Rattle.go_tree.specs.declared.spans.Span.{Span}
use Rattle.go_tree.specs.declared.texts.NameAt as code
use Rattle.go_tree.specs.declared.exprs.Expr as code_expr
use Rattle.go_tree.specs.declared.stmts.ConstSpec as code_spec
use Rattle.go_tree.specs.View.{const_spec_of, expr_of, exprs_of, name_at_of}
use Rattle.go_tree.specs.Tree.{NameAt, Exprs, no_exprs, expr_and}
use Rattle.std.proofs.lemmas.List.{length-map}
use Rattle.go_tree.specs.Lists.{exprs_from, specs_from}
use Rattle.run_rules.specs.Sites.{Inlinable, constant_in_spec, less, name_of, nth_constant}

-- a number behind the names of a spec is one among the names of the specs behind it
pub behind : (i : ℕ) (ns : List (NameAt Span)) (es : Exprs Span) (rest : Option (Inlinable Span)) → length ns ≤ i
    → constant_in_spec i ns es rest ≡ rest
behind i [] es rest h = refl
behind zero (n ∷ ns) es rest h = absurd (omega (arith, h))
behind (suc i) (n ∷ ns) no_exprs rest h = behind i ns no_exprs rest (omega (arith, h))
behind (suc i) (n ∷ ns) (expr_and e es) rest h = behind i ns es rest (omega (arith, h))

pub left : (i : ℕ) (ns : List (NameAt Span)) → length ns ≤ i → less i ns ≡ i - length ns
left zero [] h = omega arith
left (suc i) [] h = omega arith
left zero (n ∷ ns) h = absurd (omega (arith, h))
left (suc i) (n ∷ ns) h = left i ns (omega (arith, h)) ∙ omega (arith, h)

-- the specs behind one
pub further : (i : ℕ) (s : code_spec.ConstSpec) (ss : List code_spec.ConstSpec) → length s.names ≤ i
    → nth_constant (i - length s.names) (specs_from (map const_spec_of ss)) ≡ nth_constant i (specs_from (map const_spec_of (s ∷ ss)))
further i s ss h =
    let ns : List (NameAt Span) = map name_at_of s.names in
    let k : length ns ≤ i = omega (arith, h, length-map s.names name_at_of) in
    let e : less i ns ≡ i - length s.names = left i ns k ∙ ap (λ (n : ℕ). i - n) (length-map s.names name_at_of) in
    sym (behind i ns (exprs_of s.values) (nth_constant (less i ns) (specs_from (map const_spec_of ss))) k ∙ ap (λ (j : ℕ). nth_constant j (specs_from (map const_spec_of ss))) e)

-- a number of a name of the spec is that of a constant where the spec has an expression for it
no_value : (i : ℕ) (ns : List (NameAt Span)) (rest : Option (Inlinable Span)) → i < length ns
    → option_map name_of (constant_in_spec i ns no_exprs rest) ≡ None
no_value i [] rest h = absurd (omega (arith, h))
no_value zero (n ∷ ns) rest h = refl
no_value (suc i) (n ∷ ns) rest h = no_value i ns rest (omega (arith, h))

pub valued : (i : ℕ) (ns : List code.NameAt) (xs : List code_expr.Expr) (rest : Option (Inlinable Span)) (n : code.NameAt) → Some n ≡ slice_get ns i → i < length xs
    → Some n.name ≡ option_map name_of (constant_in_spec i (map name_at_of ns) (exprs_from (map expr_of xs)) rest)
valued i [] xs rest n e h = absurd cc
valued zero (m ∷ ns) [] rest n e h = absurd (omega (arith, h))
valued zero (m ∷ ns) (x ∷ xs) rest n e h = ap (option_map (λ (n : code.NameAt). n.name)) e
valued (suc i) (m ∷ ns) [] rest n e h = absurd (omega (arith, h))
valued (suc i) (m ∷ ns) (x ∷ xs) rest n e h = valued i ns xs rest n e (omega (arith, h))

pub valueless : (i : ℕ) (ns : List code.NameAt) (xs : List code_expr.Expr) (rest : Option (Inlinable Span)) → i < length ns → length xs ≤ i
    → None ≡ option_map name_of (constant_in_spec i (map name_at_of ns) (exprs_from (map expr_of xs)) rest)
valueless i [] xs rest h k = absurd (omega (arith, h))
valueless zero (m ∷ ns) [] rest h k = refl
valueless zero (m ∷ ns) (x ∷ xs) rest h k = absurd (omega (arith, k))
valueless (suc i) (m ∷ ns) [] rest h k = sym (no_value i (map name_at_of ns) rest (omega (arith, h, length-map ns name_at_of)))
valueless (suc i) (m ∷ ns) (x ∷ xs) rest h k = valueless i ns xs rest (omega (arith, h)) (omega (arith, k))

-- a number within a list has an element
pub not_none : {A : Type 0} (xs : List A) (i : ℕ) → i < length xs → None ≡ slice_get xs i → ⊥
not_none [] i h e = absurd (omega (arith, h))
not_none (x ∷ xs) zero h e = cc
not_none (x ∷ xs) (suc i) h e = not_none xs i (omega (arith, h)) e
