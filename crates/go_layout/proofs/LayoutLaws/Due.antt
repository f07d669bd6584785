-- Whether a newline after the text of a tree gives a semicolon.
use Rattle.std.proofs.Common.{◌≡◌, ℕ, ◌+◌, Bool, true, false, ◌||◌, List, [], ◌∷◌, Option, Some, None, refl}
use Rattle.std.specs.Prelude.{codes}
use Rattle.go_tree.specs.Tree.{NameAt, TypeExpr, Param, Sig, Expr, Exprs, Stmt, Arms, ValueSpecs, named, pointer, slice_type, map_type, struct_type, ident, int_lit, rune_lit, str_lit, composite, selector, index, slice, call, func_lit, type_operand, unary, binary, star, no_exprs, expr_and, const_decl, var_decl, empty, eval, step, assign, define, return_, break_, continue_, inner, if_, for_, range_, switch, defer, label, no_arms, arm, no_stmt, some_stmt, no_block, some_block, no_specs, spec}
use Rattle.go_tree.specs.GoWords.Terminals.{level_of}
use Rattle.go_layout.specs.Layouts.{Layout, within, op}
use Rattle.go_layout.specs.TypeLayout.{type_layout, names_layout, result_layout, results_layout, sig_layout}
use Rattle.go_layout.specs.Parens.{needs_parens, runs_into, header_within, closed_within}
use Rattle.go_layout.specs.TreeLayout.{expr_layout, exprs_layout, stmt_layout, arms_layout, specs_layout, spec_type_layout, equals_before, gives_semicolon}
use Rattle.go_layout.specs.LayoutLaws.Formed.{HasNames, HasExprs, HasArms, FormedSpec, FormedGroup, FormedSpecs, FormedStmt}
use Rattle.go_layout.specs.LayoutLaws.LayoutPieces.{due_of}
use Rattle.go_layout.proofs.LayoutLaws.SpelledTypes.{U}

pub type_due : (t : TypeExpr U) (d : Bool) → due_of (type_layout t) d ≡ true
type_due (named s p n) d = refl
type_due (pointer s t) d = type_due t (due_of (op (codes "*")) d)
type_due (slice_type s t) d = type_due t true
type_due (map_type s k t) d = type_due t true
type_due (struct_type s fs) d = refl

one_due : (o : Option (NameAt U)) (p : Param U) (d : Bool) → due_of (result_layout o p) d ≡ true
one_due None p d = type_due p.of d
one_due (Some n) p d = refl

results_due : (ps : List (Param U)) → due_of (results_layout ps) true ≡ true
results_due [] = refl
results_due (p ∷ []) = one_due p.name p true
results_due (p ∷ q ∷ ps) = refl

pub sig_due : (g : Sig U) (d : Bool) → due_of (sig_layout g) d ≡ true
sig_due g d = results_due g.results

within_due : (p : Bool) (a : Layout) (d : Bool) → ((d2 : Bool) → due_of a d2 ≡ true) → due_of (within p a) d ≡ true
within_due true a d k = refl
within_due false a d k = k d

pub expr_due : (e : Expr U) (i : List ℕ) (h c d : Bool) → due_of (expr_layout i h c e) d ≡ true
expr_due (ident s n) i h c d = refl
expr_due (int_lit s n) i h c d = refl
expr_due (rune_lit s n) i h c d = refl
expr_due (str_lit s n) i h c d = refl
expr_due (composite s t es) i h c d = refl
expr_due (selector s e n) i h c d = refl
expr_due (index s e at) i h c d = refl
expr_due (slice s e from to) i h c d = refl
expr_due (call s f xs rest) i h c d = refl
expr_due (func_lit s g sb body) i h c d = refl
expr_due (type_operand s t) i h c d = type_due t d
expr_due (unary s o e) i h c d = let p = needs_parens 6 h c e || runs_into o e in within_due p (expr_layout i (header_within p h) (closed_within p c) e) _ (λ d2. expr_due e i (header_within p h) (closed_within p c) d2)
expr_due (binary s o a b) i h c d =
    let q = needs_parens (level_of o + 1) h c b in within_due q (expr_layout i (header_within q h) (closed_within q c) b) _ (λ d2. expr_due b i (header_within q h) (closed_within q c) d2)
expr_due (star s e) i h c d = let p = needs_parens 6 h c e in within_due p (expr_layout i (header_within p h) (closed_within p c) e) _ (λ d2. expr_due e i (header_within p h) (closed_within p c) d2)

pub placed_due : (e : Expr U) (p : Bool) (i : List ℕ) (h c d : Bool) → due_of (within p (expr_layout i (header_within p h) (closed_within p c) e)) d ≡ true
placed_due e p i h c d = within_due p (expr_layout i (header_within p h) (closed_within p c) e) d (λ d2. expr_due e i (header_within p h) (closed_within p c) d2)

exprs_due : (xs : Exprs U) (i : List ℕ) (h c d : Bool) → HasExprs xs → due_of (exprs_layout i h c xs) d ≡ true
exprs_due no_exprs i h c d some = absurd some
exprs_due (expr_and e no_exprs) i h c d some = placed_due e (needs_parens 1 h c e) i h c d
exprs_due (expr_and e (expr_and e2 es)) i h c d some = exprs_due (expr_and e2 es) i h c false tt

names_due : (ns : List (NameAt U)) (d : Bool) → HasNames ns → due_of (names_layout ns) d ≡ true
names_due [] d some = absurd some
names_due (n ∷ []) d some = refl
names_due (n ∷ m ∷ ns) d some = names_due (m ∷ ns) false tt

-- a spec without the newline after it
pub spec_due : (constant : Bool) (ns : List (NameAt U)) (t : Option (TypeExpr U)) (xs : Exprs U) (i : List ℕ) (d : Bool) → HasNames ns → FormedSpec constant t xs
    → due_of (exprs_layout i false false xs) (due_of (equals_before xs) (due_of (spec_type_layout t) (due_of (names_layout ns) d))) ≡ true
spec_due constant ns t (expr_and e es) i d some f = exprs_due (expr_and e es) i false false _ tt
spec_due constant ns None no_exprs i d some f = names_due ns d some
spec_due constant ns (Some t) no_exprs i d some f = type_due t _

one_spec_due : (ss : ValueSpecs U) (constant : Bool) (i : List ℕ) (d : Bool) → FormedGroup false ss → FormedSpecs constant ss → due_of (specs_layout i None ss) d ≡ true
one_spec_due no_specs constant i d one f = absurd one
one_spec_due (spec s ns t xs no_specs) constant i d one f = spec_due constant ns t xs i d f.0 f.4
one_spec_due (spec s ns t xs (spec _ _ _ _ _)) constant i d one f = absurd one

arms_due : (arms : Arms U) (i : List ℕ) (d : Bool) → HasArms arms → due_of (arms_layout i arms) d ≡ true
arms_due no_arms i d some = absurd some
arms_due (arm _ _ _ _ _ no_arms) i d some = refl
arms_due (arm _ _ _ _ _ (arm s first t sb body arms)) i d some = arms_due (arm s first t sb body arms) i false tt

-- none after an empty statement, whose semicolon is written
pub stmt_due : (x : Stmt U) → FormedStmt x → (i : List ℕ) (h d : Bool) → due_of (stmt_layout i h x) d ≡ gives_semicolon x
stmt_due (const_decl s false ss) f i h d = one_spec_due ss true i false f.0 f.1
stmt_due (const_decl s true ss) f i h d = refl
stmt_due (var_decl s false ss) f i h d = one_spec_due ss false i false f.0 f.1
stmt_due (var_decl s true ss) f i h d = refl
stmt_due (empty s) f i h d = refl
stmt_due (eval s e) f i h d = placed_due e (needs_parens 1 h false e) i h false d
stmt_due (step s e true) f i h d = refl
stmt_due (step s e false) f i h d = refl
stmt_due (assign s xs o ys) f i h d = exprs_due ys i h false _ f.3
stmt_due (define s ns ys) f i h d = exprs_due ys i h false _ f.2
stmt_due (return_ s no_exprs) f i h d = refl
stmt_due (return_ s (expr_and e es)) f i h d = exprs_due (expr_and e es) i false false true tt
stmt_due (break_ s None) f i h d = refl
stmt_due (break_ s (Some n)) f i h d = refl
stmt_due (continue_ s None) f i h d = refl
stmt_due (continue_ s (Some n)) f i h d = refl
stmt_due (inner s body) f i h d = refl
stmt_due (if_ s arms no_block) f i h d = arms_due arms i d f.0
stmt_due (if_ s arms (some_block sb body)) f i h d = refl
stmt_due (for_ s no_stmt t no_stmt sb body) f i h d = refl
stmt_due (for_ s no_stmt t (some_stmt p) sb body) f i h d = refl
stmt_due (for_ s (some_stmt x) t p sb body) f i h d = refl
stmt_due (range_ s left e sb body) f i h d = refl
stmt_due (switch s first t cs) f i h d = refl
stmt_due (defer s e) f i h d = expr_due e i false false false
stmt_due (label s n x) f i h d = stmt_due x f.1 i false false
