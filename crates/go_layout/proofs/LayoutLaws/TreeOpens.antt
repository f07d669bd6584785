-- The first character of the text of a list and of a statement.
use Rattle.std.proofs.Common.{◌≡◌, ℕ, Bool, true, false, List, Option, Some, None, refl}
use Rattle.std.specs.Prelude.{codes}
use Rattle.go_tree.specs.Tree.{NameAt, TypeExpr, Expr, Exprs, Elems, Value, ValueOption, Stmt, Arms, no_exprs, expr_and, no_elems, elem, plain, braced, no_value, some_value, const_decl, var_decl, empty, eval, step, assign, define, return_, break_, continue_, inner, if_, for_, range_, switch, defer, label, no_arms, arm, no_stmt, some_stmt}
use Rattle.go_layout.specs.Layouts.{gap, line, op, name_layout, within, ◌⊕◌}
use Rattle.go_tree.specs.GoWords.Operators.{assign_spelling}
use Rattle.go_layout.specs.TypeLayout.{names_layout, type_layout, dots_where, param_name_layout}
use Rattle.go_layout.specs.Parens.{needs_parens, header_within, closed_within}
use Rattle.go_layout.specs.TreeLayout.{spaced, step_spelling, comma_before_exprs, comma_before_elems, closed_before, comma_follows, expr_layout, exprs_layout, elems_layout, value_layout, stmt_layout, arms_layout, last_layout}
use Rattle.go_layout.specs.LayoutLaws.Formed.{HasExprs, HasArms, FormedName, FormedType, FormedExpr, FormedExprs, FormedElems, FormedValue, FormedStmt}
use Rattle.go_layout.specs.LayoutLaws.LayoutPieces.{letters_of}
use Rattle.go_layout.proofs.LayoutLaws.SpelledTypes.{U}
use Rattle.go_layout.proofs.LayoutLaws.Opens.{opens, opens_weak, is_led, name_opens, type_opens, names_open, expr_opens, within_opens}

-- an operand in its place
pub placed_opens : (e : Expr U) (p : Bool) (i : List ℕ) (h c : Bool) (more : List ℕ) → FormedExpr e → opens false (letters_of (within p (expr_layout i (header_within p h) (closed_within p c) e)) more) ≡ true
placed_opens e p i h c more f =
    let x = expr_layout i (header_within p h) (closed_within p c) e in
    within_opens p false x more (λ q. opens_weak (is_led e) (letters_of x more) (expr_opens e f i (header_within p h) (closed_within p c) more))

pub exprs_open : (xs : Exprs U) (i : List ℕ) (h c : Bool) (more : List ℕ) → FormedExprs xs → HasExprs xs → opens false (letters_of (exprs_layout i h c xs) more) ≡ true
exprs_open no_exprs i h c more f some = absurd some
exprs_open (expr_and e es) i h c more f some =
    let d = closed_before c es in placed_opens e (needs_parens 1 h d e) i h d (letters_of (comma_before_exprs es ⊕ exprs_layout i h c es) more) f.1

pub value_opens : (v : Value U) (i : List ℕ) (c : Bool) (more : List ℕ) → FormedValue v → opens false (letters_of (value_layout i c v) more) ≡ true
value_opens (plain e) i c more f = placed_opens e (needs_parens 1 false c e) i false c more f.1
value_opens (braced s es) i c more f = refl

abbrev HasElems : Elems U → Type 0
HasElems no_elems = ⊥
HasElems (elem _ _ _ _) = Unit {0}

pub elems_open : (s : U) (k : ValueOption U) (v : Value U) (es : Elems U) (i : List ℕ) (more : List ℕ) → FormedElems (elem s k v es) → opens false (letters_of (elems_layout i (elem s k v es)) more) ≡ true
elems_open s no_value v es i more f = value_opens v i (comma_follows es) (letters_of (comma_before_elems es ⊕ elems_layout i es) more) f.1
elems_open s (some_value k) v es i more f =
    value_opens k i false (letters_of ((op (codes ":") ⊕ gap) ⊕ value_layout i (comma_follows es) v ⊕ comma_before_elems es ⊕ elems_layout i es) more) f.0

pub param_opens : (o : Option (NameAt U)) (b : Bool) (t : TypeExpr U) (more : List ℕ) → FormedName o → FormedType t → opens true (letters_of (param_name_layout o ⊕ dots_where b ⊕ type_layout t) more) ≡ true
param_opens None true t more n f = refl
param_opens None false t more n f = type_opens t more f
param_opens (Some n) b t more is f = name_opens n.name (letters_of (gap ⊕ dots_where b ⊕ type_layout t) more) is

arms_open : (arms : Arms U) (i : List ℕ) (more : List ℕ) → HasArms arms → opens false (letters_of (arms_layout i arms) more) ≡ true
arms_open no_arms i more some = absurd some
arms_open (arm _ _ _ _ _ _) i more some = refl

pub stmt_opens : (x : Stmt U) (i : List ℕ) (h : Bool) (more : List ℕ) → FormedStmt x → opens false (letters_of (stmt_layout i h x) more) ≡ true
stmt_opens (const_decl s grouped ss) i h more f = refl
stmt_opens (var_decl s grouped ss) i h more f = refl
stmt_opens (empty s) i h more f = refl
stmt_opens (eval s e) i h more f = placed_opens e (needs_parens 1 h false e) i h false more f.1
stmt_opens (step s e up) i h more f = placed_opens e (needs_parens 1 h false e) i h false (letters_of (op (step_spelling up)) more) f.1
stmt_opens (assign s xs o ys) i h more f = exprs_open xs i h false (letters_of (spaced (assign_spelling o) ⊕ exprs_layout i h false ys) more) f.1 f.0
stmt_opens (define s ns ys) i h more f =
    let rest = letters_of (spaced (codes ":=") ⊕ exprs_layout i h false ys) more in opens_weak true (letters_of (names_layout ns) rest) (names_open ns rest f.0 f.1)
stmt_opens (return_ s xs) i h more f = refl
stmt_opens (break_ s n) i h more f = refl
stmt_opens (continue_ s n) i h more f = refl
stmt_opens (inner s body) i h more f = refl
stmt_opens (if_ s arms last) i h more f = arms_open arms i (letters_of (last_layout i last) more) f.0
stmt_opens (for_ s no_stmt t no_stmt sb body) i h more f = refl
stmt_opens (for_ s no_stmt t (some_stmt p) sb body) i h more f = refl
stmt_opens (for_ s (some_stmt x) t p sb body) i h more f = refl
stmt_opens (range_ s left e sb body) i h more f = refl
stmt_opens (switch s first t cs) i h more f = refl
stmt_opens (defer s e) i h more f = refl
stmt_opens (label s n x) i h more f =
    let rest = letters_of (op (codes ":") ⊕ line false i ⊕ stmt_layout i false x) more in opens_weak true (letters_of (name_layout n) rest) (name_opens n.name rest f.0)
