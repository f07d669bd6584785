-- The function literals that stand in an expression, but for those in bodies (Go specification, Function literals;
-- Expressions).
use Rattle.std.specs.Prelude.{List, [], ◌∷◌, ◌++◌, map}
use Rattle.std.specs.Borrow.{Bor}
use Rattle.go_tree.specs.declared.exprs.Expr as source
use Rattle.go_tree.specs.declared.spans.Span.{Span}
use Rattle.go_tree.specs.Tree.{Expr, ident, int_lit, rune_lit, str_lit, composite, selector, index, slice, call}
use Rattle.go_tree.specs.Tree.{func_lit, type_operand, unary, binary, star, Exprs, no_exprs, expr_and, ExprOption}
use Rattle.go_tree.specs.Tree.{no_expr, some_expr, Elems, no_elems, elem, Value, plain, braced, ValueOption, no_value}
use Rattle.go_tree.specs.Tree.{some_value}
use Rattle.go_tree.specs.View.{expr_of}

module _ {S : Type 0} where
  abbrev mutual
    -- those in an expression, in order
    pub literals_in : Expr S → List (Expr S)
    literals_in (ident _ n) = []
    literals_in (int_lit _ s) = []
    literals_in (rune_lit _ s) = []
    literals_in (str_lit _ s) = []
    literals_in (composite _ t es) = literals_in_elems es
    literals_in (selector _ b n) = literals_in b
    literals_in (index _ b i) = literals_in b ++ literals_in i
    literals_in (slice _ b i j) = literals_in b ++ (literals_in_option i ++ literals_in_option j)
    literals_in (call _ f xs _) = literals_in f ++ literals_in_all xs
    literals_in (func_lit s g r b) = func_lit s g r b ∷ []
    literals_in (type_operand _ t) = []
    literals_in (unary _ op e) = literals_in e
    literals_in (binary _ op x y) = literals_in x ++ literals_in y
    literals_in (star _ e) = literals_in e

    -- those in a list of expressions
    pub literals_in_all : Exprs S → List (Expr S)
    literals_in_all no_exprs = []
    literals_in_all (expr_and e es) = literals_in e ++ literals_in_all es

    -- those in an expression that may be left out
    pub literals_in_option : ExprOption S → List (Expr S)
    literals_in_option no_expr = []
    literals_in_option (some_expr e) = literals_in e

    -- those in the elements of a composite literal
    pub literals_in_elems : Elems S → List (Expr S)
    literals_in_elems no_elems = []
    literals_in_elems (elem _ k v es) = literals_in_key k ++ (literals_in_value v ++ literals_in_elems es)

    -- those in a key or a value
    pub literals_in_value : Value S → List (Expr S)
    literals_in_value (plain e) = literals_in e
    literals_in_value (braced _ es) = literals_in_elems es

    -- those in a key that may be left out
    pub literals_in_key : ValueOption S → List (Expr S)
    literals_in_key no_value = []
    literals_in_key (some_value k) = literals_in_value k

-- expressions of the code
abbrev pub seen : List (Bor source.Expr) → List (Expr Span)
seen es = map (λ e. expr_of e.now) es
