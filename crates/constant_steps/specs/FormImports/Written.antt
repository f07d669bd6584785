-- The text of a constant or an alias: it has no literals of functions and no composite literals, and no identifier of
-- it is one by which a package stands that has no name yet (Go specification, Constant expressions; Identifiers).
use Rattle.std.specs.Prelude.{◌≡◌, ℕ, List, [], ◌∷◌, None}
use Rattle.go_tree.specs.Tree.{Expr, ident, int_lit, rune_lit, str_lit, composite, selector, index, slice, call}
use Rattle.go_tree.specs.Tree.{func_lit, type_operand, unary, binary, star, Exprs, no_exprs, expr_and, ExprOption}
use Rattle.go_tree.specs.Tree.{no_expr, some_expr}
use Rattle.run_rules.specs.Naming.{unnamed_package}

-- No identifier stands for a package: none holds the byte 0.
abbrev pub NoneUnnamed : List (List ℕ) → Type 0
NoneUnnamed [] = Unit {0}
NoneUnnamed (n ∷ ns) = (unnamed_package n ≡ None) × NoneUnnamed ns

module _ {S : Type 0} where
  abbrev mutual
    -- an expression without literals of functions and without composite literals
    pub IsFlat : Expr S → Type 0
    IsFlat (ident _ _) = Unit {0}
    IsFlat (int_lit _ _) = Unit {0}
    IsFlat (rune_lit _ _) = Unit {0}
    IsFlat (str_lit _ _) = Unit {0}
    IsFlat (composite _ _ _) = ⊥
    IsFlat (selector _ x _) = IsFlat x
    IsFlat (index _ x i) = IsFlat x × IsFlat i
    IsFlat (slice _ x i j) = IsFlat x × (IsFlatOption i × IsFlatOption j)
    IsFlat (call _ x xs _) = IsFlat x × AreFlat xs
    IsFlat (func_lit _ _ _ _) = ⊥
    IsFlat (type_operand _ _) = Unit {0}
    IsFlat (unary _ _ x) = IsFlat x
    IsFlat (binary _ _ x y) = IsFlat x × IsFlat y
    IsFlat (star _ x) = IsFlat x

    -- each expression of a list
    pub AreFlat : Exprs S → Type 0
    AreFlat no_exprs = Unit {0}
    AreFlat (expr_and x xs) = IsFlat x × AreFlat xs

    -- one that may be left out
    pub IsFlatOption : ExprOption S → Type 0
    IsFlatOption no_expr = Unit {0}
    IsFlatOption (some_expr x) = IsFlat x
