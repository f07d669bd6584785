-- The lists of trees, made from their entries.
use Rattle.std.specs.Prelude.{List, [], ◌∷◌, Option}
use Rattle.go_tree.specs.declared.spans.Span.{Span}
use Rattle.go_tree.specs.Tree as pure

-- the fields of a struct, from each one's span, name and type
abbrev pub fields_from : List (Span × pure.NameAt Span × pure.TypeExpr Span) → pure.Fields Span
fields_from [] = pure.no_fields
fields_from (x ∷ xs) = pure.field x.0 x.1 x.2 (fields_from xs)

-- a list of expressions, from each of them
abbrev pub exprs_from : List (pure.Expr Span) → pure.Exprs Span
exprs_from [] = pure.no_exprs
exprs_from (x ∷ xs) = pure.expr_and x (exprs_from xs)

-- a list of statements, from each of them
abbrev pub stmts_from : List (pure.Stmt Span) → pure.Stmts Span
stmts_from [] = pure.no_stmts
stmts_from (x ∷ xs) = pure.stmt_and x (stmts_from xs)

-- the elements of a literal, from each one's span, key and value
abbrev pub elems_from : List (Span × pure.ValueOption Span × pure.Value Span) → pure.Elems Span
elems_from [] = pure.no_elems
elems_from (x ∷ xs) = pure.elem x.0 x.1 x.2 (elems_from xs)

-- the arms of an `if`, from each one's span, first statement, test, and block with its span
abbrev pub arms_from : List (Span × pure.StmtOption Span × pure.Expr Span × (Span × pure.Stmts Span)) → pure.Arms Span
arms_from [] = pure.no_arms
arms_from (x ∷ xs) = pure.arm x.0 x.1 x.2 x.3.0 x.3.1 (arms_from xs)

-- the clauses of a switch, from each one's span, expressions and statements
abbrev pub cases_from : List (Span × pure.Exprs Span × pure.Stmts Span) → pure.Cases Span
cases_from [] = pure.no_cases
cases_from (x ∷ xs) = pure.case x.0 x.1 x.2 (cases_from xs)

-- the specs of `const` or `var`, from each one's span, names, type and values
abbrev pub specs_from : List (Span × List (pure.NameAt Span) × Option (pure.TypeExpr Span) × pure.Exprs Span) →
    pure.ValueSpecs Span
specs_from [] = pure.no_specs
specs_from (x ∷ xs) = pure.spec x.0 x.1 x.2 x.3 (specs_from xs)
