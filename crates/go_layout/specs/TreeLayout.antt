-- The layout of expressions and statements (Go specification, Expressions, Statements; go/printer of the Go standard
-- library).
--
-- `indent` is the indent of the line on which the form begins. `header` says that it stands in the header of an `if`,
-- `for`
-- or `switch` outside brackets, and `closed` that `(`, `,` or `)` directly follows it.
use Rattle.std.specs.Prelude.{ℕ, ◌+◌, Bool, true, false, ◌||◌, List, Option, Some, None, codes}
use Rattle.go_tree.specs.declared.tokens.TokenKind.TheVariants.{Ident, Integer, Rune, Str}
use Rattle.go_tree.specs.declared.exprs.Rest.{Rest}
use Rattle.go_tree.specs.declared.exprs.Rest.TheVariants.{Whole}
use Rattle.go_tree.specs.Tree.{NameAt, TypeExpr, Expr, Exprs, ExprOption, Elems, Value, ValueOption, Stmt, Stmts}
use Rattle.go_tree.specs.Tree.{StmtOption, BlockOption, RangeLeft, Arms, Cases, ValueSpecs, ident, int_lit, rune_lit}
use Rattle.go_tree.specs.Tree.{str_lit, composite, selector, index, slice, call, func_lit, type_operand, unary, binary}
use Rattle.go_tree.specs.Tree.{star, no_exprs, expr_and, no_expr, some_expr, no_elems, elem, plain, braced, no_value}
use Rattle.go_tree.specs.Tree.{some_value, const_decl, var_decl, empty, eval, step, assign, define, return_, break_}
use Rattle.go_tree.specs.Tree.{continue_, inner, if_, for_, range_, switch, defer, label, no_stmts, stmt_and, no_stmt}
use Rattle.go_tree.specs.Tree.{some_stmt, no_block, some_block, nothing, assigns, defines, no_arms, arm, no_cases, case}
use Rattle.go_tree.specs.Tree.{no_specs, spec}
use Rattle.go_tree.specs.GoWords.Terminals.{level_of}
use Rattle.go_layout.specs.Layouts.{Layout, no_text, a_token, gap, line, ◌⊕◌, key, op, name_layout, deeper}
use Rattle.go_layout.specs.Layouts.{within}
use Rattle.go_tree.specs.GoWords.Operators.{binary_spelling, unary_spelling, assign_spelling}
use Rattle.go_layout.specs.TypeLayout.{names_layout, type_layout, sig_layout}
use Rattle.go_layout.specs.Parens.{needs_parens, is_integer, runs_into, last_ends_in_integer, header_within}
use Rattle.go_layout.specs.Parens.{closed_within}

-- an operator with a blank before and behind it
abbrev pub spaced : List ℕ → Layout
spaced spelling = gap ⊕ op spelling ⊕ gap

-- a newline to an indent after the last of a list, where there is one
abbrev pub end_line : Bool → Option (List ℕ) → Layout
end_line ends None = no_text
end_line ends (Some indent) = line ends indent

-- `++`, or `--`
abbrev pub step_spelling : Bool → List ℕ
step_spelling true = codes "++"
step_spelling false = codes "--"

-- the indent of a spec, and of the line after the last
abbrev pub spec_indent : Bool → List ℕ → List ℕ
spec_indent false indent = indent
spec_indent true indent = deeper indent

-- the indent of the line after the last spec of a group
abbrev pub group_end : Bool → List ℕ → Option (List ℕ)
group_end false indent = None
group_end true indent = Some indent

-- a blank, where that is asked for
abbrev pub gap_where : Bool → Layout
gap_where true = gap
gap_where false = no_text

-- whether `)` directly follows the arguments of a call
abbrev pub closes : Rest → Bool
closes Whole = false
closes _ = true

module _ {S : Type 0} where
  -- the comma before further expressions
  abbrev pub comma_before_exprs : Exprs S → Layout
  comma_before_exprs no_exprs = no_text
  comma_before_exprs (expr_and _ _) = op (codes ",") ⊕ gap

  -- the comma before further elements
  abbrev pub comma_before_elems : Elems S → Layout
  comma_before_elems no_elems = no_text
  comma_before_elems (elem _ _ _ _) = op (codes ",") ⊕ gap

  -- the dots after the arguments of a call, which would be read as part of an integer literal directly before them
  abbrev pub rest_layout : Rest → Exprs S → Layout
  rest_layout Whole xs = gap_where (last_ends_in_integer false false xs) ⊕ op (codes "...")
  rest_layout _ xs = no_text

  -- whether a comma, or what closes the list, directly follows the entry before these
  abbrev pub closed_before : Bool → Exprs S → Bool
  closed_before closed no_exprs = closed
  closed_before closed (expr_and _ _) = true

  -- whether a comma follows: further elements do
  abbrev pub comma_follows : Elems S → Bool
  comma_follows no_elems = false
  comma_follows (elem _ _ _ _) = true

  -- `else` before a further arm
  abbrev pub else_before : Arms S → Layout
  else_before no_arms = no_text
  else_before (arm _ _ _ _ _ _) = gap ⊕ key (codes "else") ⊕ gap

  -- the label of a `break` or `continue`
  abbrev pub label_layout : Option (NameAt S) → Layout
  label_layout None = no_text
  label_layout (Some n) = gap ⊕ name_layout n

  -- the type of a spec
  abbrev pub spec_type_layout : Option (TypeExpr S) → Layout
  spec_type_layout None = no_text
  spec_type_layout (Some t) = gap ⊕ type_layout t

  -- An empty statement is written as its semicolon; after any other the newline stands for one.
  abbrev pub gives_semicolon : Stmt S → Bool
  gives_semicolon (empty _) = false
  gives_semicolon (label _ _ x) = gives_semicolon x
  gives_semicolon _ = true

  -- the newline after a statement, which others or the end of the list follow
  abbrev pub stmt_end : List ℕ → Option (List ℕ) → Bool → Stmts S → Layout
  stmt_end indent end ends no_stmts = end_line ends end
  stmt_end indent end ends (stmt_and _ _) = line ends indent

  -- the newline after a spec, which others or the end of the group follow
  abbrev pub spec_end : List ℕ → Option (List ℕ) → ValueSpecs S → Layout
  spec_end indent end no_specs = end_line true end
  spec_end indent end (spec _ _ _ _ _) = line true indent

  -- the indent of the first statement of a clause, or of what follows the clause
  abbrev pub clause_indent : List ℕ → Stmts S → List ℕ
  clause_indent indent no_stmts = indent
  clause_indent indent (stmt_and _ _) = deeper indent

  -- after the brace or parenthesis that opens a list
  abbrev pub block_start : List ℕ → Stmts S → Layout
  block_start indent no_stmts = no_text
  block_start indent (stmt_and _ _) = line false (deeper indent)

  -- the newline before the specs of a group
  abbrev pub group_start : List ℕ → ValueSpecs S → Layout
  group_start indent no_specs = no_text
  group_start indent (spec _ _ _ _ _) = line false (deeper indent)

  -- the newline before the clauses of a `switch`
  abbrev pub clauses_start : List ℕ → Cases S → Layout
  clauses_start indent no_cases = no_text
  clauses_start indent (case _ _ _ _) = line false indent

  -- `{}`, or the statements between braces
  abbrev pub in_braces : List ℕ → Stmts S → Layout → Layout
  in_braces indent body stmts = op (codes "{") ⊕ block_start indent body ⊕ stmts ⊕ op (codes "}")

  -- after `const` or `var`: a spec, or the group of specs
  abbrev pub in_group : List ℕ → Bool → ValueSpecs S → Layout → Layout
  in_group indent false ss specs = specs
  in_group indent true ss specs = op (codes "(") ⊕ group_start indent ss ⊕ specs ⊕ op (codes ")")

  -- before the values of a `return`, of a spec and of a clause
  abbrev pub gap_before : Exprs S → Layout
  gap_before no_exprs = no_text
  gap_before (expr_and _ _) = gap

  -- `=` before the values of a spec
  abbrev pub equals_before : Exprs S → Layout
  equals_before no_exprs = no_text
  equals_before (expr_and _ _) = spaced (codes "=")

  -- `case`, or `default` where there are no expressions
  abbrev pub case_word : Exprs S → Layout
  case_word no_exprs = key (codes "default")
  case_word (expr_and _ _) = key (codes "case") ⊕ gap

  abbrev mutual
    -- an expression, without the parentheses around it that its place may need
    pub expr_layout : List ℕ → Bool → Bool → Expr S → Layout
    expr_layout i h c (ident _ n) = a_token Ident n
    expr_layout i h c (int_lit _ n) = a_token Integer n
    expr_layout i h c (rune_lit _ n) = a_token Rune n
    expr_layout i h c (str_lit _ n) = a_token Str n
    expr_layout i h c (composite _ t es) = type_layout t ⊕ op (codes "{") ⊕ elems_layout i es ⊕ op (codes "}")
    expr_layout i h c (selector _ e n) =
        let p = needs_parens 7 h false e || is_integer e in
        within p (expr_layout i (header_within p h) (closed_within p false) e) ⊕ op (codes ".") ⊕ name_layout n
    expr_layout i h c (index _ e at) =
        let p = needs_parens 7 h false e in let q = needs_parens 1 false false at in
        within p (expr_layout i (header_within p h) (closed_within p false) e) ⊕ op (codes "[")
        ⊕ within q (expr_layout i (header_within q false) (closed_within q false) at) ⊕ op (codes "]")
    expr_layout i h c (slice _ e from to) =
        let p = needs_parens 7 h false e in
        within p (expr_layout i (header_within p h) (closed_within p false) e) ⊕ op (codes "[")
        ⊕ option_layout i false from ⊕ op (codes ":") ⊕ option_layout i false to ⊕ op (codes "]")
    expr_layout i h c (call _ f xs rest) =
        let p = needs_parens 7 h true f in
        within p (expr_layout i (header_within p h) (closed_within p true) f) ⊕ op (codes "(")
        ⊕ exprs_layout i false (closes rest) xs ⊕ rest_layout rest xs ⊕ op (codes ")")
    expr_layout i h c (func_lit _ g _ body) =
        key (codes "func") ⊕ sig_layout g ⊕ gap ⊕ in_braces i body (stmts_layout (deeper i) (Some i) body)
    expr_layout i h c (type_operand _ t) = type_layout t
    expr_layout i h c (unary _ o e) =
        let p = needs_parens 6 h c e || runs_into o e in
        op (unary_spelling o) ⊕ within p (expr_layout i (header_within p h) (closed_within p c) e)
    expr_layout i h c (binary _ o a b) =
        let p = needs_parens (level_of o) h false a in let q = needs_parens (level_of o + 1) h c b in
        within p (expr_layout i (header_within p h) (closed_within p false) a) ⊕ spaced (binary_spelling o)
        ⊕ within q (expr_layout i (header_within q h) (closed_within q c) b)
    expr_layout i h c (star _ e) =
        let p = needs_parens 6 h c e in op (codes "*") ⊕ within p
        (expr_layout i (header_within p h) (closed_within p c) e)

    -- `a, b`
    pub exprs_layout : List ℕ → Bool → Bool → Exprs S → Layout
    exprs_layout i h c no_exprs = no_text
    exprs_layout i h c (expr_and e es) =
        let d = closed_before c es in let p = needs_parens 1 h d e in
        within p (expr_layout i (header_within p h) (closed_within p d) e) ⊕ comma_before_exprs es ⊕ exprs_layout i h c
        es

    -- a bound of a slice, or a condition between semicolons
    pub option_layout : List ℕ → Bool → ExprOption S → Layout
    option_layout i h no_expr = no_text
    option_layout i h (some_expr e) =
        let p = needs_parens 1 h false e in within p (expr_layout i (header_within p h) (closed_within p false) e)

    -- a condition or tag before a brace
    pub test_layout : List ℕ → ExprOption S → Layout
    test_layout i no_expr = no_text
    test_layout i (some_expr e) =
        let p = needs_parens 1 true false e in within p
        (expr_layout i (header_within p true) (closed_within p false) e) ⊕ gap

    -- `a, k: v`
    pub elems_layout : List ℕ → Elems S → Layout
    elems_layout i no_elems = no_text
    elems_layout i (elem _ k v es) =
        key_layout i k ⊕ value_layout i (comma_follows es) v ⊕ comma_before_elems es ⊕ elems_layout i es

    -- `k: `
    pub key_layout : List ℕ → ValueOption S → Layout
    key_layout i no_value = no_text
    key_layout i (some_value v) = value_layout i false v ⊕ op (codes ":") ⊕ gap

    -- an element's value, or its elements in braces
    pub value_layout : List ℕ → Bool → Value S → Layout
    value_layout i c (plain e) =
        let p = needs_parens 1 false c e in within p (expr_layout i (header_within p false) (closed_within p c) e)
    value_layout i c (braced _ es) = op (codes "{") ⊕ elems_layout i es ⊕ op (codes "}")

    -- a statement, without the newline after it
    pub stmt_layout : List ℕ → Bool → Stmt S → Layout
    stmt_layout i h (const_decl _ grouped ss) =
        key (codes "const") ⊕ gap ⊕ in_group i grouped ss
        (specs_layout (spec_indent grouped i) (group_end grouped i) ss)
    stmt_layout i h (var_decl _ grouped ss) =
        key (codes "var") ⊕ gap ⊕ in_group i grouped ss (specs_layout (spec_indent grouped i) (group_end grouped i) ss)
    stmt_layout i h (empty _) = op (codes ";")
    stmt_layout i h (eval _ e) =
        let p = needs_parens 1 h false e in within p (expr_layout i (header_within p h) (closed_within p false) e)
    stmt_layout i h (step _ e up) =
        let p = needs_parens 1 h false e in within p (expr_layout i (header_within p h) (closed_within p false) e) ⊕ op
        (step_spelling up)
    stmt_layout i h (assign _ xs o ys) =
        exprs_layout i h false xs ⊕ spaced (assign_spelling o) ⊕ exprs_layout i h false ys
    stmt_layout i h (define _ ns ys) = names_layout ns ⊕ spaced (codes ":=") ⊕ exprs_layout i h false ys
    stmt_layout i h (return_ _ xs) = key (codes "return") ⊕ gap_before xs ⊕ exprs_layout i false false xs
    stmt_layout i h (break_ _ n) = key (codes "break") ⊕ label_layout n
    stmt_layout i h (continue_ _ n) = key (codes "continue") ⊕ label_layout n
    stmt_layout i h (inner _ body) = in_braces i body (stmts_layout (deeper i) (Some i) body)
    stmt_layout i h (if_ _ arms last) = arms_layout i arms ⊕ last_layout i last
    stmt_layout i h (for_ _ no_stmt t no_stmt _ body) =
        key (codes "for") ⊕ gap ⊕ test_layout i t ⊕ in_braces i body (stmts_layout (deeper i) (Some i) body)
    stmt_layout i h (for_ _ first t post _ body) =
        key (codes "for") ⊕ gap ⊕ part_layout i first ⊕ op (codes ";") ⊕ gap ⊕ option_layout i true t ⊕ op
        (codes ";") ⊕ gap
        ⊕ post_layout i post ⊕ in_braces i body (stmts_layout (deeper i) (Some i) body)
    stmt_layout i h (range_ _ left e _ body) =
        let p = needs_parens 1 true false e in
        key (codes "for") ⊕ gap ⊕ left_layout i left ⊕ key (codes "range") ⊕ gap
        ⊕ within p (expr_layout i (header_within p true) (closed_within p false) e) ⊕ gap ⊕ in_braces i body
        (stmts_layout (deeper i) (Some i) body)
    stmt_layout i h (switch _ first t cs) =
        key (codes "switch") ⊕ gap ⊕ first_layout i first ⊕ test_layout i t ⊕ op
        (codes "{") ⊕ clauses_start i cs ⊕ cases_layout i cs ⊕ op (codes "}")
    stmt_layout i h (defer _ e) = key (codes "defer") ⊕ gap ⊕ expr_layout i false false e
    stmt_layout i h (label _ n x) = name_layout n ⊕ op (codes ":") ⊕ line false i ⊕ stmt_layout i false x

    -- each statement on a line of its own; `end` is the indent of the line after the last, where a newline ends it
    pub stmts_layout : List ℕ → Option (List ℕ) → Stmts S → Layout
    stmts_layout i end no_stmts = no_text
    stmts_layout i end (stmt_and x xs) =
        stmt_layout i false x ⊕ stmt_end i end (gives_semicolon x) xs ⊕ stmts_layout i end xs

    -- a statement before a semicolon of a header
    pub part_layout : List ℕ → StmtOption S → Layout
    part_layout i no_stmt = no_text
    part_layout i (some_stmt x) = stmt_layout i true x

    -- a statement before a brace
    pub post_layout : List ℕ → StmtOption S → Layout
    post_layout i no_stmt = no_text
    post_layout i (some_stmt x) = stmt_layout i true x ⊕ gap

    -- a header's first statement
    pub first_layout : List ℕ → StmtOption S → Layout
    first_layout i no_stmt = no_text
    first_layout i (some_stmt x) = stmt_layout i true x ⊕ op (codes ";") ⊕ gap

    -- `if c {`, and then each further arm after `else`
    pub arms_layout : List ℕ → Arms S → Layout
    arms_layout i no_arms = no_text
    arms_layout i (arm _ first t _ body arms) =
        let p = needs_parens 1 true false t in
        key (codes "if") ⊕ gap ⊕ first_layout i first ⊕ within p
        (expr_layout i (header_within p true) (closed_within p false) t) ⊕ gap
        ⊕ in_braces i body (stmts_layout (deeper i) (Some i) body) ⊕ else_before arms ⊕ arms_layout i arms

    -- the last block of an `if`, behind `else`
    pub last_layout : List ℕ → BlockOption S → Layout
    last_layout i no_block = no_text
    last_layout i (some_block _ body) =
        gap ⊕ key (codes "else") ⊕ gap ⊕ in_braces i body (stmts_layout (deeper i) (Some i) body)

    -- before `range`
    pub left_layout : List ℕ → RangeLeft S → Layout
    left_layout i nothing = no_text
    left_layout i (assigns xs) = exprs_layout i true false xs ⊕ spaced (codes "=")
    left_layout i (defines ns) = names_layout ns ⊕ spaced (codes ":=")

    -- the clauses of a `switch`, with the newline after each
    pub cases_layout : List ℕ → Cases S → Layout
    cases_layout i no_cases = no_text
    cases_layout i (case _ xs body cs) =
        case_word xs ⊕ exprs_layout i false false xs ⊕ op (codes ":") ⊕ line false (clause_indent i body)
        ⊕ stmts_layout (deeper i) (Some i) body ⊕ cases_layout i cs

    -- each spec on a line of its own, as the statements of a list
    pub specs_layout : List ℕ → Option (List ℕ) → ValueSpecs S → Layout
    specs_layout i end no_specs = no_text
    specs_layout i end (spec _ ns t xs ss) =
        names_layout ns ⊕ spec_type_layout t ⊕ equals_before xs ⊕ exprs_layout i false false xs ⊕ spec_end i end ss ⊕
        specs_layout i end ss

  -- an expression with the parentheses that a place of this level needs
  abbrev pub operand_layout : List ℕ → ℕ → Bool → Bool → Expr S → Layout
  operand_layout i level h c e =
      let p = needs_parens level h c e in within p (expr_layout i (header_within p h) (closed_within p c) e)

  -- a block
  abbrev pub block_layout : List ℕ → Stmts S → Layout
  block_layout i body = in_braces i body (stmts_layout (deeper i) (Some i) body)

  -- what stands behind `const` or `var`
  abbrev pub decl_layout : List ℕ → Bool → ValueSpecs S → Layout
  decl_layout i grouped ss = in_group i grouped ss (specs_layout (spec_indent grouped i) (group_end grouped i) ss)
