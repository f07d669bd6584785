-- The names of types that a declaration writes: in signatures, declared types, the types of specs and of composite
-- literals, and in literals of functions (Go specification, Types; Composite literals; Function literals; Function
-- declarations; Method declarations). Each stands beside whether it is the whole type of a composite literal; in the
-- header of an `if`, `for` or `switch` such names aren't listed, nor are the types of receivers.
use Rattle.std.specs.Prelude.{Bool, true, false, List, [], ◌∷◌, ◌++◌, map, Option, Some, None}
use Rattle.std.specs.Prelude.{if◌then◌else◌}
use Rattle.go_tree.specs.Tree.{NameAt, Param, Sig, TypeExpr, named, Expr, Exprs, ExprOption, Elems, Value, ValueOption}
use Rattle.go_tree.specs.Tree.{Stmt, Stmts, StmtOption, BlockOption, RangeLeft, Arms, Cases, ValueSpecs, composite}
use Rattle.go_tree.specs.Tree.{selector, index, slice, call, func_lit, type_operand, unary, binary, star, no_exprs}
use Rattle.go_tree.specs.Tree.{expr_and, no_expr, some_expr, no_elems, elem, plain, braced, no_value, some_value}
use Rattle.go_tree.specs.Tree.{const_decl, var_decl, eval, step, assign, define, return_, inner, if_, for_, range_}
use Rattle.go_tree.specs.Tree.{switch, defer, label, no_stmts, stmt_and, no_stmt, some_stmt, no_block, some_block}
use Rattle.go_tree.specs.Tree.{nothing, assigns, defines, no_arms, arm, no_cases, case, no_specs, spec}
use Rattle.go_tree.specs.File.{TypeSpec, Decl, values, types, func}
use Rattle.go_layout.specs.LayoutLaws.Formed.{IsName}
use Rattle.run_rules.specs.Sites.{named_in}

-- names of types, each with whether it is the whole type of a composite literal
abbrev pub Written : Type 0 → Type 0
Written S = List (Bool × TypeExpr S)

module _ {S : Type 0} where
  -- names of types elsewhere
  abbrev pub as_types : List (TypeExpr S) → Written S
  as_types ts = map (λ t. (false, t)) ts

  -- in the types of parameters or results
  abbrev pub names_of_params : List (Param S) → Written S
  names_of_params [] = []
  names_of_params (p ∷ ps) = as_types (named_in p.of) ++ names_of_params ps

  -- in a signature
  abbrev pub names_of_sig : Sig S → Written S
  names_of_sig g = names_of_params g.params ++ names_of_params g.results

  -- in a type that may be left out
  abbrev pub names_of_option : Option (TypeExpr S) → Written S
  names_of_option None = []
  names_of_option (Some t) = as_types (named_in t)

  -- in the type of a composite literal, in a header or not
  abbrev pub names_of_literal : Bool → TypeExpr S → Written S
  names_of_literal h (named s q n) = if h then [] else (true, named s q n) ∷ []
  names_of_literal h t = as_types (named_in t)

  abbrev mutual
    -- in an expression, in a header or not
    pub names_of_expr : Bool → Expr S → Written S
    names_of_expr h (composite s t es) = names_of_literal h t ++ names_of_elems es
    names_of_expr h (selector s e n) = names_of_expr h e
    names_of_expr h (index s e i) = names_of_expr h e ++ names_of_expr false i
    names_of_expr h (slice s e i j) = names_of_expr h e ++ (names_of_bound false i ++ names_of_bound false j)
    names_of_expr h (call s f xs r) = names_of_expr h f ++ names_of_exprs false xs
    names_of_expr h (func_lit s g b xs) = names_of_sig g ++ names_of_stmts xs
    names_of_expr h (type_operand s t) = as_types (named_in t)
    names_of_expr h (unary s o e) = names_of_expr h e
    names_of_expr h (binary s o a b) = names_of_expr h a ++ names_of_expr h b
    names_of_expr h (star s e) = names_of_expr h e
    names_of_expr h e = []

    -- in an expression that may be left out
    pub names_of_bound : Bool → ExprOption S → Written S
    names_of_bound h no_expr = []
    names_of_bound h (some_expr e) = names_of_expr h e

    -- in expressions
    pub names_of_exprs : Bool → Exprs S → Written S
    names_of_exprs h no_exprs = []
    names_of_exprs h (expr_and e es) = names_of_expr h e ++ names_of_exprs h es

    -- in the elements of a literal
    pub names_of_elems : Elems S → Written S
    names_of_elems no_elems = []
    names_of_elems (elem s k v es) = names_of_key k ++ (names_of_value v ++ names_of_elems es)

    -- in a key that may be left out
    pub names_of_key : ValueOption S → Written S
    names_of_key no_value = []
    names_of_key (some_value v) = names_of_value v

    -- in a key or a value
    pub names_of_value : Value S → Written S
    names_of_value (plain e) = names_of_expr false e
    names_of_value (braced s es) = names_of_elems es

    -- in a statement
    pub names_of_stmt : Bool → Stmt S → Written S
    names_of_stmt h (const_decl s g ss) = names_of_specs ss
    names_of_stmt h (var_decl s g ss) = names_of_specs ss
    names_of_stmt h (eval s e) = names_of_expr h e
    names_of_stmt h (step s e up) = names_of_expr h e
    names_of_stmt h (assign s xs o ys) = names_of_exprs h xs ++ names_of_exprs h ys
    names_of_stmt h (define s ns ys) = names_of_exprs h ys
    names_of_stmt h (return_ s xs) = names_of_exprs false xs
    names_of_stmt h (inner s xs) = names_of_stmts xs
    names_of_stmt h (if_ s ars last) = names_of_arms ars ++ names_of_else last
    names_of_stmt h (for_ s i t p b xs) =
        names_of_part i ++ (names_of_bound true t ++ (names_of_part p ++ names_of_stmts xs))
    names_of_stmt h (range_ s left e b xs) = names_of_left left ++ (names_of_expr true e ++ names_of_stmts xs)
    names_of_stmt h (switch s i t cs) = names_of_part i ++ (names_of_bound true t ++ names_of_cases cs)
    names_of_stmt h (defer s e) = names_of_expr false e
    names_of_stmt h (label s n x) = names_of_stmt false x
    names_of_stmt h x = []

    -- in a statement of a header
    pub names_of_part : StmtOption S → Written S
    names_of_part no_stmt = []
    names_of_part (some_stmt x) = names_of_stmt true x

    -- in statements
    pub names_of_stmts : Stmts S → Written S
    names_of_stmts no_stmts = []
    names_of_stmts (stmt_and x xs) = names_of_stmt false x ++ names_of_stmts xs

    -- in the last block of an `if`
    pub names_of_else : BlockOption S → Written S
    names_of_else no_block = []
    names_of_else (some_block b xs) = names_of_stmts xs

    -- in what stands before `range`
    pub names_of_left : RangeLeft S → Written S
    names_of_left nothing = []
    names_of_left (assigns xs) = names_of_exprs true xs
    names_of_left (defines ns) = []

    -- in the arms of an `if`
    pub names_of_arms : Arms S → Written S
    names_of_arms no_arms = []
    names_of_arms (arm s i t b xs ars) =
        names_of_part i ++ (names_of_expr true t ++ (names_of_stmts xs ++ names_of_arms ars))

    -- in the clauses of a `switch`
    pub names_of_cases : Cases S → Written S
    names_of_cases no_cases = []
    names_of_cases (case s es xs cs) = names_of_exprs false es ++ (names_of_stmts xs ++ names_of_cases cs)

    -- in specs
    pub names_of_specs : ValueSpecs S → Written S
    names_of_specs no_specs = []
    names_of_specs (spec s ns t xs ss) = names_of_option t ++ (names_of_exprs false xs ++ names_of_specs ss)

  -- in declared types
  abbrev pub names_of_types : List (TypeSpec S) → Written S
  names_of_types [] = []
  names_of_types (t ∷ ts) = as_types (named_in t.of) ++ names_of_types ts

  -- in a declaration of the package block
  abbrev pub type_names : Decl S → Written S
  type_names (values s) = names_of_stmt false s
  type_names (types s g ts) = names_of_types ts
  type_names (func f) = names_of_sig f.sig ++ names_of_stmts f.body

  -- a written type that is a name, with the name of a package before it or without
  pub data IsTypeName : TypeExpr S → Type 0 where
    a_type_alone : {s : S} {n : NameAt S} → IsName n.name → IsTypeName (named s None n)
    a_qualified_type : {s : S} {q n : NameAt S} → IsName q.name → IsName n.name → IsTypeName (named s (Some q) n)
