-- The parts of a declaration that may be uses of a marked declaration: names, names behind dots, calls, and names of
-- types, in the order of their ends (Go specification, Operands; Qualified identifiers; Selectors; Calls; Types). A name
-- behind a dot is a part whatever stands before the dot, so that what a step puts there adds no part behind it.
-- A name that is the key of an element is a part of its own kind where it may be that of a field: where the literal isn't
-- written as one of a slice or a map (Go specification, Composite literals).
use Rattle.std.specs.Prelude.{List, [], ◌∷◌, ◌++◌, Option, Some, None}
use Rattle.go_tree.specs.Tree.{TypeExpr, named, pointer, slice_type, map_type, struct_type, Fields, no_fields, field}
use Rattle.go_tree.specs.Tree.{Param, Sig, Expr, ident, int_lit, rune_lit, str_lit, composite, selector, index, slice}
use Rattle.go_tree.specs.Tree.{call, func_lit, type_operand, unary, binary, star, Exprs, no_exprs, expr_and, ExprOption}
use Rattle.go_tree.specs.Tree.{no_expr, some_expr, Elems, no_elems, elem, Value, plain, braced, ValueOption, no_value}
use Rattle.go_tree.specs.Tree.{some_value, Stmt, const_decl, var_decl, empty, eval, step, assign, define, return_}
use Rattle.go_tree.specs.Tree.{break_, continue_, inner, if_, for_, range_, switch, defer, label, Stmts, no_stmts}
use Rattle.go_tree.specs.Tree.{stmt_and, StmtOption, no_stmt, some_stmt, BlockOption, no_block, some_block, RangeLeft}
use Rattle.go_tree.specs.Tree.{nothing, assigns, defines, Arms, no_arms, arm, Cases, no_cases, case, ValueSpecs}
use Rattle.go_tree.specs.Tree.{no_specs, spec}
use Rattle.go_tree.specs.File.{TypeSpec, Receiver, Func, Decl, values, types, func}
use Rattle.run_rules.specs.Sites.{an_expr, a_type_part}
use Rattle.member_uses.specs.PossibleUses.Candidates.{Candidate, plain_part, key_of, receiver_part}
use Rattle.member_uses.specs.PossibleUses.Written.{inner_written, keys_written}

module _ {S : Type 0} where
  -- one more part, the last
  abbrev pub put : Candidate S → List (Candidate S) → List (Candidate S)
  put x xs = xs ++ x ∷ []

  abbrev mutual
    -- the names in a type, behind parts
    pub after_type : TypeExpr S → List (Candidate S) → List (Candidate S)
    after_type (named s p n) xs = put (plain_part (a_type_part (named s p n))) xs
    after_type (pointer _ t) xs = after_type t xs
    after_type (slice_type _ t) xs = after_type t xs
    after_type (map_type _ k t) xs = after_type t (after_type k xs)
    after_type (struct_type _ fs) xs = after_fields fs xs

    -- those in fields
    pub after_fields : Fields S → List (Candidate S) → List (Candidate S)
    after_fields no_fields xs = xs
    after_fields (field _ _ t fs) xs = after_fields fs (after_type t xs)

  -- those in a type that may be left out
  abbrev pub after_type_option : Option (TypeExpr S) → List (Candidate S) → List (Candidate S)
  after_type_option None xs = xs
  after_type_option (Some t) xs = after_type t xs

  -- those in parameters or results
  abbrev pub after_params : List (Param S) → List (Candidate S) → List (Candidate S)
  after_params [] xs = xs
  after_params (p ∷ ps) xs = after_params ps (after_type p.of xs)

  -- those in a signature
  abbrev pub after_sig : Sig S → List (Candidate S) → List (Candidate S)
  after_sig g xs = after_params g.results (after_params g.params xs)

  abbrev mutual
    -- the parts of an expression, and the expression itself, behind parts
    pub after_expr : Expr S → List (Candidate S) → List (Candidate S)
    after_expr (ident s n) xs = put (plain_part (an_expr (ident s n))) xs
    after_expr (int_lit _ _) xs = xs
    after_expr (rune_lit _ _) xs = xs
    after_expr (str_lit _ _) xs = xs
    after_expr (composite _ t es) xs = after_elems (Some t) es (after_type t xs)
    after_expr (selector s b n) xs = put (plain_part (an_expr (selector s b n))) (after_expr b xs)
    after_expr (index _ b i) xs = after_expr i (after_expr b xs)
    after_expr (slice _ b i j) xs = after_expr_option j (after_expr_option i (after_expr b xs))
    after_expr (call s f es r) xs = put (plain_part (an_expr (call s f es r))) (after_exprs es (after_expr f xs))
    after_expr (func_lit _ g _ b) xs = after_stmts b (after_sig g xs)
    after_expr (type_operand _ t) xs = after_type t xs
    after_expr (unary _ _ e) xs = after_expr e xs
    after_expr (binary _ _ a b) xs = after_expr b (after_expr a xs)
    after_expr (star _ e) xs = after_expr e xs

    -- a list of expressions
    pub after_exprs : Exprs S → List (Candidate S) → List (Candidate S)
    after_exprs no_exprs xs = xs
    after_exprs (expr_and e es) xs = after_exprs es (after_expr e xs)

    -- an expression that may be left out
    pub after_expr_option : ExprOption S → List (Candidate S) → List (Candidate S)
    after_expr_option no_expr xs = xs
    after_expr_option (some_expr e) xs = after_expr e xs

    -- the elements of a composite literal whose type is written so
    pub after_elems : Option (TypeExpr S) → Elems S → List (Candidate S) → List (Candidate S)
    after_elems h no_elems xs = xs
    after_elems h (elem _ k v es) xs = after_elems h es (after_value (inner_written h) v (after_key h k xs))

    -- a key; a name may be that of a field
    pub after_key : Option (TypeExpr S) → ValueOption S → List (Candidate S) → List (Candidate S)
    after_key h no_value xs = xs
    after_key h (some_value (plain (ident s n))) xs = put (key_of h (ident s n)) xs
    after_key h (some_value v) xs = after_value (keys_written h) v xs

    -- an element, or inner braces
    pub after_value : Option (TypeExpr S) → Value S → List (Candidate S) → List (Candidate S)
    after_value h (plain e) xs = after_expr e xs
    after_value h (braced _ es) xs = after_elems h es xs

    -- a statement
    pub after_stmt : Stmt S → List (Candidate S) → List (Candidate S)
    after_stmt (const_decl _ _ ss) xs = after_specs ss xs
    after_stmt (var_decl _ _ ss) xs = after_specs ss xs
    after_stmt (empty _) xs = xs
    after_stmt (eval _ e) xs = after_expr e xs
    after_stmt (step _ e _) xs = after_expr e xs
    after_stmt (assign _ ls _ bs) xs = after_exprs bs (after_exprs ls xs)
    after_stmt (define _ _ es) xs = after_exprs es xs
    after_stmt (return_ _ es) xs = after_exprs es xs
    after_stmt (break_ _ _) xs = xs
    after_stmt (continue_ _ _) xs = xs
    after_stmt (inner _ b) xs = after_stmts b xs
    after_stmt (if_ _ bs z) xs = after_block_option z (after_arms bs xs)
    after_stmt (for_ _ i t q _ b) xs =
        after_stmts b (after_stmt_option q (after_expr_option t (after_stmt_option i xs)))
    after_stmt (range_ _ x e _ b) xs = after_stmts b (after_expr e (after_left x xs))
    after_stmt (switch _ i t cs) xs = after_cases cs (after_expr_option t (after_stmt_option i xs))
    after_stmt (defer _ e) xs = after_expr e xs
    after_stmt (label _ _ x) xs = after_stmt x xs

    -- statements in their order
    pub after_stmts : Stmts S → List (Candidate S) → List (Candidate S)
    after_stmts no_stmts xs = xs
    after_stmts (stmt_and s ss) xs = after_stmts ss (after_stmt s xs)

    -- a statement that may be left out
    pub after_stmt_option : StmtOption S → List (Candidate S) → List (Candidate S)
    after_stmt_option no_stmt xs = xs
    after_stmt_option (some_stmt s) xs = after_stmt s xs

    -- the last block of an `if`
    pub after_block_option : BlockOption S → List (Candidate S) → List (Candidate S)
    after_block_option no_block xs = xs
    after_block_option (some_block _ b) xs = after_stmts b xs

    -- the left side of a `range` clause
    pub after_left : RangeLeft S → List (Candidate S) → List (Candidate S)
    after_left nothing xs = xs
    after_left (assigns es) xs = after_exprs es xs
    after_left (defines _) xs = xs

    -- the arms of an `if`
    pub after_arms : Arms S → List (Candidate S) → List (Candidate S)
    after_arms no_arms xs = xs
    after_arms (arm _ i t _ b r) xs = after_arms r (after_stmts b (after_expr t (after_stmt_option i xs)))

    -- the clauses of a `switch`
    pub after_cases : Cases S → List (Candidate S) → List (Candidate S)
    after_cases no_cases xs = xs
    after_cases (case _ es b cs) xs = after_cases cs (after_stmts b (after_exprs es xs))

    -- the specs of a declaration of constants or variables
    pub after_specs : ValueSpecs S → List (Candidate S) → List (Candidate S)
    after_specs no_specs xs = xs
    after_specs (spec _ _ t es ss) xs = after_specs ss (after_exprs es (after_type_option t xs))

  -- the specs of a type declaration
  abbrev pub after_types : List (TypeSpec S) → List (Candidate S) → List (Candidate S)
  after_types [] xs = xs
  after_types (t ∷ ts) xs = after_types ts (after_type t.of xs)

  -- the name of a receiver's type
  abbrev pub after_receiver : Option (Receiver S) → List (Candidate S) → List (Candidate S)
  after_receiver None xs = xs
  after_receiver (Some r) xs = put (plain_part (receiver_part r.of)) xs

  -- a function or method: its receiver, its signature, its body
  abbrev pub after_func : Func S → List (Candidate S) → List (Candidate S)
  after_func f xs = after_stmts f.body (after_sig f.sig (after_receiver f.receiver xs))

  -- a declaration of the package block
  abbrev pub after_decl : Decl S → List (Candidate S) → List (Candidate S)
  after_decl (values (const_decl _ _ ss)) xs = after_specs ss xs
  after_decl (values (var_decl _ _ ss)) xs = after_specs ss xs
  after_decl (values s) xs = xs
  after_decl (types _ _ ts) xs = after_types ts xs
  after_decl (func f) xs = after_func f xs

  -- the parts of a declaration that may be uses, in the order of their ends
  abbrev pub parts_of : Decl S → List (Candidate S)
  parts_of d = after_decl d []
