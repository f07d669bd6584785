-- A part of a declaration as it is written in another place: the names of packages stand where they are told to, all
-- spans are those of what is written, and all else stays (Go specification, Qualified identifiers; Types; Expressions;
-- Statements).
use Rattle.std.specs.Prelude.{ℕ, List, map, Option, Some, None}
use Rattle.std.specs.Option.{option_map}
use Rattle.go_tree.specs.declared.spans.Span.{Span}
use Rattle.go_tree.specs.Tree.{NameAt, TypeExpr, named, pointer, slice_type, map_type, struct_type, Fields, no_fields}
use Rattle.go_tree.specs.Tree.{field, Param, Sig, Expr, ident, int_lit, rune_lit, str_lit, composite, selector, index}
use Rattle.go_tree.specs.Tree.{slice, call, func_lit, type_operand, unary, binary, star, Exprs, no_exprs, expr_and}
use Rattle.go_tree.specs.Tree.{ExprOption, no_expr, some_expr, Elems, no_elems, elem, Value, plain, braced, ValueOption}
use Rattle.go_tree.specs.Tree.{no_value, some_value, Stmt, const_decl, var_decl, empty, eval, step, assign, define}
use Rattle.go_tree.specs.Tree.{return_, break_, continue_, inner, if_, for_, range_, switch, defer, label, Stmts}
use Rattle.go_tree.specs.Tree.{no_stmts, stmt_and, StmtOption, no_stmt, some_stmt, BlockOption, no_block, some_block}
use Rattle.go_tree.specs.Tree.{RangeLeft, nothing, assigns, defines, Arms, no_arms, arm, Cases, no_cases, case}
use Rattle.go_tree.specs.Tree.{ValueSpecs, no_specs, spec}
use Rattle.call_forms.specs.Qualifiers.{qualifier_at}
use Rattle.call_forms.specs.declared.qualifiers.There.{There}

module _ (there : There) where
  -- the name of the package that is told to stand before the name at a span
  abbrev pub told : Span → Option (List ℕ)
  told s = qualifier_at there.qualifiers.now s

  -- ---- names

  -- a name that stays
  abbrev pub written_name : NameAt Span → NameAt Span
  written_name n = record { span = there.span; name = n.name }

  -- names that stay
  abbrev pub written_names : List (NameAt Span) → List (NameAt Span)
  written_names ns = map written_name ns

  -- a name or a label that may be left out
  abbrev pub written_label : Option (NameAt Span) → Option (NameAt Span)
  written_label n = option_map written_name n

  -- the package before a type's name: the one that is told, or the one that stands there
  abbrev pub written_package : Option (List ℕ) → Option (NameAt Span) → Option (NameAt Span)
  written_package None p = written_label p
  written_package (Some q) p = Some (record { span = there.span; name = q })

  -- a name behind that of a package
  abbrev pub qualified : List ℕ → List ℕ → Expr Span
  qualified q n = selector there.span (ident there.span q) (record { span = there.span; name = n })

  -- a name, behind that of a package where one is told
  abbrev pub written_ident : Option (List ℕ) → List ℕ → Expr Span
  written_ident None n = ident there.span n
  written_ident (Some q) n = qualified q n

  -- a name behind what is written before its dot, or behind the package that is told
  abbrev pub written_selector : Option (List ℕ) → Expr Span → NameAt Span → Expr Span
  written_selector None e n = selector there.span e (written_name n)
  written_selector (Some q) e n = qualified q n.name

  -- ---- types

  abbrev mutual
    -- a type
    pub written_type : TypeExpr Span → TypeExpr Span
    written_type (named s p n) = named there.span (written_package (told s) p) (written_name n)
    written_type (pointer s t) = pointer there.span (written_type t)
    written_type (slice_type s t) = slice_type there.span (written_type t)
    written_type (map_type s k t) = map_type there.span (written_type k) (written_type t)
    written_type (struct_type s fs) = struct_type there.span (written_fields fs)

    -- the fields of a struct type
    pub written_fields : Fields Span → Fields Span
    written_fields no_fields = no_fields
    written_fields (field s n t fs) = field there.span (written_name n) (written_type t) (written_fields fs)

  -- a type that may be left out
  abbrev pub written_type_option : Option (TypeExpr Span) → Option (TypeExpr Span)
  written_type_option t = option_map written_type t

  -- a parameter or result
  abbrev pub written_param : Param Span → Param Span
  written_param p =
      record { span = there.span; name = written_label p.name; rest = p.rest; of = written_type p.of }

  -- a signature
  abbrev pub written_sig : Sig Span → Sig Span
  written_sig g = record { params = map written_param g.params; results = map written_param g.results }

  -- ---- expressions and statements

  abbrev mutual
    -- an expression
    pub written_expr : Expr Span → Expr Span
    written_expr (ident s n) = written_ident (told s) n
    written_expr (int_lit s n) = int_lit there.span n
    written_expr (rune_lit s n) = rune_lit there.span n
    written_expr (str_lit s n) = str_lit there.span n
    written_expr (composite s t es) = composite there.span (written_type t) (written_elems es)
    written_expr (selector s b n) = written_selector (told s) (written_expr b) n
    written_expr (index s b i) = index there.span (written_expr b) (written_expr i)
    written_expr (slice s b i j) =
        slice there.span (written_expr b) (written_expr_option i) (written_expr_option j)
    written_expr (call s f xs r) = call there.span (written_expr f) (written_exprs xs) r
    written_expr (func_lit s g z b) = func_lit there.span (written_sig g) there.span (written_stmts b)
    written_expr (type_operand s t) = type_operand there.span (written_type t)
    written_expr (unary s o e) = unary there.span o (written_expr e)
    written_expr (binary s o a b) = binary there.span o (written_expr a) (written_expr b)
    written_expr (star s e) = star there.span (written_expr e)

    -- expressions
    pub written_exprs : Exprs Span → Exprs Span
    written_exprs no_exprs = no_exprs
    written_exprs (expr_and e es) = expr_and (written_expr e) (written_exprs es)

    -- an expression that may be left out
    pub written_expr_option : ExprOption Span → ExprOption Span
    written_expr_option no_expr = no_expr
    written_expr_option (some_expr e) = some_expr (written_expr e)

    -- the elements of a literal
    pub written_elems : Elems Span → Elems Span
    written_elems no_elems = no_elems
    written_elems (elem s k v es) = elem there.span (written_value_option k) (written_value v) (written_elems es)

    -- a key that may be left out
    pub written_value_option : ValueOption Span → ValueOption Span
    written_value_option no_value = no_value
    written_value_option (some_value v) = some_value (written_value v)

    -- a key, an element, or inner braces
    pub written_value : Value Span → Value Span
    written_value (plain e) = plain (written_expr e)
    written_value (braced s es) = braced there.span (written_elems es)

    -- a statement
    pub written_stmt : Stmt Span → Stmt Span
    written_stmt (const_decl s g ss) = const_decl there.span g (written_specs ss)
    written_stmt (var_decl s g ss) = var_decl there.span g (written_specs ss)
    written_stmt (empty s) = empty there.span
    written_stmt (eval s e) = eval there.span (written_expr e)
    written_stmt (step s e b) = step there.span (written_expr e) b
    written_stmt (assign s xs o ys) = assign there.span (written_exprs xs) o (written_exprs ys)
    written_stmt (define s ns ys) = define there.span (written_names ns) (written_exprs ys)
    written_stmt (return_ s xs) = return_ there.span (written_exprs xs)
    written_stmt (break_ s n) = break_ there.span (written_label n)
    written_stmt (continue_ s n) = continue_ there.span (written_label n)
    written_stmt (inner s b) = inner there.span (written_stmts b)
    written_stmt (if_ s bs z) = if_ there.span (written_arms bs) (written_block_option z)
    written_stmt (for_ s i t q z b) =
        for_ there.span (written_stmt_option i) (written_expr_option t) (written_stmt_option q) there.span
        (written_stmts b)
    written_stmt (range_ s x e z b) =
        range_ there.span (written_left x) (written_expr e) there.span (written_stmts b)
    written_stmt (switch s i t cs) =
        switch there.span (written_stmt_option i) (written_expr_option t) (written_cases cs)
    written_stmt (defer s e) = defer there.span (written_expr e)
    written_stmt (label s n x) = label there.span (written_name n) (written_stmt x)

    -- statements
    pub written_stmts : Stmts Span → Stmts Span
    written_stmts no_stmts = no_stmts
    written_stmts (stmt_and s ss) = stmt_and (written_stmt s) (written_stmts ss)

    -- a statement that may be left out
    pub written_stmt_option : StmtOption Span → StmtOption Span
    written_stmt_option no_stmt = no_stmt
    written_stmt_option (some_stmt s) = some_stmt (written_stmt s)

    -- the last block of an `if`
    pub written_block_option : BlockOption Span → BlockOption Span
    written_block_option no_block = no_block
    written_block_option (some_block s b) = some_block there.span (written_stmts b)

    -- the left side of a `range` clause
    pub written_left : RangeLeft Span → RangeLeft Span
    written_left nothing = nothing
    written_left (assigns es) = assigns (written_exprs es)
    written_left (defines ns) = defines (written_names ns)

    -- the tests of an `if`, with their blocks
    pub written_arms : Arms Span → Arms Span
    written_arms no_arms = no_arms
    written_arms (arm s i t z b r) =
        arm there.span (written_stmt_option i) (written_expr t) there.span (written_stmts b) (written_arms r)

    -- the clauses of a `switch`
    pub written_cases : Cases Span → Cases Span
    written_cases no_cases = no_cases
    written_cases (case s es b cs) = case there.span (written_exprs es) (written_stmts b) (written_cases cs)

    -- the specs of constants or variables
    pub written_specs : ValueSpecs Span → ValueSpecs Span
    written_specs no_specs = no_specs
    written_specs (spec s ns t es ss) =
        spec there.span (written_names ns) (written_type_option t) (written_exprs es) (written_specs ss)

  -- ---- the entries of lists

  -- one field
  abbrev pub written_field : Span × NameAt Span × TypeExpr Span → Span × NameAt Span × TypeExpr Span
  written_field x = (there.span, written_name x.1, written_type x.2)

  -- one element of a literal
  abbrev pub written_elem : Span × ValueOption Span × Value Span → Span × ValueOption Span × Value Span
  written_elem x = (there.span, written_value_option x.1, written_value x.2)

  -- a block
  abbrev pub written_block : Span × Stmts Span → Span × Stmts Span
  written_block x = (there.span, written_stmts x.1)

  -- one arm of an `if`
  abbrev pub written_arm :
      Span × StmtOption Span × Expr Span × (Span × Stmts Span) → Span × StmtOption Span × Expr Span
      × (Span × Stmts Span)
  written_arm x = (there.span, written_stmt_option x.1, written_expr x.2, written_block x.3)

  -- one clause of a `switch`
  abbrev pub written_case : Span × Exprs Span × Stmts Span → Span × Exprs Span × Stmts Span
  written_case x = (there.span, written_exprs x.1, written_stmts x.2)

  -- one spec of constants or variables
  abbrev pub written_spec :
      Span × List (NameAt Span) × Option (TypeExpr Span) × Exprs Span → Span × List (NameAt Span)
      × Option (TypeExpr Span) × Exprs Span
  written_spec x = (there.span, written_names x.1, written_type_option x.2, written_exprs x.3)
