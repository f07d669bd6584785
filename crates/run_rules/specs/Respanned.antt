-- A tree with other spans in the place of its own (Go specification, Types; Expressions; Statements; Source file
-- organization).
use Rattle.std.specs.Prelude.{List, map, Option}
use Rattle.std.specs.Option.{option_map}
use Rattle.go_tree.specs.Tree.{NameAt, TypeExpr, Fields, named, pointer, slice_type, map_type, struct_type, no_fields}
use Rattle.go_tree.specs.Tree.{field, Param, Sig, Expr, Exprs, ExprOption, Elems, Value, ValueOption, Stmt, Stmts}
use Rattle.go_tree.specs.Tree.{StmtOption, BlockOption, RangeLeft, Arms, Cases, ValueSpecs, ident, int_lit, rune_lit}
use Rattle.go_tree.specs.Tree.{str_lit, composite, selector, index, slice, call, func_lit, type_operand, unary, binary}
use Rattle.go_tree.specs.Tree.{star, no_exprs, expr_and, no_expr, some_expr, no_elems, elem, plain, braced, no_value}
use Rattle.go_tree.specs.Tree.{some_value, const_decl, var_decl, empty, eval, step, assign, define, return_, break_}
use Rattle.go_tree.specs.Tree.{continue_, inner, if_, for_, range_, switch, defer, label, no_stmts, stmt_and, no_stmt}
use Rattle.go_tree.specs.Tree.{some_stmt, no_block, some_block, nothing, assigns, defines, no_arms, arm, no_cases, case}
use Rattle.go_tree.specs.Tree.{no_specs, spec}
use Rattle.go_tree.specs.File.{ImportSpec, ImportDecl, TypeSpec, Receiver, Func, Decl, values, types, func, File}
use Rattle.pkg_graph.specs.Package.{SourceTree, Package}

module _ {S T : Type 0} (to : S → T) where
  -- a name
  abbrev pub name_with : NameAt S → NameAt T
  name_with n = record { span = to n.span; name = n.name }

  abbrev mutual
    -- a type
    pub type_with : TypeExpr S → TypeExpr T
    type_with (named s p n) = named (to s) (option_map name_with p) (name_with n)
    type_with (pointer s t) = pointer (to s) (type_with t)
    type_with (slice_type s t) = slice_type (to s) (type_with t)
    type_with (map_type s k t) = map_type (to s) (type_with k) (type_with t)
    type_with (struct_type s fs) = struct_type (to s) (fields_with fs)

    -- fields
    pub fields_with : Fields S → Fields T
    fields_with no_fields = no_fields
    fields_with (field s n t fs) = field (to s) (name_with n) (type_with t) (fields_with fs)

  -- a type that may be left out
  abbrev pub type_option_with : Option (TypeExpr S) → Option (TypeExpr T)
  type_option_with t = option_map type_with t

  -- a parameter
  abbrev pub param_with : Param S → Param T
  param_with p = record { span = to p.span; name = option_map name_with p.name; rest = p.rest; of = type_with p.of }

  -- a signature
  abbrev pub sig_with : Sig S → Sig T
  sig_with g = record { params = map param_with g.params; results = map param_with g.results }

  abbrev mutual
    -- an expression
    pub expr_with : Expr S → Expr T
    expr_with (ident s n) = ident (to s) n
    expr_with (int_lit s n) = int_lit (to s) n
    expr_with (rune_lit s n) = rune_lit (to s) n
    expr_with (str_lit s n) = str_lit (to s) n
    expr_with (composite s t es) = composite (to s) (type_with t) (elems_with es)
    expr_with (selector s b n) = selector (to s) (expr_with b) (name_with n)
    expr_with (index s b i) = index (to s) (expr_with b) (expr_with i)
    expr_with (slice s b i j) = slice (to s) (expr_with b) (expr_option_with i) (expr_option_with j)
    expr_with (call s f xs r) = call (to s) (expr_with f) (exprs_with xs) r
    expr_with (func_lit s g z b) = func_lit (to s) (sig_with g) (to z) (stmts_with b)
    expr_with (type_operand s t) = type_operand (to s) (type_with t)
    expr_with (unary s o e) = unary (to s) o (expr_with e)
    expr_with (binary s o a b) = binary (to s) o (expr_with a) (expr_with b)
    expr_with (star s e) = star (to s) (expr_with e)

    -- expressions
    pub exprs_with : Exprs S → Exprs T
    exprs_with no_exprs = no_exprs
    exprs_with (expr_and e es) = expr_and (expr_with e) (exprs_with es)

    -- an expression that may be left out
    pub expr_option_with : ExprOption S → ExprOption T
    expr_option_with no_expr = no_expr
    expr_option_with (some_expr e) = some_expr (expr_with e)

    -- elements
    pub elems_with : Elems S → Elems T
    elems_with no_elems = no_elems
    elems_with (elem s k v es) = elem (to s) (value_option_with k) (value_with v) (elems_with es)

    -- a key that may be left out
    pub value_option_with : ValueOption S → ValueOption T
    value_option_with no_value = no_value
    value_option_with (some_value v) = some_value (value_with v)

    -- a key or an element
    pub value_with : Value S → Value T
    value_with (plain e) = plain (expr_with e)
    value_with (braced s es) = braced (to s) (elems_with es)

    -- a statement
    pub stmt_with : Stmt S → Stmt T
    stmt_with (const_decl s g ss) = const_decl (to s) g (specs_with ss)
    stmt_with (var_decl s g ss) = var_decl (to s) g (specs_with ss)
    stmt_with (empty s) = empty (to s)
    stmt_with (eval s e) = eval (to s) (expr_with e)
    stmt_with (step s e b) = step (to s) (expr_with e) b
    stmt_with (assign s xs o ys) = assign (to s) (exprs_with xs) o (exprs_with ys)
    stmt_with (define s ns ys) = define (to s) (map name_with ns) (exprs_with ys)
    stmt_with (return_ s xs) = return_ (to s) (exprs_with xs)
    stmt_with (break_ s n) = break_ (to s) (option_map name_with n)
    stmt_with (continue_ s n) = continue_ (to s) (option_map name_with n)
    stmt_with (inner s b) = inner (to s) (stmts_with b)
    stmt_with (if_ s bs z) = if_ (to s) (arms_with bs) (block_option_with z)
    stmt_with (for_ s i t q z b) =
        for_ (to s) (stmt_option_with i) (expr_option_with t) (stmt_option_with q) (to z) (stmts_with b)
    stmt_with (range_ s x e z b) = range_ (to s) (left_with x) (expr_with e) (to z) (stmts_with b)
    stmt_with (switch s i t cs) = switch (to s) (stmt_option_with i) (expr_option_with t) (cases_with cs)
    stmt_with (defer s e) = defer (to s) (expr_with e)
    stmt_with (label s n x) = label (to s) (name_with n) (stmt_with x)

    -- statements
    pub stmts_with : Stmts S → Stmts T
    stmts_with no_stmts = no_stmts
    stmts_with (stmt_and s ss) = stmt_and (stmt_with s) (stmts_with ss)

    -- a statement that may be left out
    pub stmt_option_with : StmtOption S → StmtOption T
    stmt_option_with no_stmt = no_stmt
    stmt_option_with (some_stmt s) = some_stmt (stmt_with s)

    -- a block that may be left out
    pub block_option_with : BlockOption S → BlockOption T
    block_option_with no_block = no_block
    block_option_with (some_block s b) = some_block (to s) (stmts_with b)

    -- the left side of a `range` clause
    pub left_with : RangeLeft S → RangeLeft T
    left_with nothing = nothing
    left_with (assigns es) = assigns (exprs_with es)
    left_with (defines ns) = defines (map name_with ns)

    -- the tests of an `if`, with their blocks
    pub arms_with : Arms S → Arms T
    arms_with no_arms = no_arms
    arms_with (arm s i t z b r) = arm (to s) (stmt_option_with i) (expr_with t) (to z) (stmts_with b) (arms_with r)

    -- the clauses of a `switch`
    pub cases_with : Cases S → Cases T
    cases_with no_cases = no_cases
    cases_with (case s es b cs) = case (to s) (exprs_with es) (stmts_with b) (cases_with cs)

    -- the specs of constants or variables
    pub specs_with : ValueSpecs S → ValueSpecs T
    specs_with no_specs = no_specs
    specs_with (spec s ns t es ss) = spec (to s) (map name_with ns) (type_option_with t) (exprs_with es) (specs_with ss)

  -- an import spec
  abbrev pub import_spec_with : ImportSpec S → ImportSpec T
  import_spec_with s = record { span = to s.span; name = option_map name_with s.name; path = s.path }

  -- an import declaration
  abbrev pub import_decl_with : ImportDecl S → ImportDecl T
  import_decl_with d = record { span = to d.span; grouped = d.grouped; specs = map import_spec_with d.specs }

  -- a type spec
  abbrev pub type_spec_with : TypeSpec S → TypeSpec T
  type_spec_with s = record { span = to s.span; name = name_with s.name; alias = s.alias; of = type_with s.of }

  -- a receiver
  abbrev pub receiver_with : Receiver S → Receiver T
  receiver_with r =
      record { span = to r.span; name = option_map name_with r.name; pointer = r.pointer; of = name_with r.of }

  -- a function or method
  abbrev pub func_with : Func S → Func T
  func_with g =
      record {
        span = to g.span;
        receiver = option_map receiver_with g.receiver;
        name = name_with g.name;
        sig = sig_with g.sig;
        body_span = to g.body_span;
        body = stmts_with g.body;
      }

  -- a declaration
  abbrev pub decl_with : Decl S → Decl T
  decl_with (values s) = values (stmt_with s)
  decl_with (types s grouped ts) = types (to s) grouped (map type_spec_with ts)
  decl_with (func g) = func (func_with g)

  -- declarations
  abbrev pub decls_with : List (Decl S) → List (Decl T)
  decls_with ds = map decl_with ds

  -- a file
  abbrev pub file_with : File S → File T
  file_with x =
      record {
        package_name = name_with x.package_name;
        imports = map import_decl_with x.imports;
        decls = decls_with x.decls;
      }

  -- a file with its path
  abbrev pub source_with : SourceTree S → SourceTree T
  source_with x = record { path = x.path; tree = file_with x.tree }

  -- a package
  abbrev pub package_with : Package S → Package T
  package_with p = record { path = p.path; name = p.name; files = map source_with p.files }

  -- packages
  abbrev pub packages_with : List (Package S) → List (Package T)
  packages_with ps = map package_with ps
