-- Trees of a program as values without places in memory.
use Rattle.std.specs.Prelude.{List, map, Option}
use Rattle.std.specs.Option.{option_map}
use Rattle.go_tree.specs.declared.spans.Span.{Span}
use Rattle.go_tree.specs.declared.texts.NameAt as source
use Rattle.go_tree.specs.declared.types.TypeExpr as t
use Rattle.go_tree.specs.declared.types.FieldSpec as f
use Rattle.go_tree.specs.declared.types.FieldSpecList as fl
use Rattle.go_tree.specs.declared.types.Param as source_param
use Rattle.go_tree.specs.declared.types.Sig as source_sig
use Rattle.go_tree.specs.declared.exprs.Expr as e
use Rattle.go_tree.specs.declared.stmts.Stmt as s
use Rattle.go_tree.specs.declared.exprs.Value as v
use Rattle.go_tree.specs.declared.stmts.RangeLeft as r
use Rattle.go_tree.specs.declared.exprs.Elem as el
use Rattle.go_tree.specs.declared.exprs.ElemList as ml
use Rattle.go_tree.specs.declared.stmts.Arm as a
use Rattle.go_tree.specs.declared.stmts.ArmList as al
use Rattle.go_tree.specs.declared.stmts.CaseList as cl
use Rattle.go_tree.specs.declared.stmts.ConstDecl as cd
use Rattle.go_tree.specs.declared.stmts.ConstSpecList as csl
use Rattle.go_tree.specs.declared.stmts.VarDecl as vd
use Rattle.go_tree.specs.declared.stmts.VarSpecList as vsl
use Rattle.go_tree.specs.Tree as pure
use Rattle.go_tree.specs.declared.stmts.Block as bk
use Rattle.go_tree.specs.declared.stmts.Case as ca
use Rattle.go_tree.specs.declared.stmts.ConstSpec as cs
use Rattle.go_tree.specs.declared.stmts.VarSpec as vs
use Rattle.go_tree.specs.declared.exprs.ExprList as xl
use Rattle.go_tree.specs.declared.stmts.StmtList as sl
use Rattle.go_tree.specs.declared.exprs.Expr.TheBlock.{hidden-the_row-Expr-0, hidden-the_row-Stmt-1}
use Rattle.std.specs.declared.boxed.Box.{Box}
use Rattle.std.specs.declared.alloc.Global.{Global}

-- a name where it stands, as a value
abbrev pub name_at_of : source.NameAt → pure.NameAt Span
name_at_of n = record { span = n.span; name = n.name }

abbrev mutual
  -- a type as a value
  pub type_of : t.TypeExpr → pure.TypeExpr Span
  type_of (t.Named s p n) = pure.named s (option_map name_at_of p) (name_at_of n)
  type_of (t.Pointer' s _ t) = pure.pointer s (type_of t)
  type_of (t.Slice' s _ t) = pure.slice_type s (type_of t)
  type_of (t.Map' s _ k _ t) = pure.map_type s (type_of k) (type_of t)
  type_of (t.Struct s fs) = pure.struct_type s (fields_of fs)

  -- the fields of a struct as a value
  pub fields_of : fl.FieldSpecList → pure.Fields Span
  fields_of (fl.FieldSpecList' _ fs) = fields_row fs

  -- the fields of a row of them
  pub fields_row : {n : _} → fl.Row_of-FieldSpec n → pure.Fields Span
  fields_row fl.end_of-FieldSpec = pure.no_fields
  fields_row (fl.more_of-FieldSpec s n t fs) = pure.field s (name_at_of n) (type_of t) (fields_row fs)

-- a field's span, name and type
abbrev pub field_of : f.FieldSpec → Span × pure.NameAt Span × pure.TypeExpr Span
field_of x = (x.span, name_at_of x.name, type_of x.of)

-- a parameter or result as a value
abbrev pub param_of : source_param.Param → pure.Param Span
param_of p = record { span = p.span; name = option_map name_at_of p.name; rest = p.rest; of = type_of p.of }

-- a signature as a value
abbrev pub sig_of : source_sig.Sig → pure.Sig Span
sig_of g = record { params = map param_of g.params; results = map param_of g.results }

abbrev mutual
  -- an expression as a value
  pub expr_of : e.Expr → pure.Expr Span
  expr_of (e.Ident s n) = pure.ident s n
  expr_of (e.IntLit s n) = pure.int_lit s n
  expr_of (e.RuneLit s n) = pure.rune_lit s n
  expr_of (e.StrLit s n) = pure.str_lit s n
  expr_of (e.Composite s t es) = pure.composite s (type_of t) (elems_of es)
  expr_of (e.Selector' s _ x n) = pure.selector s (expr_of x) (name_at_of n)
  expr_of (e.Index' s _ x _ i) = pure.index s (expr_of x) (expr_of i)
  expr_of (e.Slice' s _ x i j) = pure.slice s (expr_of x) (boxed_expr_option i) (boxed_expr_option j)
  expr_of (e.Call' s _ f _ xs rest) = pure.call s (expr_of f) (exprs_row xs) rest
  expr_of (e.FuncLit' s g s' _ b) = pure.func_lit s (sig_of g) s' (stmts_row b)
  expr_of (e.TypeOperand s t) = pure.type_operand s (type_of t)
  expr_of (e.Unary' s o _ x) = pure.unary s o (expr_of x)
  expr_of (e.Binary' s o _ x _ y) = pure.binary s o (expr_of x) (expr_of y)
  expr_of (e.Star' s _ x) = pure.star s (expr_of x)

  -- the expressions of a row of them
  pub exprs_row : {n : _} → e.Row_of-Expr n → pure.Exprs Span
  exprs_row e.end_of-Expr = pure.no_exprs
  exprs_row (e.more_of-Expr x xs) = pure.expr_and (expr_of x) (exprs_row xs)

  -- a bound of a slice, in its box or left out
  pub boxed_expr_option : e.Held-Expr-Slice-2 → pure.ExprOption Span
  boxed_expr_option e.Expr-Slice-2-None' = pure.no_expr
  boxed_expr_option (e.Expr-Slice-2-Some' _ x) = pure.some_expr (expr_of x)

  -- the condition of a `for`, or none
  pub expr_option_of : s.Held-Stmt-For-2 → pure.ExprOption Span
  expr_option_of s.Stmt-For-2-None' = pure.no_expr
  expr_option_of (s.Stmt-For-2-Some' x) = pure.some_expr (expr_of x)

  -- the elements of a literal as a value
  pub elems_of : ml.ElemList → pure.Elems Span
  elems_of (ml.ElemList' _ es) = elems_row es

  -- the elements of a row of them
  pub elems_row : {n : _} → ml.Row_of-Elem n → pure.Elems Span
  elems_row ml.end_of-Elem = pure.no_elems
  elems_row (ml.more_of-Elem s k x es) = pure.elem s (value_option_of k) (value_of x) (elems_row es)

  -- an element's value as a value without places
  pub value_of : v.Value → pure.Value Span
  value_of (v.Plain x) = pure.plain (expr_of x)
  value_of (v.Braced s es) = pure.braced s (elems_of es)

  -- an element's key, or none
  pub value_option_of : el.Held-Elem-key → pure.ValueOption Span
  value_option_of el.Elem-key-None' = pure.no_value
  value_option_of (el.Elem-key-Some' x) = pure.some_value (value_of x)

  -- a statement as a value
  pub stmt_of : s.Stmt → pure.Stmt Span
  stmt_of (s.Const d) = const_decl_of d
  stmt_of (s.Var d) = var_decl_of d
  stmt_of (s.Empty s) = pure.empty s
  stmt_of (s.Eval s x) = pure.eval s (expr_of x)
  stmt_of (s.Step s x up) = pure.step s (expr_of x) up
  stmt_of (s.Assign' s _ xs o _ ys) = pure.assign s (exprs_row xs) o (exprs_row ys)
  stmt_of (s.Define' s ns _ ys) = pure.define s (map name_at_of ns) (exprs_row ys)
  stmt_of (s.Return' s _ xs) = pure.return_ s (exprs_row xs)
  stmt_of (s.Break s l) = pure.break_ s (option_map name_at_of l)
  stmt_of (s.Continue s l) = pure.continue_ s (option_map name_at_of l)
  stmt_of (s.Inner' s _ b) = pure.inner s (stmts_row b)
  stmt_of (s.If' s arms last) = pure.if_ s (arms_of arms) (block_option_of last)
  stmt_of (s.For' s i x p s' _ b) =
      pure.for_ s (stmt_option_of i) (expr_option_of x) (stmt_option_of p) s' (stmts_row b)
  stmt_of (s.Range' s l x s' _ b) = pure.range_ s (range_left_of l) (expr_of x) s' (stmts_row b)
  stmt_of (s.Switch' s i x cs) = pure.switch s (stmt_option_of i) (expr_option_of x) (cases_of cs)
  stmt_of (s.Defer s x) = pure.defer s (expr_of x)
  stmt_of (s.Label' s n _ x) = pure.label s (name_at_of n) (stmt_of x)

  -- the statements of a row of them
  pub stmts_row : {n : _} → s.Row_of-Stmt n → pure.Stmts Span
  stmts_row s.end_of-Stmt = pure.no_stmts
  stmts_row (s.more_of-Stmt x xs) = pure.stmt_and (stmt_of x) (stmts_row xs)

  -- a statement in a header, or none
  pub stmt_option_of : s.Held-Stmt-For-1 → pure.StmtOption Span
  stmt_option_of s.Stmt-For-1-None' = pure.no_stmt
  stmt_option_of (s.Stmt-For-1-Some' _ x) = pure.some_stmt (stmt_of x)

  -- the last block of an `if`, or none
  pub block_option_of : s.Held-Stmt-If-2 → pure.BlockOption Span
  block_option_of s.Stmt-If-2-None' = pure.no_block
  block_option_of (s.Stmt-If-2-Some' s _ b) = pure.some_block s (stmts_row b)

  -- the left side of a range clause as a value
  pub range_left_of : r.RangeLeft → pure.RangeLeft Span
  range_left_of r.Nothing = pure.nothing
  range_left_of (r.Assigns' _ xs) = pure.assigns (exprs_row xs)
  range_left_of (r.Defines ns) = pure.defines (map name_at_of ns)

  -- the arms of an `if` as a value
  pub arms_of : al.ArmList → pure.Arms Span
  arms_of (al.ArmList' _ arms) = arms_row arms

  -- the arms of a row of them
  pub arms_row : {n : _} → al.Row_of-Arm n → pure.Arms Span
  arms_row al.end_of-Arm = pure.no_arms
  arms_row (al.more_of-Arm s i x s' _ b arms) =
      pure.arm s (stmt_option_of i) (expr_of x) s' (stmts_row b) (arms_row arms)

  -- the clauses of a switch as a value
  pub cases_of : cl.CaseList → pure.Cases Span
  cases_of (cl.CaseList' _ cs) = cases_row cs

  -- the clauses of a row of them
  pub cases_row : {n : _} → cl.Row_of-Case n → pure.Cases Span
  cases_row cl.end_of-Case = pure.no_cases
  cases_row (cl.more_of-Case s _ xs _ b cs) = pure.case s (exprs_row xs) (stmts_row b) (cases_row cs)

  -- the declaration of constants, as the statement that it is
  pub const_decl_of : cd.ConstDecl → pure.Stmt Span
  const_decl_of (cd.ConstDecl' s g (csl.ConstSpecList' _ ss)) = pure.const_decl s g (const_specs_row ss)

  -- the specs of constants of a row of them
  pub const_specs_row : {n : _} → csl.Row_of-ConstSpec n → pure.ValueSpecs Span
  const_specs_row csl.end_of-ConstSpec = pure.no_specs
  const_specs_row (csl.more_of-ConstSpec s ns t _ xs ss) =
      pure.spec s (map name_at_of ns) (option_map type_of t) (exprs_row xs) (const_specs_row ss)

  -- the declaration of variables, as the statement that it is
  pub var_decl_of : vd.VarDecl → pure.Stmt Span
  var_decl_of (vd.VarDecl' s g (vsl.VarSpecList' _ ss)) = pure.var_decl s g (var_specs_row ss)

  -- the specs of variables of a row of them
  pub var_specs_row : {n : _} → vsl.Row_of-VarSpec n → pure.ValueSpecs Span
  var_specs_row vsl.end_of-VarSpec = pure.no_specs
  var_specs_row (vsl.more_of-VarSpec s ns t _ xs ss) =
      pure.spec s (map name_at_of ns) (option_map type_of t) (exprs_row xs) (var_specs_row ss)

-- a list of expressions as a value
abbrev pub exprs_of : xl.ExprList → pure.Exprs Span
exprs_of l = exprs_row (hidden-the_row-Expr-0 l.items)

-- a list of statements as a value
abbrev pub stmts_of : sl.StmtList → pure.Stmts Span
stmts_of l = stmts_row (hidden-the_row-Stmt-1 l.items)

-- what an option holds
abbrev pub boxed_expr_option_of : Option (Box e.Expr Global) → pure.ExprOption Span
boxed_expr_option_of o = boxed_expr_option (e.back-Expr-Slice-2 o)

-- an expression that an option holds, or none
abbrev pub plain_expr_option_of : Option e.Expr → pure.ExprOption Span
plain_expr_option_of o = expr_option_of (s.back-Stmt-For-2 o)

-- a statement that an option holds in a box, or none
abbrev pub boxed_stmt_option_of : Option (Box s.Stmt Global) → pure.StmtOption Span
boxed_stmt_option_of o = stmt_option_of (s.back-Stmt-For-1 o)

-- a block that an option holds, or none
abbrev pub held_block_option_of : Option bk.Block → pure.BlockOption Span
held_block_option_of o = block_option_of (s.back-Stmt-If-2 o)

-- a value that an option holds, or none
abbrev pub held_value_option_of : Option v.Value → pure.ValueOption Span
held_value_option_of o = value_option_of (el.back-Elem-key o)

-- a struct's fields
abbrev pub block_of : bk.Block → Span × pure.Stmts Span
block_of b = (b.span, stmts_of b.stmts)

-- an element's span, key and value
abbrev pub elem_of : el.Elem → Span × pure.ValueOption Span × pure.Value Span
elem_of x = (x.span, held_value_option_of x.key, value_of x.value)

-- an arm's span, first statement, test, and block
abbrev pub arm_of : a.Arm → Span × pure.StmtOption Span × pure.Expr Span × (Span × pure.Stmts Span)
arm_of x = (x.span, boxed_stmt_option_of x.first, expr_of x.test, block_of x.body)

-- a clause's span, expressions and statements
abbrev pub case_of : ca.Case → Span × pure.Exprs Span × pure.Stmts Span
case_of x = (x.span, exprs_of x.values, stmts_of x.body)

-- a constant spec's span, names, type and values
abbrev pub const_spec_of : cs.ConstSpec → Span × List (pure.NameAt Span) × Option (pure.TypeExpr Span) × pure.Exprs Span
const_spec_of x = (x.span, map name_at_of x.names, option_map type_of x.of, exprs_of x.values)

-- a variable spec's span, names, type and values
abbrev pub var_spec_of : vs.VarSpec → Span × List (pure.NameAt Span) × Option (pure.TypeExpr Span) × pure.Exprs Span
var_spec_of x = (x.span, map name_at_of x.names, option_map type_of x.of, exprs_of x.values)

-- the specs of a declaration of constants
abbrev pub const_specs_of : csl.ConstSpecList → pure.ValueSpecs Span
const_specs_of (csl.ConstSpecList' _ ss) = const_specs_row ss

-- the specs of a declaration of variables
abbrev pub var_specs_of : vsl.VarSpecList → pure.ValueSpecs Span
var_specs_of (vsl.VarSpecList' _ ss) = var_specs_row ss
