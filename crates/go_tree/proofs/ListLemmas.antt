-- A list of trees is made of its entries.
use Rattle.std.proofs.Common.{◌≡◌, List, map, Vec, Global, refl, sym, ap, ◌∙◌}
use Rattle.std.specs.Option.{option_map}
use denote.Hole.Carrier
use Rattle.go_tree.specs.declared.types.TypeExpr.TheBlock as t
use Rattle.go_tree.specs.declared.exprs.Expr.TheBlock as e
use Rattle.go_tree.specs.Tree as pure
use Rattle.go_tree.specs.View.{name_at_of, type_of, field_of, fields_of, fields_row, expr_of, exprs_of, exprs_row, stmt_of, stmts_of, stmts_row, stmt_option_of, elem_of, elems_of, elems_row, value_of, value_option_of, arm_of, arms_of, arms_row, case_of, cases_of, cases_row, const_spec_of, const_specs_of, const_specs_row, var_spec_of, var_specs_of, var_specs_row}
use Rattle.go_tree.specs.Lists.{fields_from, exprs_from, stmts_from, elems_from, arms_from, cases_from, specs_from}
use Rattle.go_tree.specs.declared.types.FieldSpecList.{FieldSpecList, out-FieldSpecList}
use Rattle.go_tree.specs.declared.types.FieldSpec.{FieldSpec}
use Rattle.go_tree.specs.declared.types.FieldSpecList.{FieldSpecList'}
use Rattle.go_tree.specs.declared.exprs.ExprList.{ExprList, out-ExprList}
use Rattle.go_tree.specs.declared.exprs.Expr.{Expr}
use Rattle.go_tree.specs.declared.stmts.StmtList.{StmtList, out-StmtList}
use Rattle.go_tree.specs.declared.stmts.Stmt.{Stmt}
use Rattle.go_tree.specs.declared.exprs.ElemList.{ElemList, out-ElemList}
use Rattle.go_tree.specs.declared.exprs.Elem.{Elem}
use Rattle.go_tree.specs.declared.exprs.ElemList.{ElemList'}
use Rattle.go_tree.specs.declared.stmts.ArmList.{ArmList, out-ArmList}
use Rattle.go_tree.specs.declared.stmts.Arm.{Arm}
use Rattle.go_tree.specs.declared.stmts.ArmList.{ArmList'}
use Rattle.go_tree.specs.declared.stmts.CaseList.{CaseList, out-CaseList}
use Rattle.go_tree.specs.declared.stmts.Case.{Case}
use Rattle.go_tree.specs.declared.stmts.CaseList.{CaseList'}
use Rattle.go_tree.specs.declared.stmts.ConstSpecList.{ConstSpecList, out-ConstSpecList}
use Rattle.go_tree.specs.declared.stmts.ConstSpec.{ConstSpec}
use Rattle.go_tree.specs.declared.stmts.ConstSpecList.{ConstSpecList'}
use Rattle.go_tree.specs.declared.stmts.VarSpecList.{VarSpecList, out-VarSpecList}
use Rattle.go_tree.specs.declared.stmts.VarSpec.{VarSpec}
use Rattle.go_tree.specs.declared.stmts.VarSpecList.{VarSpecList'}

fields_row-items : (n : _) (row : t.Row_of-FieldSpec n) → fields_row row ≡ fields_from (map field_of (t.items-the_row-FieldSpec n row))
fields_row-items n t.end_of-FieldSpec = refl
fields_row-items n (t.more_of-FieldSpec s x t rest) = ap (pure.field s (name_at_of x) (type_of t)) (fields_row-items _ rest)

pub fields_of-items : (l : FieldSpecList) → fields_of l ≡ fields_from (map field_of (out-FieldSpecList l).items.items)
unfolding out-FieldSpecList Carrier.out t.shown-the_row-FieldSpec-0
fields_of-items (FieldSpecList' shape row) =
    fields_row-items _ row ∙ ap (λ xs. fields_from (map field_of xs)) (sym (t.items_shown-the_row-FieldSpec-0 shape row))

exprs_row-items : (n : _) (row : e.Row_of-Expr n) → exprs_row row ≡ exprs_from (map expr_of (e.items-the_row-Expr n row))
exprs_row-items n e.end_of-Expr = refl
exprs_row-items n (e.more_of-Expr x rest) = ap (pure.expr_and (expr_of x)) (exprs_row-items _ rest)

exprs_shown : (shape : _) (row : e.Row_of-Expr _) → exprs_row row ≡ exprs_row (e.hidden-the_row-Expr-0 (e.shown-the_row-Expr-0 shape row))
exprs_shown shape row =
    exprs_row-items _ row ∙ ap (λ xs. exprs_from (map expr_of xs)) (sym (e.items_hidden-the_row-Expr-0 (e.shown-the_row-Expr-0 shape row) ∙ e.items_shown-the_row-Expr-0 shape row))
    ∙ sym (exprs_row-items _ (e.hidden-the_row-Expr-0 (e.shown-the_row-Expr-0 shape row)))

pub exprs_of-items : (l : ExprList) → exprs_of l ≡ exprs_from (map expr_of (out-ExprList l).items.items)
exprs_of-items l =
    exprs_row-items _ (e.hidden-the_row-Expr-0 l.items) ∙ ap (λ xs. exprs_from (map expr_of xs)) (e.items_hidden-the_row-Expr-0 l.items)

stmts_row-items : (n : _) (row : e.Row_of-Stmt n) → stmts_row row ≡ stmts_from (map stmt_of (e.items-the_row-Stmt n row))
stmts_row-items n e.end_of-Stmt = refl
stmts_row-items n (e.more_of-Stmt x rest) = ap (pure.stmt_and (stmt_of x)) (stmts_row-items _ rest)

stmts_shown : (shape : _) (row : e.Row_of-Stmt _) → stmts_row row ≡ stmts_row (e.hidden-the_row-Stmt-1 (e.shown-the_row-Stmt-1 shape row))
stmts_shown shape row =
    stmts_row-items _ row ∙ ap (λ xs. stmts_from (map stmt_of xs)) (sym (e.items_hidden-the_row-Stmt-1 (e.shown-the_row-Stmt-1 shape row) ∙ e.items_shown-the_row-Stmt-1 shape row))
    ∙ sym (stmts_row-items _ (e.hidden-the_row-Stmt-1 (e.shown-the_row-Stmt-1 shape row)))

pub stmts_of-items : (l : StmtList) → stmts_of l ≡ stmts_from (map stmt_of (out-StmtList l).items.items)
stmts_of-items l =
    stmts_row-items _ (e.hidden-the_row-Stmt-1 l.items) ∙ ap (λ xs. stmts_from (map stmt_of xs)) (e.items_hidden-the_row-Stmt-1 l.items)

elems_row-items : (n : _) (row : e.Row_of-Elem n) → elems_row row ≡ elems_from (map elem_of (e.items-the_row-Elem n row))
elems_row-items n e.end_of-Elem = refl
elems_row-items n (e.more_of-Elem s k x rest) = λ j. pure.elem s (value_option_of (sym (e.backs-Elem-key k) j)) (value_of x) (elems_row-items _ rest j)

pub elems_of-items : (l : ElemList) → elems_of l ≡ elems_from (map elem_of (out-ElemList l).items.items)
unfolding out-ElemList Carrier.out e.shown-the_row-Elem-2
elems_of-items (ElemList' shape row) =
    elems_row-items _ row ∙ ap (λ xs. elems_from (map elem_of xs)) (sym (e.items_shown-the_row-Elem-2 shape row))

arms_row-items : (n : _) (row : e.Row_of-Arm n) → arms_row row ≡ arms_from (map arm_of (e.items-the_row-Arm n row))
arms_row-items n e.end_of-Arm = refl
arms_row-items n (e.more_of-Arm s i x s' shape b rest) = λ j. pure.arm s (stmt_option_of (sym (e.backs-Stmt-For-1 i) j)) (expr_of x) s' (stmts_shown shape b j) (arms_row-items _ rest j)

pub arms_of-items : (l : ArmList) → arms_of l ≡ arms_from (map arm_of (out-ArmList l).items.items)
unfolding out-ArmList Carrier.out e.shown-the_row-Arm-3
arms_of-items (ArmList' shape row) =
    arms_row-items _ row ∙ ap (λ xs. arms_from (map arm_of xs)) (sym (e.items_shown-the_row-Arm-3 shape row))

cases_row-items : (n : _) (row : e.Row_of-Case n) → cases_row row ≡ cases_from (map case_of (e.items-the_row-Case n row))
cases_row-items n e.end_of-Case = refl
cases_row-items n (e.more_of-Case s shape xs shape' b rest) = λ j. pure.case s (exprs_shown shape xs j) (stmts_shown shape' b j) (cases_row-items _ rest j)

pub cases_of-items : (l : CaseList) → cases_of l ≡ cases_from (map case_of (out-CaseList l).items.items)
unfolding out-CaseList Carrier.out e.shown-the_row-Case-4
cases_of-items (CaseList' shape row) =
    cases_row-items _ row ∙ ap (λ xs. cases_from (map case_of xs)) (sym (e.items_shown-the_row-Case-4 shape row))

const_specs_row-items : (n : _) (row : e.Row_of-ConstSpec n) → const_specs_row row ≡ specs_from (map const_spec_of (e.items-the_row-ConstSpec n row))
const_specs_row-items n e.end_of-ConstSpec = refl
const_specs_row-items n (e.more_of-ConstSpec s ns t shape xs rest) = λ j. pure.spec s (map name_at_of ns) (option_map type_of t) (exprs_shown shape xs j) (const_specs_row-items _ rest j)

pub const_specs_of-items : (l : ConstSpecList) → const_specs_of l ≡ specs_from (map const_spec_of (out-ConstSpecList l).items.items)
unfolding out-ConstSpecList Carrier.out e.shown-the_row-ConstSpec-5
const_specs_of-items (ConstSpecList' shape row) =
    const_specs_row-items _ row ∙ ap (λ xs. specs_from (map const_spec_of xs)) (sym (e.items_shown-the_row-ConstSpec-5 shape row))

var_specs_row-items : (n : _) (row : e.Row_of-VarSpec n) → var_specs_row row ≡ specs_from (map var_spec_of (e.items-the_row-VarSpec n row))
var_specs_row-items n e.end_of-VarSpec = refl
var_specs_row-items n (e.more_of-VarSpec s ns t shape xs rest) = λ j. pure.spec s (map name_at_of ns) (option_map type_of t) (exprs_shown shape xs j) (var_specs_row-items _ rest j)

pub var_specs_of-items : (l : VarSpecList) → var_specs_of l ≡ specs_from (map var_spec_of (out-VarSpecList l).items.items)
unfolding out-VarSpecList Carrier.out e.shown-the_row-VarSpec-6
var_specs_of-items (VarSpecList' shape row) =
    var_specs_row-items _ row ∙ ap (λ xs. specs_from (map var_spec_of xs)) (sym (e.items_shown-the_row-VarSpec-6 shape row))

pub fields_made : (l : FieldSpecList) (v : Vec FieldSpec Global) → (out-FieldSpecList l).items ≡ v → fields_of l ≡ fields_from (map field_of v.items)
fields_made l v e = fields_of-items l ∙ ap (λ w. fields_from (map field_of w.items)) e

pub fields_seen : (l : FieldSpecList) (xs : List FieldSpec) → xs ≡ (out-FieldSpecList l).items.items → fields_of l ≡ fields_from (map field_of xs)
fields_seen l xs e = fields_of-items l ∙ ap (λ ys. fields_from (map field_of ys)) (sym e)

pub exprs_made : (l : ExprList) (v : Vec Expr Global) → (out-ExprList l).items ≡ v → exprs_of l ≡ exprs_from (map expr_of v.items)
exprs_made l v e = exprs_of-items l ∙ ap (λ w. exprs_from (map expr_of w.items)) e

pub exprs_seen : (l : ExprList) (xs : List Expr) → xs ≡ (out-ExprList l).items.items → exprs_of l ≡ exprs_from (map expr_of xs)
exprs_seen l xs e = exprs_of-items l ∙ ap (λ ys. exprs_from (map expr_of ys)) (sym e)

pub stmts_made : (l : StmtList) (v : Vec Stmt Global) → (out-StmtList l).items ≡ v → stmts_of l ≡ stmts_from (map stmt_of v.items)
stmts_made l v e = stmts_of-items l ∙ ap (λ w. stmts_from (map stmt_of w.items)) e

pub stmts_seen : (l : StmtList) (xs : List Stmt) → xs ≡ (out-StmtList l).items.items → stmts_of l ≡ stmts_from (map stmt_of xs)
stmts_seen l xs e = stmts_of-items l ∙ ap (λ ys. stmts_from (map stmt_of ys)) (sym e)

pub elems_made : (l : ElemList) (v : Vec Elem Global) → (out-ElemList l).items ≡ v → elems_of l ≡ elems_from (map elem_of v.items)
elems_made l v e = elems_of-items l ∙ ap (λ w. elems_from (map elem_of w.items)) e

pub elems_seen : (l : ElemList) (xs : List Elem) → xs ≡ (out-ElemList l).items.items → elems_of l ≡ elems_from (map elem_of xs)
elems_seen l xs e = elems_of-items l ∙ ap (λ ys. elems_from (map elem_of ys)) (sym e)

pub arms_made : (l : ArmList) (v : Vec Arm Global) → (out-ArmList l).items ≡ v → arms_of l ≡ arms_from (map arm_of v.items)
arms_made l v e = arms_of-items l ∙ ap (λ w. arms_from (map arm_of w.items)) e

pub arms_seen : (l : ArmList) (xs : List Arm) → xs ≡ (out-ArmList l).items.items → arms_of l ≡ arms_from (map arm_of xs)
arms_seen l xs e = arms_of-items l ∙ ap (λ ys. arms_from (map arm_of ys)) (sym e)

pub cases_made : (l : CaseList) (v : Vec Case Global) → (out-CaseList l).items ≡ v → cases_of l ≡ cases_from (map case_of v.items)
cases_made l v e = cases_of-items l ∙ ap (λ w. cases_from (map case_of w.items)) e

pub cases_seen : (l : CaseList) (xs : List Case) → xs ≡ (out-CaseList l).items.items → cases_of l ≡ cases_from (map case_of xs)
cases_seen l xs e = cases_of-items l ∙ ap (λ ys. cases_from (map case_of ys)) (sym e)

pub const_specs_made : (l : ConstSpecList) (v : Vec ConstSpec Global) → (out-ConstSpecList l).items ≡ v → const_specs_of l ≡ specs_from (map const_spec_of v.items)
const_specs_made l v e = const_specs_of-items l ∙ ap (λ w. specs_from (map const_spec_of w.items)) e

pub const_specs_seen : (l : ConstSpecList) (xs : List ConstSpec) → xs ≡ (out-ConstSpecList l).items.items → const_specs_of l ≡ specs_from (map const_spec_of xs)
const_specs_seen l xs e = const_specs_of-items l ∙ ap (λ ys. specs_from (map const_spec_of ys)) (sym e)

pub var_specs_made : (l : VarSpecList) (v : Vec VarSpec Global) → (out-VarSpecList l).items ≡ v → var_specs_of l ≡ specs_from (map var_spec_of v.items)
var_specs_made l v e = var_specs_of-items l ∙ ap (λ w. specs_from (map var_spec_of w.items)) e

pub var_specs_seen : (l : VarSpecList) (xs : List VarSpec) → xs ≡ (out-VarSpecList l).items.items → var_specs_of l ≡ specs_from (map var_spec_of xs)
var_specs_seen l xs e = var_specs_of-items l ∙ ap (λ ys. specs_from (map var_spec_of ys)) (sym e)

pub ruleset list_lemmas = (fields_made, fields_seen, exprs_made, exprs_seen, stmts_made, stmts_seen, elems_made, elems_seen, arms_made, arms_seen, cases_made, cases_seen, const_specs_made, const_specs_seen, var_specs_made, var_specs_seen)
