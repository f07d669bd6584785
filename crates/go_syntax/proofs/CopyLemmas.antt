-- A list whose entries are copies is a copy.
use Rattle.std.proofs.Common.{◌≡◌, ◌<◌, ◌≤◌, ◌+◌, ℕ, List, [], ◌∷◌, ◌++◌, length, take, get_or, map, sym, ap, ◌∙◌}
use Rattle.std.proofs.lemmas.List.{map_push, map_more, take_all}
use Rattle.go_tree.specs.declared.spans.Span.{Span}
use Rattle.go_tree.specs.Tree as pure
use Rattle.go_tree.specs.View.{field_of, expr_of, stmt_of, elem_of, arm_of, case_of, const_spec_of, var_spec_of}
use Rattle.go_tree.specs.Lists.{arms_from, cases_from, elems_from, exprs_from, fields_from, specs_from, stmts_from}
use Rattle.go_tree.specs.declared.types.FieldSpec.{FieldSpec}
use Rattle.go_tree.specs.declared.exprs.Expr.{Expr}
use Rattle.go_tree.specs.declared.stmts.Stmt.{Stmt}
use Rattle.go_tree.specs.declared.exprs.Elem.{Elem}
use Rattle.go_tree.specs.declared.stmts.Arm.{Arm}
use Rattle.go_tree.specs.declared.stmts.Case.{Case}
use Rattle.go_tree.specs.declared.stmts.ConstSpec.{ConstSpec}
use Rattle.go_tree.specs.declared.stmts.VarSpec.{VarSpec}

-- one more copy
pub map_copied : {A B : Type 0} (f : A → B) (xs ys : List A) (x : A) (i : ℕ) (d : A) → i < length ys → map f xs ≡ map f (take i ys) → f x ≡ f (get_or ys i d) → map f (xs ++ x ∷ []) ≡ map f (take (i + 1) ys)
map_copied f xs ys x i d lt before here =
    map_push f xs x ∙ (λ j. before j ++ here j ∷ []) ∙ sym (map_more f ys i d lt)

-- all copies
list_copied : {A B T : Type 0} (f : A → B) (from : List B → T) (l r : T) (vs xs : List A) (n : ℕ) → r ≡ from (map f vs) → l ≡ from (map f xs) → map f vs ≡ map f (take n xs) → length xs ≤ n → r ≡ l
list_copied f from l r vs xs n made seen same whole =
    made ∙ ap from (same ∙ ap (map f) (take_all n xs whole)) ∙ sym seen

pub fields_copied : (l r : pure.Fields Span) (vs xs : List FieldSpec) (n : ℕ) → r ≡ fields_from (map field_of vs) → l ≡ fields_from (map field_of xs) → map field_of vs ≡ map field_of (take n xs) → length xs ≤ n → r ≡ l
fields_copied = list_copied field_of fields_from

pub exprs_copied : (l r : pure.Exprs Span) (vs xs : List Expr) (n : ℕ) → r ≡ exprs_from (map expr_of vs) → l ≡ exprs_from (map expr_of xs) → map expr_of vs ≡ map expr_of (take n xs) → length xs ≤ n → r ≡ l
exprs_copied = list_copied expr_of exprs_from

pub stmts_copied : (l r : pure.Stmts Span) (vs xs : List Stmt) (n : ℕ) → r ≡ stmts_from (map stmt_of vs) → l ≡ stmts_from (map stmt_of xs) → map stmt_of vs ≡ map stmt_of (take n xs) → length xs ≤ n → r ≡ l
stmts_copied = list_copied stmt_of stmts_from

pub elems_copied : (l r : pure.Elems Span) (vs xs : List Elem) (n : ℕ) → r ≡ elems_from (map elem_of vs) → l ≡ elems_from (map elem_of xs) → map elem_of vs ≡ map elem_of (take n xs) → length xs ≤ n → r ≡ l
elems_copied = list_copied elem_of elems_from

pub arms_copied : (l r : pure.Arms Span) (vs xs : List Arm) (n : ℕ) → r ≡ arms_from (map arm_of vs) → l ≡ arms_from (map arm_of xs) → map arm_of vs ≡ map arm_of (take n xs) → length xs ≤ n → r ≡ l
arms_copied = list_copied arm_of arms_from

pub cases_copied : (l r : pure.Cases Span) (vs xs : List Case) (n : ℕ) → r ≡ cases_from (map case_of vs) → l ≡ cases_from (map case_of xs) → map case_of vs ≡ map case_of (take n xs) → length xs ≤ n → r ≡ l
cases_copied = list_copied case_of cases_from

pub const_specs_copied : (l r : pure.ValueSpecs Span) (vs xs : List ConstSpec) (n : ℕ) → r ≡ specs_from (map const_spec_of vs) → l ≡ specs_from (map const_spec_of xs) → map const_spec_of vs ≡ map const_spec_of (take n xs) → length xs ≤ n → r ≡ l
const_specs_copied = list_copied const_spec_of specs_from

pub var_specs_copied : (l r : pure.ValueSpecs Span) (vs xs : List VarSpec) (n : ℕ) → r ≡ specs_from (map var_spec_of vs) → l ≡ specs_from (map var_spec_of xs) → map var_spec_of vs ≡ map var_spec_of (take n xs) → length xs ≤ n → r ≡ l
var_specs_copied = list_copied var_spec_of specs_from
