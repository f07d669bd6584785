-- Lists whose entries are written one by one.
use Rattle.std.proofs.Common.{◌≡◌, ◌<◌, ◌≤◌, ◌+◌, ℕ, List, [], ◌∷◌, ◌++◌, length, take, get_or, map, sym, ap, ◌∙◌, refl}
use Rattle.std.specs.Prelude.{Option}
use Rattle.std.proofs.lemmas.List.{map_push, map_more, take_all}
use Rattle.go_tree.specs.declared.spans.Span.{Span}
use Rattle.go_tree.specs.Tree as pure
use Rattle.go_tree.specs.View.{name_at_of, param_of, field_of, expr_of, stmt_of, elem_of, arm_of, case_of}
use Rattle.go_tree.specs.View.{const_spec_of, var_spec_of}
use Rattle.go_tree.specs.Lists.{arms_from, cases_from, elems_from, exprs_from, fields_from, specs_from, stmts_from}
use Rattle.go_tree.specs.declared.texts.NameAt.{NameAt}
use Rattle.go_tree.specs.declared.types.Param.{Param}
use Rattle.go_tree.specs.declared.types.FieldSpec.{FieldSpec}
use Rattle.go_tree.specs.declared.exprs.Expr.{Expr}
use Rattle.go_tree.specs.declared.stmts.Stmt.{Stmt}
use Rattle.go_tree.specs.declared.exprs.Elem.{Elem}
use Rattle.go_tree.specs.declared.stmts.Arm.{Arm}
use Rattle.go_tree.specs.declared.stmts.Case.{Case}
use Rattle.go_tree.specs.declared.stmts.ConstSpec.{ConstSpec}
use Rattle.go_tree.specs.declared.stmts.VarSpec.{VarSpec}
use Rattle.call_forms.specs.Written.{written_name, written_names, written_param, written_field, written_fields}
use Rattle.call_forms.specs.Written.{written_expr, written_exprs, written_elem, written_elems, written_stmt}
use Rattle.call_forms.specs.Written.{written_stmts, written_arm, written_arms, written_case, written_cases}
use Rattle.call_forms.specs.Written.{written_spec, written_specs}
use Rattle.call_forms.specs.Literal.{literal_param}
use Rattle.call_forms.specs.declared.qualifiers.There.{There}

-- one more entry
pub map_written : {A B C : Type 0} (f : A → C) (g : B → C) (xs : List A) (ys : List B) (x : A) (i : ℕ) (d : B) → i <
    length ys → map f xs ≡ map g (take i ys) → f x ≡ g (get_or ys i d) → map f (xs ++ x ∷ []) ≡ map g (take (i + 1) ys)
map_written f g xs ys x i d lt before here =
    map_push f xs x ∙ (λ j. before j ++ here j ∷ []) ∙ sym (map_more g ys i d lt)

-- all entries
list_written : {A V T : Type 0} (f : A → V) (w : V → V) (all : T → T) (from : List V → T) → ((xs : List A) → from (map
    (λ x. w (f x)) xs) ≡ all (from (map f xs))) → (l r : T) (vs xs : List A) (n : ℕ) → r ≡ from (map f vs) → l ≡ from
    (map f xs) → map f vs ≡ map (λ x. w (f x)) (take n xs) → length xs ≤ n → r ≡ all l
list_written f w all from each l r vs xs n made seen same whole =
    made ∙ ap from (same ∙ ap (map (λ x. w (f x))) (take_all n xs whole)) ∙ each xs ∙ ap all (sym seen)

-- a list that is mapped twice
pub map_then : {A B C : Type 0} (f : A → B) (g : B → C) (xs : List A) → map (λ x. g (f x)) xs ≡ map g (map f xs)
map_then f g [] = refl
map_then f g (x ∷ xs) = ap (λ l. g (f x) ∷ l) (map_then f g xs)

map_all : {A V : Type 0} (f : A → V) (w : V → V) (vs xs : List A) (n : ℕ) → map f vs ≡ map (λ x. w (f x)) (take n xs) →
    length xs ≤ n → map f vs ≡ map w (map f xs)
map_all f w vs xs n same whole = same ∙ ap (map (λ x. w (f x))) (take_all n xs whole) ∙ map_then f w xs

pub names_written : (t : There) (vs xs : List NameAt) (n : ℕ) → map name_at_of vs ≡ map (λ x. written_name t (name_at_of
    x)) (take n xs) → length xs ≤ n → map name_at_of vs ≡ written_names t (map name_at_of xs)
names_written t = map_all name_at_of (written_name t)

pub params_written : (t : There) (vs xs : List Param) (n : ℕ) → map param_of vs ≡ map (λ x. written_param t (param_of
    x)) (take n xs) → length xs ≤ n → map param_of vs ≡ map (written_param t) (map param_of xs)
params_written t = map_all param_of (written_param t)

pub literals_written : (t : There) (vs xs : List Param) (n : ℕ) → map param_of vs ≡ map (λ x. literal_param t (param_of
    x)) (take n xs) → length xs ≤ n → map param_of vs ≡ map (literal_param t) (map param_of xs)
literals_written t = map_all param_of (literal_param t)

module _ (t : There) where
  each_field : (xs : List FieldSpec) → fields_from (map (λ x. written_field t (field_of x)) xs) ≡ written_fields t
      (fields_from (map field_of xs))
  each_field [] = refl
  each_field (x ∷ xs) = ap (pure.field t.span (written_field t (field_of x)).1 (written_field t (field_of x)).2)
      (each_field xs)

  each_expr : (xs : List Expr) → exprs_from (map (λ x. written_expr t (expr_of x)) xs) ≡ written_exprs t (exprs_from
      (map expr_of xs))
  each_expr [] = refl
  each_expr (x ∷ xs) = ap (pure.expr_and (written_expr t (expr_of x))) (each_expr xs)

  each_stmt : (xs : List Stmt) → stmts_from (map (λ x. written_stmt t (stmt_of x)) xs) ≡ written_stmts t (stmts_from
      (map stmt_of xs))
  each_stmt [] = refl
  each_stmt (x ∷ xs) = ap (pure.stmt_and (written_stmt t (stmt_of x))) (each_stmt xs)

  each_elem : (xs : List Elem) → elems_from (map (λ x. written_elem t (elem_of x)) xs) ≡ written_elems t (elems_from
      (map elem_of xs))
  each_elem [] = refl
  each_elem (x ∷ xs) = ap (pure.elem t.span (written_elem t (elem_of x)).1 (written_elem t (elem_of x)).2) (each_elem
      xs)

  each_arm : (xs : List Arm) → arms_from (map (λ x. written_arm t (arm_of x)) xs) ≡ written_arms t (arms_from (map
      arm_of xs))
  each_arm [] = refl
  each_arm (x ∷ xs) = ap (pure.arm t.span (written_arm t (arm_of x)).1 (written_arm t (arm_of x)).2 t.span (written_arm
      t (arm_of x)).3.1) (each_arm xs)

  each_case : (xs : List Case) → cases_from (map (λ x. written_case t (case_of x)) xs) ≡ written_cases t (cases_from
      (map case_of xs))
  each_case [] = refl
  each_case (x ∷ xs) = ap (pure.case t.span (written_case t (case_of x)).1 (written_case t (case_of x)).2) (each_case
      xs)

  each_spec : {A : Type 0} (f : A → Span × List (pure.NameAt Span) × Option (pure.TypeExpr Span) × pure.Exprs Span) (xs
      : List A) → specs_from (map (λ x. written_spec t (f x)) xs) ≡ written_specs t (specs_from (map f xs))
  each_spec f [] = refl
  each_spec f (x ∷ xs) = ap (pure.spec t.span (written_spec t (f x)).1 (written_spec t (f x)).2 (written_spec t (f
      x)).3) (each_spec f xs)

pub fields_written : (t : There) (l r : pure.Fields Span) (vs xs : List FieldSpec) (n : ℕ) → r ≡ fields_from (map
    field_of vs) → l ≡ fields_from (map field_of xs) → map field_of vs ≡ map (λ x. written_field t (field_of x)) (take n
    xs) → length xs ≤ n → r ≡ written_fields t l
fields_written t = list_written field_of (written_field t) (written_fields t) fields_from (each_field t)

pub exprs_written : (t : There) (l r : pure.Exprs Span) (vs xs : List Expr) (n : ℕ) → r ≡ exprs_from (map expr_of vs) →
    l ≡ exprs_from (map expr_of xs) → map expr_of vs ≡ map (λ x. written_expr t (expr_of x)) (take n xs) → length xs ≤ n
    → r ≡ written_exprs t l
exprs_written t = list_written expr_of (written_expr t) (written_exprs t) exprs_from (each_expr t)

pub stmts_written : (t : There) (l r : pure.Stmts Span) (vs xs : List Stmt) (n : ℕ) → r ≡ stmts_from (map stmt_of vs) →
    l ≡ stmts_from (map stmt_of xs) → map stmt_of vs ≡ map (λ x. written_stmt t (stmt_of x)) (take n xs) → length xs ≤ n
    → r ≡ written_stmts t l
stmts_written t = list_written stmt_of (written_stmt t) (written_stmts t) stmts_from (each_stmt t)

pub elems_written : (t : There) (l r : pure.Elems Span) (vs xs : List Elem) (n : ℕ) → r ≡ elems_from (map elem_of vs) →
    l ≡ elems_from (map elem_of xs) → map elem_of vs ≡ map (λ x. written_elem t (elem_of x)) (take n xs) → length xs ≤ n
    → r ≡ written_elems t l
elems_written t = list_written elem_of (written_elem t) (written_elems t) elems_from (each_elem t)

pub arms_written : (t : There) (l r : pure.Arms Span) (vs xs : List Arm) (n : ℕ) → r ≡ arms_from (map arm_of vs) → l ≡
    arms_from (map arm_of xs) → map arm_of vs ≡ map (λ x. written_arm t (arm_of x)) (take n xs) → length xs ≤ n → r ≡
    written_arms t l
arms_written t = list_written arm_of (written_arm t) (written_arms t) arms_from (each_arm t)

pub cases_written : (t : There) (l r : pure.Cases Span) (vs xs : List Case) (n : ℕ) → r ≡ cases_from (map case_of vs) →
    l ≡ cases_from (map case_of xs) → map case_of vs ≡ map (λ x. written_case t (case_of x)) (take n xs) → length xs ≤ n
    → r ≡ written_cases t l
cases_written t = list_written case_of (written_case t) (written_cases t) cases_from (each_case t)

pub const_specs_written : (t : There) (l r : pure.ValueSpecs Span) (vs xs : List ConstSpec) (n : ℕ) → r ≡ specs_from
    (map const_spec_of vs) → l ≡ specs_from (map const_spec_of xs) → map const_spec_of vs ≡ map (λ x. written_spec t
    (const_spec_of x)) (take n xs) → length xs ≤ n → r ≡ written_specs t l
const_specs_written t = list_written const_spec_of (written_spec t) (written_specs t) specs_from (each_spec t
    const_spec_of)

pub var_specs_written : (t : There) (l r : pure.ValueSpecs Span) (vs xs : List VarSpec) (n : ℕ) → r ≡ specs_from (map
    var_spec_of vs) → l ≡ specs_from (map var_spec_of xs) → map var_spec_of vs ≡ map (λ x. written_spec t (var_spec_of
    x)) (take n xs) → length xs ≤ n → r ≡ written_specs t l
var_specs_written t = list_written var_spec_of (written_spec t) (written_specs t) specs_from (each_spec t var_spec_of)
