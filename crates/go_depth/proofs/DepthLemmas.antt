-- Depths, capped at what 32 bits have.
use Rattle.std.proofs.Common.{◌≡◌, ◌<◌, ◌≤◌, ◌+◌, ℕ, suc, zero, List, [], ◌∷◌, length, take, get_or, map, max, min, refl, sym, ap, ◌∙◌, arith, add-one}
use Rattle.std.proofs.lemmas.List.{take_all}
use Rattle.go_tree.specs.declared.spans.Span.{Span}
use Rattle.go_tree.specs.declared.texts.NameAt.{NameAt}
use Rattle.go_tree.specs.declared.types.Param.{Param}
use Rattle.go_tree.specs.declared.types.FieldSpec.{FieldSpec}
use Rattle.go_tree.specs.declared.exprs.Expr.{Expr}
use Rattle.go_tree.specs.declared.stmts.Stmt.{Stmt}
use Rattle.go_tree.specs.declared.exprs.Elem.{Elem}
use Rattle.go_tree.specs.declared.stmts.Arm.{Arm}
use Rattle.go_tree.specs.declared.stmts.Case.{Case}
use Rattle.go_tree.specs.declared.stmts.ConstSpec.{ConstSpec}
use Rattle.go_tree.specs.declared.stmts.VarSpec.{VarSpec}
use Rattle.go_tree.specs.Tree as pure
use Rattle.go_tree.specs.View.{name_at_of, param_of, field_of, expr_of, stmt_of, elem_of, arm_of, case_of, const_spec_of, var_spec_of}
use Rattle.go_tree.specs.Lists.{fields_from, exprs_from, stmts_from, elems_from, arms_from, cases_from, specs_from}
use Rattle.go_depth.specs.Depth.{capped, greatest, depth_fields, depth_exprs, depth_stmts, depth_elems, depth_arms, depth_cases, depth_value_specs, depth_names, depth_param}
use Rattle.go_depth.specs.Deep.{param_deep, field_deep, expr_deep, stmt_deep, elem_deep, arm_deep, case_deep, const_spec_deep, var_spec_deep}

pub capped_max : (m n : ℕ) → max (capped m) (capped n) ≡ capped (max m n)
capped_max m n = omega arith

pub capped_above : (n : ℕ) → min (capped n + 1) 4294967295 ≡ capped (n + 1)
capped_above n = omega arith

pub greatest_more : {A : Type 0} (f : A → ℕ) (xs : List A) (i : ℕ) (d : A) → i < length xs → greatest f (take (i + 1) xs) ≡ max (greatest f (take i xs)) (f (get_or xs i d))
greatest_more f [] i d lt = absurd (omega arith)
greatest_more f (x ∷ xs) zero d lt = omega arith
greatest_more f (x ∷ xs) (suc i) d lt =
    let here = rw add-one at (greatest_more f xs i d (omega arith)) in rw add-one (omega (arith, here))

-- one more entry, by the deeper of two
pub walk_more : {A : Type 0} (f : A → ℕ) (xs : List A) (i was here r : ℕ) (x : A) → i < length xs → x ≡ get_or xs i x → was ≡ capped (greatest f (take i xs)) → here ≡ capped (f x) → ((m n : ℕ) → was ≡ capped m → here ≡ capped n → r ≡ capped (max m n)) → r ≡ capped (greatest f (take (i + 1) xs))
walk_more f xs i was here r x lt is so_far deep both =
    both (greatest f (take i xs)) (f x) so_far deep
    ∙ ap (λ y. capped (max (greatest f (take i xs)) (f y))) is
    ∙ sym (ap capped (greatest_more f xs i x lt))

-- the greatest of the entries is that of the list
list_walked : {A T : Type 0} (deep : A → ℕ) (depth : T → ℕ) (of : List A → T) → ((xs : List A) → depth (of xs) ≡ greatest deep xs) → (l : T) (xs : List A) (n r : ℕ) → l ≡ of xs → r ≡ capped (greatest deep (take n xs)) → length xs ≤ n → r ≡ capped (depth l)
list_walked deep depth of each l xs n r seen so_far whole =
    so_far ∙ ap (λ ys. capped (greatest deep ys)) (take_all n xs whole) ∙ sym (ap capped (ap depth seen ∙ each xs))

fields_deep : (xs : List FieldSpec) → depth_fields (fields_from (map field_of xs)) ≡ greatest field_deep xs
fields_deep [] = refl
fields_deep (x ∷ xs) = ap (max (field_deep x)) (fields_deep xs)

pub fields_walked : (l : pure.Fields Span) (xs : List FieldSpec) (n r : ℕ) → l ≡ fields_from (map field_of xs) → r ≡ capped (greatest field_deep (take n xs)) → length xs ≤ n → r ≡ capped (depth_fields l)
fields_walked = list_walked field_deep depth_fields (λ xs. fields_from (map field_of xs)) fields_deep

pub exprs_deep : (xs : List Expr) → depth_exprs (exprs_from (map expr_of xs)) ≡ greatest expr_deep xs
exprs_deep [] = refl
exprs_deep (x ∷ xs) = ap (max (expr_deep x)) (exprs_deep xs)

pub exprs_walked : (l : pure.Exprs Span) (xs : List Expr) (n r : ℕ) → l ≡ exprs_from (map expr_of xs) → r ≡ capped (greatest expr_deep (take n xs)) → length xs ≤ n → r ≡ capped (depth_exprs l)
exprs_walked = list_walked expr_deep depth_exprs (λ xs. exprs_from (map expr_of xs)) exprs_deep

pub stmts_deep : (xs : List Stmt) → depth_stmts (stmts_from (map stmt_of xs)) ≡ greatest stmt_deep xs
stmts_deep [] = refl
stmts_deep (x ∷ xs) = ap (max (stmt_deep x)) (stmts_deep xs)

pub stmts_walked : (l : pure.Stmts Span) (xs : List Stmt) (n r : ℕ) → l ≡ stmts_from (map stmt_of xs) → r ≡ capped (greatest stmt_deep (take n xs)) → length xs ≤ n → r ≡ capped (depth_stmts l)
stmts_walked = list_walked stmt_deep depth_stmts (λ xs. stmts_from (map stmt_of xs)) stmts_deep

pub elems_deep : (xs : List Elem) → depth_elems (elems_from (map elem_of xs)) ≡ greatest elem_deep xs
elems_deep [] = refl
elems_deep (x ∷ xs) = ap (max (elem_deep x)) (elems_deep xs)

pub elems_walked : (l : pure.Elems Span) (xs : List Elem) (n r : ℕ) → l ≡ elems_from (map elem_of xs) → r ≡ capped (greatest elem_deep (take n xs)) → length xs ≤ n → r ≡ capped (depth_elems l)
elems_walked = list_walked elem_deep depth_elems (λ xs. elems_from (map elem_of xs)) elems_deep

pub arms_deep : (xs : List Arm) → depth_arms (arms_from (map arm_of xs)) ≡ greatest arm_deep xs
arms_deep [] = refl
arms_deep (x ∷ xs) = ap (max (arm_deep x)) (arms_deep xs)

pub arms_walked : (l : pure.Arms Span) (xs : List Arm) (n r : ℕ) → l ≡ arms_from (map arm_of xs) → r ≡ capped (greatest arm_deep (take n xs)) → length xs ≤ n → r ≡ capped (depth_arms l)
arms_walked = list_walked arm_deep depth_arms (λ xs. arms_from (map arm_of xs)) arms_deep

pub cases_deep : (xs : List Case) → depth_cases (cases_from (map case_of xs)) ≡ greatest case_deep xs
cases_deep [] = refl
cases_deep (x ∷ xs) = ap (max (case_deep x)) (cases_deep xs)

pub cases_walked : (l : pure.Cases Span) (xs : List Case) (n r : ℕ) → l ≡ cases_from (map case_of xs) → r ≡ capped (greatest case_deep (take n xs)) → length xs ≤ n → r ≡ capped (depth_cases l)
cases_walked = list_walked case_deep depth_cases (λ xs. cases_from (map case_of xs)) cases_deep

pub const_specs_deep : (xs : List ConstSpec) → depth_value_specs (specs_from (map const_spec_of xs)) ≡ greatest const_spec_deep xs
const_specs_deep [] = refl
const_specs_deep (x ∷ xs) = ap (max (const_spec_deep x)) (const_specs_deep xs)

pub const_specs_walked : (l : pure.ValueSpecs Span) (xs : List ConstSpec) (n r : ℕ) → l ≡ specs_from (map const_spec_of xs) → r ≡ capped (greatest const_spec_deep (take n xs)) → length xs ≤ n → r ≡ capped (depth_value_specs l)
const_specs_walked = list_walked const_spec_deep depth_value_specs (λ xs. specs_from (map const_spec_of xs)) const_specs_deep

pub var_specs_deep : (xs : List VarSpec) → depth_value_specs (specs_from (map var_spec_of xs)) ≡ greatest var_spec_deep xs
var_specs_deep [] = refl
var_specs_deep (x ∷ xs) = ap (max (var_spec_deep x)) (var_specs_deep xs)

pub var_specs_walked : (l : pure.ValueSpecs Span) (xs : List VarSpec) (n r : ℕ) → l ≡ specs_from (map var_spec_of xs) → r ≡ capped (greatest var_spec_deep (take n xs)) → length xs ≤ n → r ≡ capped (depth_value_specs l)
var_specs_walked = list_walked var_spec_deep depth_value_specs (λ xs. specs_from (map var_spec_of xs)) var_specs_deep

params_deep : (xs : List Param) → greatest depth_param (map param_of xs) ≡ greatest param_deep xs
params_deep [] = refl
params_deep (x ∷ xs) = ap (max (param_deep x)) (params_deep xs)

pub params_walked : (l xs : List Param) (n r : ℕ) → xs ≡ l → r ≡ capped (greatest param_deep (take n xs)) → length xs ≤ n → r ≡ capped (greatest depth_param (map param_of l))
params_walked l xs n r shown = list_walked param_deep (λ ps. greatest depth_param (map param_of ps)) (λ ps. ps) params_deep l xs n r (sym shown)

names_at : (xs : List NameAt) → 0 < length xs → depth_names (map name_at_of xs) ≡ 1
names_at [] h = absurd (omega arith)
names_at (x ∷ []) h = omega arith
names_at (x ∷ y ∷ xs) h = let rest = names_at (y ∷ xs) (omega arith) in omega (arith, rest)

pub names_some : (l xs : List NameAt) → xs ≡ l → 0 < length xs → 1 ≡ capped (depth_names (map name_at_of l))
names_some l xs e h = sym (ap (λ ys. capped (depth_names (map name_at_of ys))) (sym e) ∙ ap capped (names_at xs h))

pub names_none : (l xs : List NameAt) → xs ≡ l → length xs ≡ 0 → 0 ≡ capped (depth_names (map name_at_of l))
names_none l [] e h = ap (λ ys. capped (depth_names (map name_at_of ys))) e
names_none l (x ∷ xs) e h = absurd (omega arith)
