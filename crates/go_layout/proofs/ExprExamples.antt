-- Texts of types and expressions, by computation.
use Rattle.std.proofs.Common.{◌≡◌, ℕ, Bool, true, false, List, [], ◌∷◌, Some, None, refl}
use Rattle.std.specs.Prelude.{codes}
use Rattle.go_tree.specs.declared.exprs.Rest.{Rest}
use Rattle.go_tree.specs.declared.exprs.Rest.TheVariants.{Plain, Whole, Packed, Empty}
use Rattle.go_tree.specs.declared.operators.BinOp.TheVariants.{Mul, Add, Sub, Eq, LogAnd, LogOr}
use Rattle.go_tree.specs.declared.operators.UnOp.TheVariants.{Plus, Minus, Not, Flip, Address}
use Rattle.go_tree.specs.Tree.{Expr, Elems, Value, TypeExpr, named, pointer, slice_type, map_type, struct_type, no_fields, field, rune_lit, str_lit, composite, selector, index, slice, call, func_lit, type_operand, unary, binary, star, no_exprs, no_expr, some_expr, no_elems, elem, plain, braced, no_value, some_value, return_, no_stmts}
use Rattle.go_read.proofs.Texts.{var, num, name, type, list, block}
use Rattle.go_layout.specs.Layouts.{text_of}
use Rattle.go_layout.specs.TypeLayout.{type_layout, params_layout}
use Rattle.go_layout.specs.TreeLayout.{operand_layout}

abbrev E : Type 0
E = Expr (Unit {0})

abbrev written : ℕ → Bool → E → List ℕ
written level header e = text_of (operand_layout [] level header false e)

abbrev a : E
a = var (codes "a")

abbrev b : E
b = var (codes "b")

abbrev c : E
c = var (codes "c")

abbrev p_with : List (Value (Unit {0})) → Elems (Unit {0})
p_with [] = no_elems
p_with (v ∷ vs) = elem tt no_value v (p_with vs)

abbrev point : E
point = composite tt (type (codes "P")) (p_with (plain (num (codes "1")) ∷ []))

abbrev ints : TypeExpr (Unit {0})
ints = slice_type tt (type (codes "int"))

-- ---- the rows of the printer

left_below : written 0 false (binary tt Mul (binary tt Add a b) c) ≡ codes "(a + b) * c"
left_below = refl

literal_in_header : written 0 true (binary tt Eq (var (codes "q")) point) ≡ codes "q == (P{1})"
literal_in_header = refl

literal_outside : written 0 false (binary tt Eq (var (codes "q")) point) ≡ codes "q == P{1}"
literal_outside = refl

-- ---- parentheses

right_equal : written 0 false (binary tt Sub a (binary tt Sub b c)) ≡ codes "a - (b - c)"
right_equal = refl

left_equal : written 0 false (binary tt Sub (binary tt Sub a b) c) ≡ codes "a - b - c"
left_equal = refl

right_above : written 0 false (binary tt LogOr a (binary tt LogAnd b c)) ≡ codes "a || b && c"
right_above = refl

at_level : written 5 false (binary tt Add a b) ≡ codes "(a + b)"
at_level = refl

at_its_level : written 4 false (binary tt Add a b) ≡ codes "a + b"
at_its_level = refl

unary_at_seven : written 7 false (unary tt Not a) ≡ codes "(!a)"
unary_at_seven = refl

apart : written 0 false (binary tt Sub a (unary tt Minus b)) ≡ codes "a - -b"
apart = refl

two_signs : written 0 false (unary tt Minus (unary tt Minus a)) ≡ codes "-(-a)"
two_signs = refl

other_signs : written 0 false (unary tt Plus (unary tt Minus a)) ≡ codes "+-a"
other_signs = refl

address_of_flip : written 0 false (unary tt Address (unary tt Flip a)) ≡ codes "&(^a)"
address_of_flip = refl

unary_of_binary : written 0 false (unary tt Not (binary tt Eq a b)) ≡ codes "!(a == b)"
unary_of_binary = refl

star_selected : written 0 false (selector tt (star tt a) (name (codes "f"))) ≡ codes "(*a).f"
star_selected = refl

star_of_selected : written 0 false (star tt (selector tt a (name (codes "f")))) ≡ codes "*a.f"
star_of_selected = refl

star_converts : written 0 false (call tt (star tt (var (codes "T"))) (list (a ∷ [])) Plain) ≡ codes "(*T)(a)"
star_converts = refl

pointer_converts : written 0 false (call tt (type_operand tt (pointer tt (type (codes "T")))) (list (a ∷ [])) Plain) ≡ codes "(*T)(a)"
pointer_converts = refl

integer_selected : written 0 false (selector tt (num (codes "1")) (name (codes "f"))) ≡ codes "(1).f"
integer_selected = refl

type_converts : written 0 false (call tt (type_operand tt ints) (list (a ∷ [])) Plain) ≡ codes "[]int(a)"
type_converts = refl

type_argument : written 0 false (call tt (var (codes "make")) (list (type_operand tt ints ∷ num (codes "3") ∷ [])) Plain) ≡ codes "make([]int, 3)"
type_argument = refl

type_last_argument : written 0 false (call tt (var (codes "new")) (list (type_operand tt ints ∷ [])) Plain) ≡ codes "new([]int)"
type_last_argument = refl

type_alone : written 0 false (type_operand tt ints) ≡ codes "([]int)"
type_alone = refl

type_compared : written 0 false (binary tt Eq (type_operand tt ints) a) ≡ codes "([]int) == a"
type_compared = refl

literal_called_in_header : written 0 true (call tt (selector tt point (name (codes "f"))) (list (point ∷ [])) Plain) ≡ codes "(P{1}).f(P{1})"
literal_called_in_header = refl

slice_literal_in_header : written 0 true (composite tt ints (p_with (plain a ∷ []))) ≡ codes "[]int{a}"
slice_literal_in_header = refl

-- ---- spaces

slices : written 0 false (slice tt a (some_expr b) no_expr) ≡ codes "a[b:]"
slices = refl

indexed : written 0 false (index tt (index tt a (binary tt Add b c)) (num (codes "0x1F"))) ≡ codes "a[b + c][0x1F]"
indexed = refl

keys : written 0 false (composite tt (map_type tt (type (codes "string")) (type (codes "int"))) (elem tt (some_value (plain (str_lit tt (codes "\"a\"")))) (plain (num (codes "1"))) (elem tt (some_value (plain b)) (plain c) no_elems))) ≡ codes "map[string]int{\"a\": 1, b: c}"
keys = refl

rows : written 0 false (composite tt (slice_type tt (named tt (Some (name (codes "lib"))) (name (codes "Row")))) (p_with (braced tt (p_with (plain (str_lit tt (codes "\"a\"")) ∷ [])) ∷ braced tt no_elems ∷ []))) ≡ codes "[]lib.Row{{\"a\"}, {}}"
rows = refl

struct_text : text_of (type_layout (struct_type tt (field tt (name (codes "a")) (type (codes "int")) (field tt (name (codes "b")) (pointer tt (type (codes "T"))) no_fields)))) ≡ codes "struct{a int; b *T}"
struct_text = refl

empty_struct : text_of (type_layout (map_type tt (type (codes "K")) (struct_type tt no_fields))) ≡ codes "map[K]struct{}"
empty_struct = refl

-- ---- literals of functions

called_literal : written 0 false (call tt (func_lit tt (record { params = record { span = tt; name = Some (name (codes "x")); rest = false; of = type (codes "int") } ∷ record { span = tt; name = Some (name (codes "y")); rest = false; of = type (codes "int") } ∷ []; results = record { span = tt; name = None; rest = false; of = type (codes "int") } ∷ [] }) tt (block (return_ tt (list (a ∷ b ∷ [])) ∷ []))) (list (num (codes "1") ∷ rune_lit tt (codes "'a'") ∷ [])) Plain) ≡ codes "func(x int, y int) int {\n\treturn a, b\n}(1, 'a')"
called_literal = refl

named_result : written 0 false (call tt (func_lit tt (record { params = []; results = record { span = tt; name = Some (name (codes "err")); rest = false; of = type (codes "error") } ∷ [] }) tt no_stmts) no_exprs Plain) ≡ codes "func() (err error) {}()"
named_result = refl

two_results : written 0 false (call tt (func_lit tt (record { params = []; results = record { span = tt; name = None; rest = false; of = type (codes "int") } ∷ record { span = tt; name = None; rest = false; of = ints } ∷ [] }) tt no_stmts) no_exprs Plain) ≡ codes "func() (int, []int) {}()"
two_results = refl

-- ---- variadic calls and parameters

abbrev f_of : List E → Rest → E
f_of es rest = call tt (var (codes "f")) (list es) rest

spread : written 0 false (f_of (a ∷ b ∷ []) Whole) ≡ codes "f(a, b...)"
spread = refl

spread_number : written 0 false (f_of (num (codes "1") ∷ []) Whole) ≡ codes "f(1 ...)"
spread_number = refl

spread_sum : written 0 false (f_of (binary tt Add a (num (codes "1")) ∷ []) Whole) ≡ codes "f(a + 1 ...)"
spread_sum = refl

spread_negative : written 0 false (f_of (unary tt Minus (num (codes "1")) ∷ []) Whole) ≡ codes "f(-1 ...)"
spread_negative = refl

spread_in_parens : written 0 false (f_of (binary tt Mul a (binary tt Add b (num (codes "1"))) ∷ []) Whole) ≡ codes "f(a * (b + 1)...)"
spread_in_parens = refl

spread_text : written 0 false (f_of (str_lit tt (codes "\"s\"") ∷ []) Whole) ≡ codes "f(\"s\"...)"
spread_text = refl

spread_type : written 0 false (f_of (type_operand tt ints ∷ []) Whole) ≡ codes "f(([]int)...)"
spread_type = refl

packed_as_plain : written 0 false (f_of (a ∷ num (codes "1") ∷ []) Packed) ≡ codes "f(a, 1)"
packed_as_plain = refl

empty_as_plain : written 0 false (f_of [] Empty) ≡ codes "f()"
empty_as_plain = refl

variadic_params : text_of (params_layout (record { span = tt; name = Some (name (codes "a")); rest = false; of = type (codes "int") } ∷ record { span = tt; name = Some (name (codes "xs")); rest = true; of = type (codes "int") } ∷ [])) ≡ codes "(a int, xs ...int)"
variadic_params = refl

variadic_type : text_of (params_layout (record { span = tt; name = None; rest = true; of = type (codes "string") } ∷ [])) ≡ codes "(...string)"
variadic_type = refl
