-- Expressions, read by evaluation: all of the text is spelled as the tree, or nothing is.
use Rattle.std.proofs.Common.{◌≡◌, true, false, [], ◌∷◌, Some, None, refl}
use Rattle.std.specs.Prelude.{codes}
use Rattle.go_tree.specs.declared.exprs.Rest.TheVariants.{Plain, Whole}
use Rattle.go_tree.specs.declared.operators.BinOp.TheVariants.{Add, Sub, Mul, LogOr, LogAnd, Eq}
use Rattle.go_tree.specs.declared.operators.UnOp.TheVariants.{Minus, Not, Address}
use Rattle.go_tree.specs.Tree.{named, slice_type, map_type, struct_type, no_fields, str_lit, composite, selector, index, slice, call, func_lit, type_operand, unary, binary, star, no_exprs, no_expr, some_expr, no_elems, elem, plain, braced, no_value, some_value, return_, no_stmts}
use Rattle.go_read.specs.Goals.{read_operand}
use Rattle.go_read.proofs.Texts.{reading, var, num, name, type, list, block}

minus_minus : reading (read_operand false) (codes "a - - b") ≡ Some (binary tt Sub (var (codes "a")) (unary tt Minus (var (codes "b"))))
unfolding reading
minus_minus = refl

product_first : reading (read_operand false) (codes "a + b * c") ≡ Some (binary tt Add (var (codes "a")) (binary tt Mul (var (codes "b")) (var (codes "c"))))
unfolding reading
product_first = refl

left_to_right : reading (read_operand false) (codes "a - b - c") ≡ Some (binary tt Sub (binary tt Sub (var (codes "a")) (var (codes "b"))) (var (codes "c")))
unfolding reading
left_to_right = refl

parens_first : reading (read_operand false) (codes "( a + b ) * c") ≡ Some (binary tt Mul (binary tt Add (var (codes "a")) (var (codes "b"))) (var (codes "c")))
unfolding reading
parens_first = refl

levels : reading (read_operand false) (codes "a && b || c == d") ≡ Some (binary tt LogOr (binary tt LogAnd (var (codes "a")) (var (codes "b"))) (binary tt Eq (var (codes "c")) (var (codes "d"))))
unfolding reading
levels = refl

not_first : reading (read_operand false) (codes "! a == b") ≡ Some (binary tt Eq (unary tt Not (var (codes "a"))) (var (codes "b")))
unfolding reading
not_first = refl

star_of_field : reading (read_operand false) (codes "* p . q") ≡ Some (star tt (selector tt (var (codes "p")) (name (codes "q"))))
unfolding reading
star_of_field = refl

convert_nil : reading (read_operand false) (codes "[ ] int ( nil )") ≡ Some (call tt (type_operand tt (slice_type tt (type (codes "int")))) (list ((var (codes "nil")) ∷ [])) Plain)
unfolding reading
convert_nil = refl

convert_pointer : reading (read_operand false) (codes "( * T ) ( x )") ≡ Some (call tt (star tt (var (codes "T"))) (list ((var (codes "x")) ∷ [])) Plain)
unfolding reading
convert_pointer = refl

make_slice : reading (read_operand false) (codes "make ( [ ] int , 3 )") ≡ Some (call tt (var (codes "make")) (list ((type_operand tt (slice_type tt (type (codes "int")))) ∷ (num (codes "3")) ∷ [])) Plain)
unfolding reading
make_slice = refl

bare_type : reading (read_operand false) (codes "[ ] int") ≡ None
unfolding reading
bare_type = refl

empty_struct : reading (read_operand false) (codes "struct { } { }") ≡ Some (composite tt (struct_type tt no_fields) no_elems)
unfolding reading
empty_struct = refl

called_literal : reading (read_operand false) (codes "func ( ) int { return 1 } ( )") ≡ Some (call tt (func_lit tt (record { params = []; results = record { span = tt; name = None; rest = false; of = (type (codes "int")) } ∷ [] }) tt (block (return_ tt (list ((num (codes "1")) ∷ [])) ∷ []))) no_exprs Plain)
unfolding reading
called_literal = refl

called_in_parens : reading (read_operand false) (codes "( func ( ) { } ) ( )") ≡ Some (call tt (func_lit tt (record { params = []; results = [] }) tt no_stmts) no_exprs Plain)
unfolding reading
called_in_parens = refl

uncalled_literal : reading (read_operand false) (codes "func ( ) { }") ≡ None
unfolding reading
uncalled_literal = refl

literal_as_argument : reading (read_operand false) (codes "f ( func ( ) { } )") ≡ None
unfolding reading
literal_as_argument = refl

trailing_comma : reading (read_operand false) (codes "a . b . c ( x , )") ≡ Some (call tt (selector tt (selector tt (var (codes "a")) (name (codes "b"))) (name (codes "c"))) (list ((var (codes "x")) ∷ [])) Plain)
unfolding reading
trailing_comma = refl

comma_alone : reading (read_operand false) (codes "f ( , )") ≡ None
unfolding reading
comma_alone = refl

slice_from : reading (read_operand false) (codes "s [ 1 : ]") ≡ Some (slice tt (var (codes "s")) (some_expr (num (codes "1"))) no_expr)
unfolding reading
slice_from = refl

slice_whole : reading (read_operand false) (codes "s [ : ]") ≡ Some (slice tt (var (codes "s")) no_expr no_expr)
unfolding reading
slice_whole = refl

slice_both : reading (read_operand false) (codes "s [ 1 : 2 ]") ≡ Some (slice tt (var (codes "s")) (some_expr (num (codes "1"))) (some_expr (num (codes "2"))))
unfolding reading
slice_both = refl

indexed_call : reading (read_operand false) (codes "f ( x ) [ 0 ]") ≡ Some (index tt (call tt (var (codes "f")) (list ((var (codes "x")) ∷ [])) Plain) (num (codes "0")))
unfolding reading
indexed_call = refl

map_literal : reading (read_operand false) (codes "map [ string ] int { \"a\" : 1 , }") ≡ Some (composite tt (map_type tt (type (codes "string")) (type (codes "int"))) (elem tt (some_value (plain (str_lit tt (codes "\"a\"")))) (plain (num (codes "1"))) no_elems))
unfolding reading
map_literal = refl

braced_elements : reading (read_operand false) (codes "[ ] T { { 1 } , { a : 2 } }") ≡ Some (composite tt (slice_type tt (type (codes "T"))) (elem tt no_value (braced tt (elem tt no_value (plain (num (codes "1"))) no_elems)) (elem tt no_value (braced tt (elem tt (some_value (plain (var (codes "a")))) (plain (num (codes "2"))) no_elems)) no_elems)))
unfolding reading
braced_elements = refl

address_of_literal : reading (read_operand false) (codes "& T { }") ≡ Some (unary tt Address (composite tt (type (codes "T")) no_elems))
unfolding reading
address_of_literal = refl

qualified_literal : reading (read_operand false) (codes "lib . P { x : 1 }") ≡ Some (composite tt (named tt (Some (name (codes "lib"))) (name (codes "P"))) (elem tt (some_value (plain (var (codes "x")))) (plain (num (codes "1"))) no_elems))
unfolding reading
qualified_literal = refl

parens_before_braces : reading (read_operand false) (codes "( T ) { }") ≡ None
unfolding reading
parens_before_braces = refl

two_operands : reading (read_operand false) (codes "a b") ≡ None
unfolding reading
two_operands = refl

type_parens : reading (read_operand false) (codes "[ ] ( int ) ( x )") ≡ Some (call tt (type_operand tt (slice_type tt (type (codes "int")))) (list ((var (codes "x")) ∷ [])) Plain)
unfolding reading
type_parens = refl

literal_parens : reading (read_operand true) (codes "( P { 1 } )") ≡ Some (composite tt (type (codes "P")) (elem tt no_value (plain (num (codes "1"))) no_elems))
unfolding reading
literal_parens = refl

literal_in_header : reading (read_operand true) (codes "P { 1 }") ≡ None
unfolding reading
literal_in_header = refl

-- ---- calls with a slice for the last parameter (Passing arguments to ... parameters)

spread : reading (read_operand false) (codes "f ( s ... )") ≡ Some (call tt (var (codes "f")) (list ((var (codes "s")) ∷ [])) Whole)
unfolding reading
spread = refl

spread_comma : reading (read_operand false) (codes "f ( s ... , )") ≡ Some (call tt (var (codes "f")) (list ((var (codes "s")) ∷ [])) Whole)
unfolding reading
spread_comma = refl

appended : reading (read_operand false) (codes "append ( s , t ... )") ≡ Some (call tt (var (codes "append")) (list ((var (codes "s")) ∷ (var (codes "t")) ∷ [])) Whole)
unfolding reading
appended = refl

spread_number : reading (read_operand false) (codes "f ( 1 ... )") ≡ Some (call tt (var (codes "f")) (list ((num (codes "1")) ∷ [])) Whole)
unfolding reading
spread_number = refl

spread_alone : reading (read_operand false) (codes "f ( ... )") ≡ None
unfolding reading
spread_alone = refl

spread_in_front : reading (read_operand false) (codes "f ( a ... , b )") ≡ None
unfolding reading
spread_in_front = refl

spread_twice : reading (read_operand false) (codes "f ( a ... ... )") ≡ None
unfolding reading
spread_twice = refl

spread_after_comma : reading (read_operand false) (codes "f ( a , ... )") ≡ None
unfolding reading
spread_after_comma = refl

spread_type : reading (read_operand false) (codes "f ( [ ] int ... )") ≡ None
unfolding reading
spread_type = refl

variadic_literal : reading (read_operand false) (codes "func ( xs ... int ) { } ( )") ≡ None
unfolding reading
variadic_literal = refl
