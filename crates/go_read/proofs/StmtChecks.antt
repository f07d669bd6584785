-- Statements, read by evaluation: all of the text is spelled as the tree, or nothing is.
use Rattle.std.proofs.Common.{◌≡◌, true, false, [], ◌∷◌, Some, None, refl}
use Rattle.std.specs.Prelude.{codes}
use Rattle.go_tree.specs.declared.exprs.Rest.TheVariants.{Plain}
use Rattle.go_tree.specs.declared.operators.BinOp.TheVariants.{Add, Eq, Gt, Lt}
use Rattle.go_tree.specs.Tree.{composite, index, call, func_lit, binary, no_exprs, no_expr, some_expr, no_elems, elem, plain, no_value, const_decl, var_decl, empty, eval, step, assign, define, return_, break_, continue_, if_, for_, range_, switch, defer, label, no_stmts, no_stmt, some_stmt, no_block, some_block, nothing, assigns, defines, no_arms, arm, no_cases, case, no_specs, spec}
use Rattle.go_read.specs.Goals.{read_block}
use Rattle.go_read.proofs.Texts.{reading, var, num, name, type, list, block}

if_literal_in_parens : reading read_block (codes "{ if q == ( P { 1 } ) { } }") ≡ Some (tt, (block (if_ tt (arm tt no_stmt (binary tt Eq (var (codes "q")) (composite tt (type (codes "P")) (elem tt no_value (plain (num (codes "1"))) no_elems))) tt no_stmts no_arms) no_block ∷ [])))
unfolding reading
if_literal_in_parens = refl

if_literal : reading read_block (codes "{ if q == P { 1 } { } }") ≡ None
unfolding reading
if_literal = refl

if_chain : reading read_block (codes "{ if x := f ( ) ; x > 0 { } else if y { } else { } }") ≡ Some (tt, (block (if_ tt (arm tt (some_stmt (define tt ((name (codes "x")) ∷ []) (list ((call tt (var (codes "f")) no_exprs Plain) ∷ [])))) (binary tt Gt (var (codes "x")) (num (codes "0"))) tt no_stmts (arm tt no_stmt (var (codes "y")) tt no_stmts no_arms)) (some_block tt no_stmts) ∷ [])))
unfolding reading
if_chain = refl

label_of_loop : reading read_block (codes "{ L : for { } }") ≡ Some (tt, (block (label tt (name (codes "L")) (for_ tt no_stmt no_expr no_stmt tt no_stmts) ∷ [])))
unfolding reading
label_of_loop = refl

label_of_nothing : reading read_block (codes "{ L : }") ≡ Some (tt, (block (label tt (name (codes "L")) (empty tt) ∷ [])))
unfolding reading
label_of_nothing = refl

switch_first : reading read_block (codes "{ switch x := f ( ) ; x { } }") ≡ Some (tt, (block (switch tt (some_stmt (define tt ((name (codes "x")) ∷ []) (list ((call tt (var (codes "f")) no_exprs Plain) ∷ [])))) (some_expr (var (codes "x"))) no_cases ∷ [])))
unfolding reading
switch_first = refl

switch_cases : reading read_block (codes "{ switch x { case 1 , 2 : f ( ) ; default : } }") ≡ Some (tt, (block (switch tt no_stmt (some_expr (var (codes "x"))) (case tt (list ((num (codes "1")) ∷ (num (codes "2")) ∷ [])) (block (eval tt (call tt (var (codes "f")) no_exprs Plain) ∷ [])) (case tt no_exprs no_stmts no_cases)) ∷ [])))
unfolding reading
switch_cases = refl

switch_untagged : reading read_block (codes "{ switch { case a : b ( ) } }") ≡ Some (tt, (block (switch tt no_stmt no_expr (case tt (list ((var (codes "a")) ∷ [])) (block (eval tt (call tt (var (codes "b")) no_exprs Plain) ∷ [])) no_cases) ∷ [])))
unfolding reading
switch_untagged = refl

case_needs_semicolon : reading read_block (codes "{ switch { case a : b ( ) case c : } }") ≡ None
unfolding reading
case_needs_semicolon = refl

range_define : reading read_block (codes "{ for i := range n { } }") ≡ Some (tt, (block (range_ tt (defines ((name (codes "i")) ∷ [])) (var (codes "n")) tt no_stmts ∷ [])))
unfolding reading
range_define = refl

range_alone : reading read_block (codes "{ for range n { } }") ≡ Some (tt, (block (range_ tt nothing (var (codes "n")) tt no_stmts ∷ [])))
unfolding reading
range_alone = refl

range_assign : reading read_block (codes "{ for a [ 0 ] , j = range m { } }") ≡ Some (tt, (block (range_ tt (assigns (list ((index tt (var (codes "a")) (num (codes "0"))) ∷ (var (codes "j")) ∷ []))) (var (codes "m")) tt no_stmts ∷ [])))
unfolding reading
range_assign = refl

for_clauses : reading read_block (codes "{ for i := 0 ; i < 9 ; i ++ { } }") ≡ Some (tt, (block (for_ tt (some_stmt (define tt ((name (codes "i")) ∷ []) (list ((num (codes "0")) ∷ [])))) (some_expr (binary tt Lt (var (codes "i")) (num (codes "9")))) (some_stmt (step tt (var (codes "i")) true)) tt no_stmts ∷ [])))
unfolding reading
for_clauses = refl

for_no_clauses : reading read_block (codes "{ for ; ; { } }") ≡ Some (tt, (block (for_ tt no_stmt no_expr no_stmt tt no_stmts ∷ [])))
unfolding reading
for_no_clauses = refl

for_test : reading read_block (codes "{ for ok { } }") ≡ Some (tt, (block (for_ tt no_stmt (some_expr (var (codes "ok"))) no_stmt tt no_stmts ∷ [])))
unfolding reading
for_test = refl

var_group : reading read_block (codes "{ var ( a int ; b = 1 ) }") ≡ Some (tt, (block (var_decl tt true (spec tt ((name (codes "a")) ∷ []) (Some (type (codes "int"))) no_exprs (spec tt ((name (codes "b")) ∷ []) None (list ((num (codes "1")) ∷ [])) no_specs)) ∷ [])))
unfolding reading
var_group = refl

var_group_semicolon : reading read_block (codes "{ var ( a int ; b = 1 ; ) ; }") ≡ Some (tt, (block (var_decl tt true (spec tt ((name (codes "a")) ∷ []) (Some (type (codes "int"))) no_exprs (spec tt ((name (codes "b")) ∷ []) None (list ((num (codes "1")) ∷ [])) no_specs)) ∷ [])))
unfolding reading
var_group_semicolon = refl

const_group : reading read_block (codes "{ const ( a = iota ; b ) }") ≡ Some (tt, (block (const_decl tt true (spec tt ((name (codes "a")) ∷ []) None (list ((var (codes "iota")) ∷ [])) (spec tt ((name (codes "b")) ∷ []) None no_exprs no_specs)) ∷ [])))
unfolding reading
const_group = refl

var_needs_type : reading read_block (codes "{ var a }") ≡ None
unfolding reading
var_needs_type = refl

steps : reading read_block (codes "{ x ++ ; y -- }") ≡ Some (tt, (block (step tt (var (codes "x")) true ∷ step tt (var (codes "y")) false ∷ [])))
unfolding reading
steps = refl

swap_define : reading read_block (codes "{ a , b := b , a }") ≡ Some (tt, (block (define tt ((name (codes "a")) ∷ (name (codes "b")) ∷ []) (list ((var (codes "b")) ∷ (var (codes "a")) ∷ [])) ∷ [])))
unfolding reading
swap_define = refl

swap_assign : reading read_block (codes "{ a , b = b , a ; }") ≡ Some (tt, (block (assign tt (list ((var (codes "a")) ∷ (var (codes "b")) ∷ [])) None (list ((var (codes "b")) ∷ (var (codes "a")) ∷ [])) ∷ [])))
unfolding reading
swap_assign = refl

add_assign : reading read_block (codes "{ x += 1 }") ≡ Some (tt, (block (assign tt (list ((var (codes "x")) ∷ [])) (Some Add) (list ((num (codes "1")) ∷ [])) ∷ [])))
unfolding reading
add_assign = refl

define_in_parens : reading read_block (codes "{ ( x ) := 1 }") ≡ None
unfolding reading
define_in_parens = refl

empty_statement : reading read_block (codes "{ ; }") ≡ Some (tt, (block (empty tt ∷ [])))
unfolding reading
empty_statement = refl

no_statement : reading read_block (codes "{ }") ≡ Some (tt, no_stmts)
unfolding reading
no_statement = refl

defer_call : reading read_block (codes "{ defer ( f ) ( ) }") ≡ Some (tt, (block (defer tt (call tt (var (codes "f")) no_exprs Plain) ∷ [])))
unfolding reading
defer_call = refl

defer_in_parens : reading read_block (codes "{ defer ( f ( ) ) }") ≡ None
unfolding reading
defer_in_parens = refl

defer_literal : reading read_block (codes "{ defer func ( ) { } ( ) }") ≡ Some (tt, (block (defer tt (call tt (func_lit tt (record { params = []; results = [] }) tt no_stmts) no_exprs Plain) ∷ [])))
unfolding reading
defer_literal = refl

return_none : reading read_block (codes "{ return }") ≡ Some (tt, (block (return_ tt no_exprs ∷ [])))
unfolding reading
return_none = refl

return_two : reading read_block (codes "{ return 1 , x }") ≡ Some (tt, (block (return_ tt (list ((num (codes "1")) ∷ (var (codes "x")) ∷ [])) ∷ [])))
unfolding reading
return_two = refl

break_and_continue : reading read_block (codes "{ break L ; continue }") ≡ Some (tt, (block (break_ tt (Some (name (codes "L"))) ∷ continue_ tt None ∷ [])))
unfolding reading
break_and_continue = refl

missing_semicolon : reading read_block (codes "{ a ( ) b ( ) }") ≡ None
unfolding reading
missing_semicolon = refl

const_alone : reading read_block (codes "{ const a }") ≡ Some (tt, (block (const_decl tt false (spec tt ((name (codes "a")) ∷ []) None no_exprs no_specs) ∷ [])))
unfolding reading
const_alone = refl
