use Rattle.std.proofs.Common.{◌≡◌, ◌+◌, ◌*◌, ◌<◌, ◌≤◌, length, map}
use Rattle.go_tree.specs.View.{elem_of, expr_of}
use Rattle.go_productions.specs.Cursors.{ahead}
use Rattle.go_read.specs.SpellsSpans.{span_to}
use Rattle.go_read.specs.Goals.{read_args, read_elems, read_expr, read_more, read_postfix, read_unary}
use Rattle.go_read.specs.Reading.{at}
use Rattle.go_productions.specs.Parts.{in_front}
use Rattle.go_expressions.specs.ExprParts.{arg_and, elem_and}
use Rattle.go_expressions.proofs.+expressions.Given as goal

abbrev pub decreases-exprs::expression : goal.decreases-exprs::expression
decreases-exprs::expression g l = 32 * length (ahead l.place.at) + 8

abbrev pub decreases-exprs::call_args : goal.decreases-exprs::call_args
decreases-exprs::call_args g l = 32 * length (ahead l.place.at) + 9

abbrev pub decreases-exprs::binary_expr : goal.decreases-exprs::binary_expr
decreases-exprs::binary_expr g l = 32 * length (ahead l.place.at) + 7

abbrev pub decreases-exprs::unary_expr : goal.decreases-exprs::unary_expr
decreases-exprs::unary_expr g l = 32 * length (ahead l.place.at) + 6

abbrev pub decreases-exprs::primary_expr : goal.decreases-exprs::primary_expr
decreases-exprs::primary_expr g l = 32 * length (ahead l.place.at) + 5

abbrev pub decreases-postfixes::postfix : goal.decreases-postfixes::postfix
decreases-postfixes::postfix g l = 32 * length (ahead l.place.at) + 0

abbrev pub decreases-postfixes::brackets : goal.decreases-postfixes::brackets
decreases-postfixes::brackets g l = 32 * length (ahead l.place.at) + 9

abbrev pub decreases-postfixes::bounds : goal.decreases-postfixes::bounds
decreases-postfixes::bounds g l = 32 * length (ahead l.place.at) + 9

abbrev pub decreases-operands::operand : goal.decreases-operands::operand
decreases-operands::operand g l = 32 * length (ahead l.place.at) + 4

abbrev pub decreases-operands::in_parens : goal.decreases-operands::in_parens
decreases-operands::in_parens g l = 32 * length (ahead l.place.at) + 3

abbrev pub decreases-operands::typed : goal.decreases-operands::typed
decreases-operands::typed g l = 32 * length (ahead l.place.at) + 3

abbrev pub decreases-operands::composite : goal.decreases-operands::composite
decreases-operands::composite g l = 32 * length (ahead l.place.at) + 12

abbrev pub decreases-operands::elem_list : goal.decreases-operands::elem_list
decreases-operands::elem_list g l = 32 * length (ahead l.place.at) + 11

abbrev pub decreases-operands::elem : goal.decreases-operands::elem
decreases-operands::elem g l = 32 * length (ahead l.place.at) + 10

abbrev pub decreases-operands::value : goal.decreases-operands::value
decreases-operands::value g l = 32 * length (ahead l.place.at) + 9

abbrev pub invariant-exprs::call_args-loop-items : goal.invariant-exprs::call_args-loop-items
invariant-exprs::call_args-loop-items g l =
    (in_front arg_and (map expr_of l.items.items) (at span_to read_args (ahead l.left)) ≡ at span_to read_args (ahead l.fn.place.at)) × (length (ahead l.left) ≤ length (ahead l.fn.place.at))

abbrev pub decreases-exprs::call_args-loop-items : goal.decreases-exprs::call_args-loop-items
decreases-exprs::call_args-loop-items g l = length (ahead l.left)

abbrev pub invariant-operands::elem_list-loop-items : goal.invariant-operands::elem_list-loop-items
invariant-operands::elem_list-loop-items g l =
    (in_front elem_and (map elem_of l.items.items) (at span_to read_elems (ahead l.left)) ≡ at span_to read_elems (ahead l.fn.place.at)) × (length (ahead l.left) ≤ length (ahead l.fn.place.at))

abbrev pub decreases-operands::elem_list-loop-items : goal.decreases-operands::elem_list-loop-items
decreases-operands::elem_list-loop-items g l = length (ahead l.left)

abbrev pub invariant-exprs::binary_expr-loop-op : goal.invariant-exprs::binary_expr-loop-op
invariant-exprs::binary_expr-loop-op g l =
    (at span_to (read_more l.level l.place.header (ahead l.place.at) (expr_of l.e) l.bare) (ahead l.left) ≡ at span_to (read_expr l.fn.level l.fn.place.header) (ahead l.fn.place.at)) × (length (ahead l.left) < length (ahead l.fn.place.at))

abbrev pub decreases-exprs::binary_expr-loop-op : goal.decreases-exprs::binary_expr-loop-op
decreases-exprs::binary_expr-loop-op g l = length (ahead l.left)

abbrev pub invariant-exprs::primary_expr-loop-e : goal.invariant-exprs::primary_expr-loop-e
invariant-exprs::primary_expr-loop-e g l =
    (at span_to (read_postfix l.place.header (ahead l.place.at) (expr_of l.e) l.bare) (ahead l.left) ≡ at span_to (read_unary l.fn.place.header) (ahead l.fn.place.at)) × (length (ahead l.left) < length (ahead l.fn.place.at))

abbrev pub decreases-exprs::primary_expr-loop-e : goal.decreases-exprs::primary_expr-loop-e
decreases-exprs::primary_expr-loop-e g l = length (ahead l.left)
