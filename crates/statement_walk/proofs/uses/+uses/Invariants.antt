use Rattle.std.proofs.Common.{◌+◌, drop, map}
use Rattle.go_tree.specs.Lists.{elems_from, exprs_from}
use Rattle.go_tree.specs.View.{boxed_expr_option_of, elem_of, elems_of, expr_of, exprs_of, held_value_option_of, value_of}
use Rattle.statement_walk.specs.FunctionLiterals.Uses.{outer_all, outer_elems}
use Rattle.type_table.specs.TypeRelations.Environment.{defined_types}
use Rattle.operator_rules.specs.Settling.{typed_option}
use Rattle.expr_walk.specs.Walked.{size, size_all, size_elems, size_key, size_option, size_value}
use Rattle.jump_rules.specs.UsedLocals.Used.{and_names, used_of}
use Rattle.expr_walk.proofs.WalkArms.ExprArms.{at}
use Rattle.statement_walk.specs.Uses.{UsesLeft, under_option}
use Rattle.statement_walk.proofs.uses.+uses.Given as goal

abbrev pub decreases-use_expr : goal.decreases-use_expr
decreases-use_expr l = size (expr_of l.e.now)

abbrev pub decreases-use_bound : goal.decreases-use_bound
decreases-use_bound l = size_option (boxed_expr_option_of l.e.now)

abbrev pub decreases-use_exprs : goal.decreases-use_exprs
decreases-use_exprs l = size_all (exprs_of l.es.now)

abbrev pub decreases-use_literal : goal.decreases-use_literal
decreases-use_literal l = 1 + size_elems (elems_of l.elems.now)

abbrev pub decreases-use_elements : goal.decreases-use_elements
decreases-use_elements l = size_elems (elems_of l.elems.now)

abbrev pub decreases-use_element : goal.decreases-use_element
decreases-use_element l = 2 + (size_key (held_value_option_of l.x.now.key) + size_value (value_of l.x.now.value))

abbrev pub decreases-use_key : goal.decreases-use_key
decreases-use_key l = size_key (held_value_option_of l.key.now)

abbrev pub decreases-use_value : goal.decreases-use_value
decreases-use_value l = size_value (value_of l.x.now)

abbrev pub invariant-use_exprs-loop-e : goal.invariant-use_exprs-loop-e
invariant-use_exprs-loop-e l =
    UsesLeft l.initial.tables l.tables l.blocks l.scope
    (outer_all (at l.initial.tables l.blocks l.scope) (exprs_from (map expr_of (drop l.e-index l.e-items)))) (used_of l.used)
    (and_names (outer_all (at l.initial.tables l.blocks l.scope) (exprs_from (map expr_of l.e-items))) (used_of l.initial.used))

abbrev pub invariant-use_elements-loop-x : goal.invariant-use_elements-loop-x
invariant-use_elements-loop-x l =
    let k = l.initial.tables in
    let a = at k l.blocks l.scope in
    let u = under_option (defined_types k.env) (typed_option k.env l.t) in
    UsesLeft k l.tables l.blocks l.scope (outer_elems a u (elems_from (map elem_of (drop l.x-index l.x-items)))) (used_of l.used)
    (and_names (outer_elems a u (elems_from (map elem_of l.x-items))) (used_of l.initial.used))
