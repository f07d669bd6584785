use Rattle.std.proofs.Common.{◌+◌, ◌≡◌, drop}
use Rattle.go_tree.specs.View.{arms_of, boxed_stmt_option_of, cases_of, expr_of, exprs_of, held_block_option_of, plain_expr_option_of, range_left_of, stmt_of, stmts_of, var_specs_of}
use Rattle.jump_rules.specs.UsedLocals.Used.{used_of}
use Rattle.statement_walk.specs.FunctionLiterals.Found.{seen}
use Rattle.statement_walk.proofs.SpecsLemmas.{ReadTo as SpecsTo}
use Rattle.block_walk.specs.Literals.{LiteralsRead, size_found, size_literal}
use Rattle.block_walk.specs.Walked.{size_arms, size_block, size_cases, size_exprs, size_header, size_left, size_literals, size_option, size_specs, size_stmt, size_stmts}
use Rattle.block_walk.proofs.ArmLemmas.{ArmsTo, arm_size}
use Rattle.block_walk.proofs.BlockLemmas.{ReadTo}
use Rattle.block_walk.proofs.CaseLemmas.{CasesTo, case_size}
use Rattle.block_walk.proofs.+nested.Given as goal

abbrev pub decreases-blocks::statement : goal.decreases-blocks::statement
decreases-blocks::statement l = 2 + size_stmt (stmt_of l.s.now)

abbrev pub decreases-blocks::outer_statement : goal.decreases-blocks::outer_statement
decreases-blocks::outer_statement l = size_stmt (stmt_of l.s.now)

abbrev pub decreases-blocks::statements : goal.decreases-blocks::statements
decreases-blocks::statements l = size_stmts (stmts_of l.stmts.now)

abbrev pub decreases-blocks::block_statements : goal.decreases-blocks::block_statements
decreases-blocks::block_statements l = 1 + size_stmts (stmts_of l.stmts.now)

abbrev pub decreases-blocks::labelled : goal.decreases-blocks::labelled
decreases-blocks::labelled l = 3 + size_stmt (stmt_of l.s.now)

abbrev pub decreases-loops::loop_block : goal.decreases-loops::loop_block
decreases-loops::loop_block l = 2 + size_stmts (stmts_of l.stmts.now)

abbrev pub decreases-loops::for_statement : goal.decreases-loops::for_statement
decreases-loops::for_statement l =
    6
    + (size_header (boxed_stmt_option_of l.first.now)
    + (size_option (plain_expr_option_of l.test.now)
    + (size_header (boxed_stmt_option_of l.post.now) + size_stmts (stmts_of l.stmts.now))))

abbrev pub decreases-loops::range_statement : goal.decreases-loops::range_statement
decreases-loops::range_statement l =
    6 + (size_left (range_left_of l.left.now) + (size_literals (expr_of l.over.now) + size_stmts (stmts_of l.stmts.now)))

abbrev pub decreases-ifs::one_arm : goal.decreases-ifs::one_arm
decreases-ifs::one_arm l = 5 + arm_size l.arm.now

abbrev pub decreases-ifs::last_block : goal.decreases-ifs::last_block
decreases-ifs::last_block l = size_block (held_block_option_of l.last.now)

abbrev pub decreases-ifs::all_arms : goal.decreases-ifs::all_arms
decreases-ifs::all_arms l = 1 + (size_arms (arms_of l.arms.now) + size_block (held_block_option_of l.last.now))

abbrev pub decreases-ifs::if_statement : goal.decreases-ifs::if_statement
decreases-ifs::if_statement l = 2 + (size_arms (arms_of l.arms.now) + size_block (held_block_option_of l.last.now))

abbrev pub decreases-switch_walk::one_case : goal.decreases-switch_walk::one_case
decreases-switch_walk::one_case l = 3 + case_size l.case.now

abbrev pub decreases-switch_walk::all_cases : goal.decreases-switch_walk::all_cases
decreases-switch_walk::all_cases l = 2 + size_cases (cases_of l.cases.now)

abbrev pub decreases-switch_walk::switch_statement : goal.decreases-switch_walk::switch_statement
decreases-switch_walk::switch_statement l =
    6
    + (size_header (boxed_stmt_option_of l.first.now)
    + (size_option (plain_expr_option_of l.tag.now) + size_cases (cases_of l.cases.now)))

abbrev pub invariant-blocks::statements-loop-s : goal.invariant-blocks::statements-loop-s
invariant-blocks::statements-loop-s l =
    ReadTo l.initial.tables l.tables l.blocks l.initial.scope l.scope l.initial.block.names l.block.names l.initial.around
    l.around l.body l.s-items l.s-index (used_of l.initial.used) (used_of l.used) l.pending l.ends
    × (l.block.start ≡ l.initial.block.start)

abbrev pub invariant-ifs::all_arms-loop-arm : goal.invariant-ifs::all_arms-loop-arm
invariant-ifs::all_arms-loop-arm l =
    ArmsTo l.initial.tables l.tables l.blocks l.initial.scope l.scope l.initial.around l.around l.body l.arm-items l.arm-index
    (used_of l.initial.used) (used_of l.used) l.stack.items

abbrev pub invariant-switch_walk::all_cases-loop-case : goal.invariant-switch_walk::all_cases-loop-case
invariant-switch_walk::all_cases-loop-case l =
    CasesTo l.initial.tables l.tables l.blocks l.initial.scope l.scope l.initial.around l.around l.body l.value l.case-items
    l.case-index (used_of l.initial.used) (used_of l.used) l.seen

abbrev pub decreases-literals::literal_block : goal.decreases-literals::literal_block
decreases-literals::literal_block l = 4 + size_stmts (stmts_of l.stmts.now)

abbrev pub decreases-literals::function_literal : goal.decreases-literals::function_literal
decreases-literals::function_literal l = 5 + size_stmts (stmts_of l.stmts.now)

abbrev pub decreases-literals::literal : goal.decreases-literals::literal
decreases-literals::literal l = size_literal (expr_of l.e.now)

abbrev pub decreases-literals::walk_literals : goal.decreases-literals::walk_literals
decreases-literals::walk_literals l = size_found (seen l.found.now)

abbrev pub decreases-headers::condition_of : goal.decreases-headers::condition_of
decreases-headers::condition_of l = 1 + size_literals (expr_of l.e.now)

abbrev pub decreases-headers::loop_condition : goal.decreases-headers::loop_condition
decreases-headers::loop_condition l = 2 + size_option (plain_expr_option_of l.test.now)

abbrev pub decreases-headers::header : goal.decreases-headers::header
decreases-headers::header l = 2 + size_header (boxed_stmt_option_of l.first.now)

abbrev pub decreases-headers::post_statement : goal.decreases-headers::post_statement
decreases-headers::post_statement l = 1 + size_stmt (stmt_of l.s.now)

abbrev pub decreases-headers::post_of : goal.decreases-headers::post_of
decreases-headers::post_of l = 2 + size_header (boxed_stmt_option_of l.post.now)

abbrev pub decreases-switches::switch_tag : goal.decreases-switches::switch_tag
decreases-switches::switch_tag l = 1 + size_option (plain_expr_option_of l.e.now)

abbrev pub decreases-switches::values_of_case : goal.decreases-switches::values_of_case
decreases-switches::values_of_case l = 1 + size_exprs (exprs_of l.es.now)

abbrev pub decreases-ranges::range_header : goal.decreases-ranges::range_header
decreases-ranges::range_header l = 1 + (size_left (range_left_of l.left.now) + size_literals (expr_of l.over.now))

abbrev pub decreases-plain::simple_part : goal.decreases-plain::simple_part
decreases-plain::simple_part l = size_stmt (stmt_of l.s.now)

abbrev pub decreases-plain::declaration : goal.decreases-plain::declaration
decreases-plain::declaration l = size_stmt (stmt_of l.s.now)

abbrev pub decreases-plain::plain_statement : goal.decreases-plain::plain_statement
decreases-plain::plain_statement l = 1 + size_stmt (stmt_of l.s.now)

abbrev pub decreases-groups::short : goal.decreases-groups::short
decreases-groups::short l = 1 + size_exprs (exprs_of l.values.now)

abbrev pub decreases-groups::one_spec : goal.decreases-groups::one_spec
decreases-groups::one_spec l = 1 + size_exprs (exprs_of l.spec.now.values)

abbrev pub decreases-groups::variable_group : goal.decreases-groups::variable_group
decreases-groups::variable_group l = size_specs (var_specs_of l.specs.now)

abbrev pub invariant-literals::walk_literals-loop-e : goal.invariant-literals::walk_literals-loop-e
invariant-literals::walk_literals-loop-e l =
    LiteralsRead l.initial.tables l.tables l.blocks l.initial.scope l.scope (seen l.found) (seen (drop l.e-index l.found))
    (used_of l.initial.used) (used_of l.used)

abbrev pub invariant-groups::variable_group-loop-spec : goal.invariant-groups::variable_group-loop-spec
invariant-groups::variable_group-loop-spec l =
    SpecsTo l.initial.tables l.tables l.blocks l.initial.scope l.scope l.initial.block.names l.block.names l.spec-items
    l.spec-index (used_of l.initial.used) (used_of l.used) l.initial.pending l.pending
    × (l.block.start ≡ l.initial.block.start)
