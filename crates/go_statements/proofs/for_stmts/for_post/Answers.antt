use Rattle.std.proofs.Common.{◌≡◌, true, None, rules}
use Rattle.go_tree.specs.View.{boxed_expr_option_of, boxed_stmt_option_of}
use Rattle.go_productions.specs.Cursors.{ahead}
use Rattle.go_read.specs.SpellsSpans.{span_to}
use Rattle.go_read.specs.Goals.{read_simple}
use Rattle.go_read.specs.Reading.{at}
use Rattle.go_expressions.proofs.Passing.{passed_on}
use Rattle.go_statements.proofs.ForArms.{post_absent, post_none}
use Rattle.go_statements.proofs.for_stmts.for_post.Goals as goal

pub returns-in-Brace-clause-gives : goal.returns-in-Brace-clause-gives
returns-in-Brace-clause-gives g c =
    passed_on _ c.for_body.result _ _ (post_absent (ahead c.args.whole) (ahead c.args.place.at) (boxed_stmt_option_of c.args.first_stmt) (boxed_expr_option_of c.args.test) c.in-Brace.ensures.is) c.for_body.ensures.gives

pub returns-in_default-2 : goal.returns-in_default-2
returns-in_default-2 g c = record {
  gives =
      let ts = ahead c.args.place.at in
      let read : at span_to (read_simple true) ts ≡ None = search rules in
      post_none (ahead c.args.whole) ts (boxed_stmt_option_of c.args.first_stmt) (boxed_expr_option_of c.args.test) c.first.result c.first.ensures.is c.in_default.not-Brace read;
  shorter = tt;
}
