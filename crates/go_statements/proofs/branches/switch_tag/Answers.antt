use Rattle.std.proofs.Common.{◌≡◌, true, Some, None, rules}
use Rattle.go_tree.specs.View.{boxed_stmt_option_of, expr_of}
use Rattle.go_productions.specs.Cursors.{ahead}
use Rattle.go_read.specs.SpellsSpans.{span_to}
use Rattle.go_read.specs.Goals.{read_operand}
use Rattle.go_read.specs.Reading.{at}
use Rattle.go_statements.proofs.BranchArms.{tag_none, tag_open}
use Rattle.go_statements.proofs.branches.switch_tag.Goals as goal

pub returns-in_default-first : goal.returns-in_default-first
returns-in_default-first g c = record {
  gives =
      let ts = ahead c.args.place.at in
      let r = ahead c.in-Some.left in
      let read : at span_to (read_operand true) ts ≡ Some (expr_of c.in-Some.tag, r) = search rules in
      tag_open (ahead c.args.whole) ts r (boxed_stmt_option_of c.args.first_stmt) (expr_of c.in-Some.tag) c.first.result c.first-2.result
      c.first.ensures.is c.in_default.not-Brace read c.first-2.ensures.is c.in_default-first.not-Brace;
  shorter = tt;
}

pub returns-in_default-2 : goal.returns-in_default-2
returns-in_default-2 g c = record {
  gives =
      let ts = ahead c.args.place.at in
      let read : at span_to (read_operand true) ts ≡ None = search rules in
      tag_none (ahead c.args.whole) ts (boxed_stmt_option_of c.args.first_stmt) c.first.result c.first.ensures.is c.in_default.not-Brace read;
  shorter = tt;
}
