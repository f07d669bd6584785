use Rattle.std.proofs.Common.{◌≡◌, true, None, rules}
use Rattle.go_tree.specs.View.{boxed_stmt_option_of}
use Rattle.go_productions.specs.Cursors.{ahead}
use Rattle.go_read.specs.SpellsSpans.{span_to}
use Rattle.go_read.specs.Goals.{read_operand}
use Rattle.go_read.specs.Reading.{at}
use Rattle.go_statements.proofs.BranchArms.{arm_untested}
use Rattle.go_statements.proofs.branches.arm_test.Goals as goal

pub returns-in_default : goal.returns-in_default
returns-in_default g c = record {
  gives =
      let ts = ahead c.args.place.at in
      let read : at span_to (read_operand true) ts ≡ None = search rules in
      arm_untested (ahead c.args.whole) ts (boxed_stmt_option_of c.args.first_stmt) read;
  shorter = tt;
}
