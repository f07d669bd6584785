use Rattle.std.proofs.Common.{◌≡◌, ◌<◌, length, map, true, false, Some, None, rules}
use Rattle.go_tree.specs.Lists.{exprs_from}
use Rattle.go_tree.specs.View.{expr_of}
use Rattle.go_productions.specs.Cursors.{ahead}
use Rattle.go_read.specs.SpellsSpans.{span_to}
use Rattle.go_read.specs.Goals.{read_exprs}
use Rattle.go_read.specs.Reading.{at}
use Rattle.go_expressions.proofs.Passing.{passed_on, shorter_within}
use Rattle.go_statements.specs.StmtParts.{defines_here}
use Rattle.go_statements.proofs.SimpleArms.{simple_defines, simple_none, simple_goes}
use Rattle.go_statements.proofs.simple_stmts.simple_stmt.Goals as goal

pub returns-then-defines : goal.returns-then-defines
returns-then-defines g c = record {
  gives =
      let ts = ahead c.args.place.at in
      let short : defines_here ts ≡ true = search rules in
      passed_on _ c.define.result _ _ (simple_defines c.args.place.header ts short) c.define.ensures.gives;
  shorter = c.define.ensures.shorter;
}

pub returns-in_default : goal.returns-in_default
returns-in_default g c = record {
  gives =
      let ts = ahead c.args.place.at in
      let long : defines_here ts ≡ false = search rules in
      let read : at span_to (read_exprs c.args.place.header) ts ≡ None = search rules in
      simple_none c.args.place.header ts long read;
  shorter = tt;
}

pub returns : goal.returns
returns g c = record {
  gives =
      let ts = ahead c.args.place.at in
      let r = ahead c.in-Some.left in
      let xs = exprs_from (map expr_of c.in-Some.exprs.items) in
      let long : defines_here ts ≡ false = search rules in
      let read : at span_to (read_exprs c.args.place.header) ts ≡ Some (xs, r) = search rules in
      passed_on _ c.simple_after.result _ _ (simple_goes c.args.place.header ts r xs long read) c.simple_after.ensures.gives;
  shorter =
      let fewer : length (ahead c.in-Some.left) < length (ahead c.args.place.at) = search rules in
      shorter_within c.simple_after.result c.args.place.at c.in-Some.left fewer c.simple_after.ensures.within;
}
