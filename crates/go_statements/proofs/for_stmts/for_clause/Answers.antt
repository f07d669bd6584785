use Rattle.std.proofs.Common.{◌≡◌, map, true, false, Some, None, rules}
use Rattle.go_tree.specs.Lists.{exprs_from}
use Rattle.go_tree.specs.View.{expr_of, stmt_of}
use Rattle.go_productions.specs.Cursors.{ahead}
use Rattle.go_read.specs.SpellsSpans.{span_to}
use Rattle.go_read.specs.Goals.{read_exprs, read_simple_after}
use Rattle.go_read.specs.Reading.{at}
use Rattle.go_expressions.proofs.Passing.{passed_on}
use Rattle.go_statements.specs.StmtParts.{defines_here, range_here}
use Rattle.go_statements.proofs.ForArms.{clause_exprs_none, clause_simple_none, clause_simple}
use Rattle.go_statements.proofs.for_stmts.for_clause.Goals as goal

pub returns-in_default : goal.returns-in_default
returns-in_default g c = record {
  gives =
      let ts = ahead c.args.place.at in
      let long : defines_here ts ≡ false = search rules in
      let read : at span_to (read_exprs true) ts ≡ None = search rules in
      clause_exprs_none (ahead c.args.whole) ts c.requires.begins long read;
  shorter = tt;
}

pub returns-in_default-2 : goal.returns-in_default-2
returns-in_default-2 g c = record {
  gives =
      let ts = ahead c.args.place.at in
      let r = ahead c.in-Some.left in
      let xs = exprs_from (map expr_of c.in-Some.exprs.items) in
      let long : defines_here ts ≡ false = search rules in
      let read : at span_to (read_exprs true) ts ≡ Some (xs, r) = search rules in
      let plain : range_here r ≡ false = search rules in
      let lost : at span_to (read_simple_after true ts xs) r ≡ None = search rules in
      clause_simple_none (ahead c.args.whole) ts r xs c.requires.begins long read plain lost;
  shorter = tt;
}

pub returns-clause-gives : goal.returns-clause-gives
returns-clause-gives g c =
    let ts = ahead c.args.place.at in
    let r = ahead c.in-Some.left in
    let xs = exprs_from (map expr_of c.in-Some.exprs.items) in
    let q = ahead c.in-Some-2.left in
    let x = stmt_of c.in-Some-2.first_stmt in
    let long : defines_here ts ≡ false = search rules in
    let read : at span_to (read_exprs true) ts ≡ Some (xs, r) = search rules in
    let plain : range_here r ≡ false = search rules in
    let stated : at span_to (read_simple_after true ts xs) r ≡ Some (x, q) = search rules in
    passed_on _ c.for_plain.result _ _ (clause_simple (ahead c.args.whole) ts r q xs x c.requires.begins long read plain stated) c.for_plain.ensures.gives
