use Rattle.std.proofs.Common.{◌≡◌, Some, None, sym, ap, ◌∙◌, rules}
use Rattle.go_tree.specs.declared.spans.Span.{Span}
use Rattle.go_tree.specs.Tree.{Stmt}
use Rattle.go_tree.specs.View.{block_of}
use Rattle.go_productions.specs.Cursors.{ahead}
use Rattle.go_read.specs.SpellsSpans.{span_to}
use Rattle.go_read.specs.Goals.{read_block}
use Rattle.go_read.specs.Reading.{at}
use Rattle.go_statements.proofs.StmtArms.{inner_none, inner_some}
use Rattle.go_statements.proofs.stmts.inner_block.Goals as goal

pub returns-in_default : goal.returns-in_default
returns-in_default g c = record {
  gives =
      let ts = ahead c.args.place.at in
      let read : at span_to read_block ts ≡ None = search rules in
      inner_none ts c.requires.begins read;
  shorter = tt;
}

pub returns-clause-gives : goal.returns-clause-gives
returns-clause-gives g c =
    let ts = ahead c.args.place.at in
    let r = ahead c.in-Some.left in
    let b = block_of c.in-Some.body in
    let read : at span_to read_block ts ≡ Some (b, r) = search rules in
    inner_some ts r b.0 b.1 c.requires.begins read ∙ ap (λ (x : Stmt Span). Some (x, r)) (sym c.inner_stmt.ensures)
