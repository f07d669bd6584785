use Rattle.std.proofs.Common.{◌≡◌, ◌∙◌, ◌<◌, ◌++◌, ℕ, List, [], ap, length, arith}
use Rattle.std.proofs.lemmas.List.{length-set}
use Rattle.report_order.specs.Order.{in_order}
use Rattle.report_order.specs.Rows.{row}
use Rattle.report_order.proofs.Tables.{more_lines, next_stands, taken}
use Rattle.report_order.proofs.text.table_text.Goals as goal

pub report_lines-requires-clause-order : goal.report_lines-requires-clause-order
report_lines-requires-clause-order c =
    let k = c.loop-k.k in
    let sorted = c.deref.ensures.value ∙ c.in_ok-sort_items.ensures ∙ ap in_order (c.take-items.ensures.taken ∙ c.loop-k.invariant.rest k (omega arith)) in
    next_stands c.args.files.now (row c.args.table.now) k _ c.deref.result.now c.loop-k-test.true c.requires.within sorted

pub loop-k-preserved : goal.loop-k-preserved
loop-k-preserved c =
    let k = c.loop-k.k in
    let sorted = c.deref.ensures.value ∙ c.in_ok-sort_items.ensures ∙ ap in_order (c.take-items.ensures.taken ∙ c.loop-k.invariant.rest k (omega arith)) in
    let there : k < length c.loop-k.table = omega (arith, c.loop-k-test.true, c.requires.count, c.loop-k.invariant.size) in
    record {
      lines =
          more_lines (row c.args.table.now) c.args.files.now k _ c.deref.result.now c.loop-k.out.items c.in_ok-lines.lines c.extend_from_slice.new.self.items _
          c.loop-k-test.true (c.in_ok-extend_from_slice.ensures.items ∙ ap (λ l. c.loop-k.out.items ++ l) c.items.ensures) c.in_ok-lines.ensures sorted
          c.loop-k.invariant.lines;
      rest = λ j h. taken c.args.table.now c.loop-k.table c.take-items.new.self k there c.take-items.ensures.rest c.loop-k.invariant.rest j h;
      size = ap length c.take-items.ensures.rest ∙ length-set c.loop-k.table k [] ∙ c.loop-k.invariant.size;
    }
