use Rattle.std.proofs.Common.{arith}
use Rattle.stepped_programs.specs.RunReports.Rows.{AddsRow, IsBadRow}
use Rattle.stepped_programs.proofs.RunReports.Turns.{turns_begin, read_more, read_all}
use Rattle.stepped_programs.proofs.run_reports.bad_marks.add_bad_marks.Goals as goal

pub loop-mark-init : goal.loop-mark-init
loop-mark-init c = turns_begin (AddsRow (IsBadRow c.args.files.now)) c.args.bad.now c.args.rows.now.items

pub loop-mark-preserved : goal.loop-mark-preserved
loop-mark-preserved c =
    read_more (AddsRow (IsBadRow c.args.files.now)) c.args.bad.now c.loop-mark.mark-index c.mark-item.result c.args.rows.now.items c.loop-mark.rows.items c.push.new.self.items
    c.loop-mark-test.true c.mark-item.is c.loop-mark.invariant
    (record { row = c.in_ok-row.row; tells = c.in_ok-row.ensures; added = c.in_ok-push.ensures.items })

pub returns : goal.returns
returns c =
    read_all (AddsRow (IsBadRow c.args.files.now)) c.args.bad.now c.loop-mark.mark-index c.args.rows.now.items c.loop-mark.rows.items (omega (arith, c.loop-mark-test.false))
    c.loop-mark.invariant
