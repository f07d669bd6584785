use Rattle.std.proofs.Common.{ap, length, arith}
use Rattle.stepped_programs.specs.RunReports.Kept.{IsPackageTold}
use Rattle.stepped_programs.proofs.RunReports.Turns.{turns_begin, read_with, read_all}
use Rattle.stepped_programs.proofs.run_reports.program_uses.add_kept_uses.Goals as goal

pub loop-number-init : goal.loop-number-init
loop-number-init c = turns_begin (IsPackageTold c.args.program.now c.args.files.now) c.args.program.now.order.items c.args.rows.now.items

pub loop-number-preserved : goal.loop-number-preserved
loop-number-preserved c =
    read_with (IsPackageTold c.args.program.now c.args.files.now) c.deref-number-items.result.now c.args.program.now.order.items c.loop-number.number-index 0 c.args.rows.now.items
    c.loop-number.rows.items c.add_package.new.rows.items c.deref-number-items.ensures.value c.loop-number-test.true c.loop-number.invariant c.in_ok-add_package.ensures

pub returns : goal.returns
returns c =
    read_all (IsPackageTold c.args.program.now c.args.files.now) c.args.program.now.order.items c.loop-number.number-index c.args.rows.now.items c.loop-number.rows.items
    (omega (arith, c.loop-number-test.false, ap length c.deref-number-items.ensures.value)) c.loop-number.invariant
