use Rattle.std.proofs.Common.{◌∙◌, true}
use Rattle.value_rounds.specs.NameRounds.Passes.{NameLeft, named_headers}
use Rattle.collected.specs.SingleHeaders.Singles.{listed_single}
use Rattle.collected.specs.PackageValues.Passes.{AreFound}
use Rattle.collected.proofs.PackageValues.Looks.{looked_on, looked_self}
use Rattle.collected.proofs.package_values.passes.look_in_order.Goals as goal

pub loop-number-init : goal.loop-number-init
loop-number-init c =
    looked_self listed_single c.args.singles.now named_headers AreFound NameLeft true c.args.files.now c.args.tables.now
    c.args.blocks.now c.args.found.now.items c.requires.ready c.requires.there

pub look_at-requires-clause-ready : goal.look_at-requires-clause-ready
look_at-requires-clause-ready c = c.loop-number.invariant.ready

pub look_at-requires-clause-there : goal.look_at-requires-clause-there
look_at-requires-clause-there c = c.loop-number.invariant.there

pub look_at-requires-clause-count : goal.look_at-requires-clause-count
look_at-requires-clause-count c = c.loop-number.invariant.count ∙ c.requires.count

pub loop-number-preserved : goal.loop-number-preserved
loop-number-preserved c =
    looked_on listed_single c.args.singles.now named_headers AreFound NameLeft true c.args.files.now c.args.tables.now
    c.loop-number.tables c.look_at.new.tables c.args.blocks.now c.loop-number.blocks c.look_at.new.blocks
    c.args.found.now.items c.loop-number.found.items c.look_at.new.found.items c.loop-number.invariant
    c.in_ok-look_at.ensures.looked
