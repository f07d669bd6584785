use Rattle.std.proofs.Common.{◌∙◌, true}
use Rattle.value_rounds.specs.NameRounds.Passes.{NameLeft, named_headers}
use Rattle.collected.specs.SingleHeaders.Singles.{listed_single}
use Rattle.collected.specs.PackageValues.Passes.{AreFound}
use Rattle.collected.proofs.PackageValues.Looks.{looked_on, looked_self}
use Rattle.collected.proofs.package_values.passes.look_on.Goals as goal

pub loop-init : goal.loop-init
loop-init c =
    looked_self listed_single c.args.singles.now named_headers AreFound NameLeft true c.args.files.now c.args.tables.now
    c.args.blocks.now c.args.found.now.items c.requires.ready c.requires.there

pub look_at_all-requires-clause-ready : goal.look_at_all-requires-clause-ready
look_at_all-requires-clause-ready c = c.loop.invariant.ready

pub look_at_all-requires-clause-there : goal.look_at_all-requires-clause-there
look_at_all-requires-clause-there c = c.loop.invariant.there

pub look_at_all-requires-clause-count : goal.look_at_all-requires-clause-count
look_at_all-requires-clause-count c = c.loop.invariant.count ∙ c.requires.count

pub loop-preserved : goal.loop-preserved
loop-preserved c =
    looked_on listed_single c.args.singles.now named_headers AreFound NameLeft true c.args.files.now c.args.tables.now
    c.loop.tables c.look_at_all.new.tables c.args.blocks.now c.loop.blocks c.look_at_all.new.blocks c.args.found.now.items
    c.loop.found.items c.look_at_all.new.found.items c.loop.invariant c.in_ok-look_at_all.ensures.looked

pub returns-then-not-branch-clause-looked : goal.returns-then-not-branch-clause-looked
returns-then-not-branch-clause-looked c =
    looked_on listed_single c.args.singles.now named_headers AreFound NameLeft true c.args.files.now c.args.tables.now
    c.loop.tables c.look_at_all.new.tables c.args.blocks.now c.loop.blocks c.look_at_all.new.blocks c.args.found.now.items
    c.loop.found.items c.look_at_all.new.found.items c.loop.invariant c.in_ok-look_at_all.ensures.looked

pub returns-then-not-branch-clause-all : goal.returns-then-not-branch-clause-all
returns-then-not-branch-clause-all c = c.in_ok-look_at_all.ensures.all c.if-not-branch.true
