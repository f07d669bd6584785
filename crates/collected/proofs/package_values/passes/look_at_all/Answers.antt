use Rattle.std.proofs.Common.{◌∙◌, ◌≤◌, ap, arith, length, sym, true}
use Rattle.std.specs.Prelude.{if◌then◌else◌}
use Rattle.value_rounds.specs.NameRounds.Passes.{NameLeft, named_headers}
use Rattle.collected.specs.SingleHeaders.Singles.{listed_single}
use Rattle.collected.specs.PackageValues.Passes.{AreFound}
use Rattle.collected.proofs.PackageValues.Looks.{first_all, first_more, first_none}
use Rattle.collected.proofs.package_values.passes.look_at_all.Goals.{then-branch, else-branch}
use Rattle.collected.proofs.package_values.passes.look_at_all.Goals as goal

pub loop-number-init : goal.loop-number-init
loop-number-init c =
    first_none listed_single c.args.singles.now named_headers AreFound NameLeft true c.args.files.now c.args.tables.now
    c.args.blocks.now c.args.found.now.items c.requires.ready c.requires.there

pub look_at-requires-clause-ready : goal.look_at-requires-clause-ready
look_at-requires-clause-ready c = c.loop-number.invariant.looked.ready

pub look_at-requires-clause-there : goal.look_at-requires-clause-there
look_at-requires-clause-there c = c.loop-number.invariant.looked.there

pub look_at-requires-clause-count : goal.look_at-requires-clause-count
look_at-requires-clause-count c = c.loop-number.invariant.looked.count ∙ c.requires.count

pub loop-number-preserved : goal.loop-number-preserved
loop-number-preserved c =
    let changed = c.loop-number.changed in
    first_more listed_single c.args.singles.now named_headers AreFound NameLeft true c.args.files.now c.args.tables.now
    c.args.blocks.now c.args.found.now.items c.loop-number.number c.loop-number.tables c.look_at.new.tables
    c.loop-number.blocks c.look_at.new.blocks c.loop-number.found.items c.look_at.new.found.items changed
    c.in_ok-look_at.field-0 c.loop-number.invariant c.in_ok-look_at.ensures c.if-branch.changed
    (elim c.if-branch.branch [
      | then-branch w ↦ w.changed-is ∙ sym (ap (λ b. if b then true else changed) w.if-branch.true)
      | else-branch w ↦ w.changed-is ∙ sym (ap (λ b. if b then true else changed) w.if-branch.false)
    ])

pub returns-clause-looked : goal.returns-clause-looked
returns-clause-looked c = c.loop-number.invariant.looked

pub returns-clause-all : goal.returns-clause-all
returns-clause-all c =
    let end : length c.args.singles.now ≤ c.loop-number.number = omega arith in
    first_all listed_single c.args.singles.now named_headers AreFound NameLeft true c.args.files.now c.args.tables.now
    c.args.blocks.now c.args.found.now.items c.loop-number.number c.loop-number.tables c.loop-number.blocks
    c.loop-number.found.items c.loop-number.changed end c.loop-number.invariant
