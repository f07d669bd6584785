use Rattle.std.proofs.Common.{◌∙◌, sym}
use Rattle.jump_rules.specs.UsedLocals.Used.{used_of}
use Rattle.jump_rules.proofs.UsedLocals.PendingLemmas.{blank_begun, name_begun}
use Rattle.jump_rules.proofs.used_locals.pending.PendingNames.begin.Goals as goal

pub returns-then-is_blank : goal.returns-then-is_blank
returns-then-is_blank c =
    blank_begun c.args.must c.args.name.now (used_of c.args.used.now) c.args.self.now (sym c.if-is_blank.true ∙ c.is_blank.ensures)

pub returns : goal.returns
returns c =
    rw (← c.self.view_is)
    (name_begun c.set.result c.args.must c.args.name.now c.in_ok-copy.copy c.has-before.result (used_of c.args.used.now)
    (used_of c.set.new.self) c.self.inside.items.items c.push.new.self.items
    (sym c.if-is_blank.false ∙ c.is_blank.ensures) c.in_ok-copy.ensures c.has-before.ensures c.in_ok-push.ensures.items
    c.set.ensures.set)
