use Rattle.std.proofs.Common.{◌∙◌, sym}
use Rattle.jump_rules.specs.UsedLocals.Used.{used_of}
use Rattle.jump_rules.proofs.UsedLocals.UsedLemmas.{used_already, used_now}
use Rattle.jump_rules.proofs.used_locals.names.UsedNames.add.Goals as goal

pub returns-then-has : goal.returns-then-has
returns-then-has c =
    used_already c.args.name.now (used_of c.args.self.now) (sym c.if-has.true ∙ c.has.ensures)

pub returns : goal.returns
returns c =
    used_now c.set.result c.args.name.now (used_of c.args.self.now) (used_of c.set.new.self) c.set.ensures.set
