use Rattle.std.proofs.Common.{◌∙◌, sym}
use Rattle.programs.proofs.OriginsOfUses.Tables.{noted_there, noted_new}
use Rattle.programs.proofs.origins_of_uses.table.OriginTable.note.Goals as goal

pub returns-then-has : goal.returns-then-has
returns-then-has c = λ q. noted_there q c.args.span c.args.self.now c.args.origin (sym c.has.ensures ∙ c.if-has.true)

pub returns : goal.returns
returns c = λ q.
    noted_new q c.args.span c.args.self.now c.set.new.self c.args.origin (sym c.has.ensures ∙ c.if-has.false)
    (c.in_ok-set.ensures q)
