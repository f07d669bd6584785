use Rattle.std.proofs.Common.{◌∙◌, ap, drop}
use Rattle.typed_names.proofs.LocalLaws.{drop_more}
use Rattle.typed_names.proofs.locals.Locals.truncate.Goals as goal

pub loop-removed-preserved : goal.loop-removed-preserved
loop-removed-preserved c =
    c.pop.ensures ∙ ap (drop 1) c.loop-removed.invariant ∙ drop_more c.loop-removed._removed c.args.self.now
