use Rattle.param_choice.proofs.Striking.{Precedes-by}
use Rattle.std.proofs.Common.{refl}
use Rattle.param_choice.proofs.choice.precedes.Goals as goal

pub returns-else-not-clashes : goal.returns-else-not-clashes
returns-else-not-clashes c =
    Precedes-by c.args.t.now c.items-else-not-clashes.result.now c.items.result.now _ c.args.i c.args.j c.before-else-not-clashes.result
    c.items-else-not-clashes.ensures c.items.ensures c.requires.mine (c.if-not-clashes.ensures.0 refl) c.before-else-not-clashes.ensures
