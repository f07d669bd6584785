use Rattle.typed_names.proofs.TypeExprs.FlagsKept.{keyed_given}
use Rattle.typed_names.proofs.type_exprs.meant.one_keyed.Goals as goal

pub returns-in-Ok-clause-gives : goal.returns-in-Ok-clause-gives
returns-in-Ok-clause-gives c =
    λ d h.
    keyed_given c.args.types.now c.extend.new.self c.args.of d c.with_keys.result c.in-Ok.ensures.are h c.with_keys.ensures
