use Rattle.std.proofs.Common.{subst}
use Rattle.typed_names.specs.TypeExprs.Answers.{GivesFields}
use Rattle.typed_names.proofs.TypeExprs.FieldSteps.{struct_given}
use Rattle.typed_names.proofs.type_exprs.fields.struct_of_fields.Goals as goal

pub returns-in-Ok-clause-gives : goal.returns-in-Ok-clause-gives
returns-in-Ok-clause-gives c =
    λ d h.
    struct_given c.args.types.now c.struct_type.new.types c.in-Ok.rows d c.struct_type.result
    (subst (λ r. GivesFields c.args.types.now d r) c.in-Ok.is h) c.struct_type.ensures.gives
