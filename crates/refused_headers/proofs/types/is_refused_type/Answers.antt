use Rattle.std.proofs.Common.{◌∙◌, map}
use Rattle.std.proofs.lemmas.Result.{IfOk-weaker}
use Rattle.defined_types.specs.DeclaredTypes.{declared_of}
use Rattle.refused_headers.proofs.Refuses.{refused_header}
use Rattle.refused_headers.proofs.types.is_refused_type.Goals as goal

pub returns-in-Type-clause-refuses : goal.returns-in-Type-clause-refuses
returns-in-Type-clause-refuses c =
    let e = c.args.types.now in
    let ds = map (declared_of e) c.args.tests.now.declared.items in
    IfOk-weaker c.refuses_spec.result _ _
    (λ b r cs h is.
    r cs
    ∙ refused_header e ds cs c.args.blocks.now c.args.files.now c.args.header.now h is c.in-Type.spec c.in-Type.is)
    c.refuses_spec.ensures.refuses
