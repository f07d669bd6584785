use Rattle.std.proofs.Common.{◌∙◌, None, Some, sym}
use Rattle.typed_names.proofs.NameLaws.{types_found}
use Rattle.typed_names.proofs.ScopeLaws.{local_meaning}
use Rattle.typed_names.proofs.scopes.Scope.meaning.Goals as goal

pub returns-in-Some-clause-is : goal.returns-in-Some-clause-is
returns-in-Some-clause-is c =
    λ e cs.
    sym (local_meaning e cs c.args.blocks.now c.args.self.now c.args.name.now (Some c.in-Some.entity) (sym c.in-Some.is ∙ c.find.ensures))

pub returns-in-Some-clause-typed : goal.returns-in-Some-clause-typed
returns-in-Some-clause-typed c =
    λ e k.
    types_found e c.args.self.now.locals c.args.name.now (Some c.in-Some.entity) k.locals (sym c.in-Some.is ∙ c.find.ensures)

pub returns-in-None-clause-is : goal.returns-in-None-clause-is
returns-in-None-clause-is c =
    λ e cs.
    c.outer_meaning.ensures.is e cs
    ∙ sym (local_meaning e cs c.args.blocks.now c.args.self.now c.args.name.now None (sym c.in-None.is ∙ c.find.ensures))
