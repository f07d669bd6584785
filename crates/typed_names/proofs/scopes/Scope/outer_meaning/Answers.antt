use Rattle.std.proofs.Common.{◌∙◌, None, Some, sym}
use Rattle.typed_names.proofs.NameLaws.{types_found}
use Rattle.typed_names.proofs.ScopeLaws.{import_meaning}
use Rattle.typed_names.proofs.scopes.Scope.outer_meaning.Goals as goal

pub returns-in-Some-clause-is : goal.returns-in-Some-clause-is
returns-in-Some-clause-is c =
    λ e cs.
    sym (import_meaning e cs c.args.blocks.now c.args.self.now c.args.name.now (Some c.in-Some.entity) (sym c.in-Some.is ∙ c.find.ensures))

pub returns-in-Some-clause-typed : goal.returns-in-Some-clause-typed
returns-in-Some-clause-typed c =
    λ e k.
    types_found e c.args.self.now.imports c.args.name.now (Some c.in-Some.entity) k.imports (sym c.in-Some.is ∙ c.find.ensures)

pub returns-in-None-clause-is : goal.returns-in-None-clause-is
returns-in-None-clause-is c =
    λ e cs.
    c.member_meaning.ensures.is e cs
    ∙ sym (import_meaning e cs c.args.blocks.now c.args.self.now c.args.name.now None (sym c.in-None.is ∙ c.find.ensures))

pub returns-in-None-clause-typed : goal.returns-in-None-clause-typed
returns-in-None-clause-typed c = λ e k. c.member_meaning.ensures.typed e k.members
