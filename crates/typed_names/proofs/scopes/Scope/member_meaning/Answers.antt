use Rattle.std.proofs.Common.{◌∙◌, None, Some, sym}
use Rattle.typed_names.specs.Meanings.{block_at}
use Rattle.typed_names.proofs.NameLaws.{block_types, types_found}
use Rattle.typed_names.proofs.ScopeLaws.{package_meaning}
use Rattle.typed_names.proofs.scopes.Scope.member_meaning.Goals as goal

pub returns-in-Some-clause-is : goal.returns-in-Some-clause-is
returns-in-Some-clause-is c =
    λ e cs.
    sym (package_meaning e cs c.args.blocks.now c.args.self.now c.args.name.now (Some c.in-Some.entity) (sym c.in-Some.is ∙ c.find.ensures))

pub returns-in-Some-clause-typed : goal.returns-in-Some-clause-typed
returns-in-Some-clause-typed c =
    λ e h.
    types_found e (block_at c.args.blocks.now c.args.self.now.home) c.args.name.now (Some c.in-Some.entity)
    (block_types e c.args.blocks.now c.args.self.now.home h) (sym c.in-Some.is ∙ c.find.ensures)

pub returns-in-None-clause-is : goal.returns-in-None-clause-is
returns-in-None-clause-is c =
    λ e cs.
    c.predeclared_entity.ensures.is e cs
    ∙ sym (package_meaning e cs c.args.blocks.now c.args.self.now c.args.name.now None (sym c.in-None.is ∙ c.find.ensures))

pub returns-in-None-clause-typed : goal.returns-in-None-clause-typed
returns-in-None-clause-typed c = λ e h. c.predeclared_entity.ensures.typed e
