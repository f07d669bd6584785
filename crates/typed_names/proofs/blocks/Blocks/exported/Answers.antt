use Rattle.std.proofs.Common.{◌∙◌, sym}
use Rattle.typed_names.specs.Meanings.{block_at}
use Rattle.typed_names.proofs.NameLaws.{block_types, types_found}
use Rattle.typed_names.proofs.ScopeLaws.{exported_found}
use Rattle.typed_names.proofs.blocks.Blocks.exported.Goals as goal

pub returns-then-is_exported-clause-is : goal.returns-then-is_exported-clause-is
returns-then-is_exported-clause-is c =
    λ e cs.
    exported_found e cs c.args.self.now c.args.number c.args.name.now c.find.result c.find.ensures
    (sym c.is_exported.ensures ∙ c.if-is_exported.true)

pub returns-then-is_exported-clause-typed : goal.returns-then-is_exported-clause-typed
returns-then-is_exported-clause-typed c =
    λ e h.
    types_found e (block_at c.args.self.now c.args.number) c.args.name.now c.find.result
    (block_types e c.args.self.now c.args.number h) c.find.ensures
