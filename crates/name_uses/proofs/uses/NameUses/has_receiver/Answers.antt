use Rattle.std.proofs.Common.{◌∙◌, []}
use Rattle.go_tree.specs.FileView.{receiver_of}
use Rattle.typed_names.specs.Scopes.{env_at}
use Rattle.method_headers.specs.Methods.{receiver_at}
use Rattle.name_uses.specs.Walk.{walk_of}
use Rattle.name_uses.proofs.StateSteps.{receiver_told}
use Rattle.name_uses.proofs.uses.NameUses.has_receiver.Goals as goal

pub returns : goal.returns
unfolding walk_of
returns c =
    rw (← c.self.view_is)
    (c.is_some.ensures
    ∙ receiver_told c.self.inside.tables.env c.self.inside.scope.now.home
    (receiver_at (env_at c.self.inside.tables.env [] c.self.inside.blocks.now c.self.inside.scope.now) (receiver_of c.args.receiver.now))
    c.receiver_type.result (c.receiver_type.ensures []))
