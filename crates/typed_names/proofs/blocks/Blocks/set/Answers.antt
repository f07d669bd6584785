use Rattle.typed_names.proofs.NameLaws.{members_set_at, types_set_at}
use Rattle.typed_names.proofs.blocks.Blocks.set.Goals as goal

pub returns-clause-typed : goal.returns-clause-typed
returns-clause-typed c =
    rw (← c.self.view_is)
    (types_set_at c.set.result c.self.inside.items.items c.args.number c.index_mut.result.now c.set.new.self c.args.entity
    (rw c.self.view_is c.requires) c.index_mut.ensures.value c.set.ensures.typed)

pub returns-clause-names : goal.returns-clause-names
returns-clause-names c =
    rw (← c.self.view_is)
    (members_set_at c.set.result c.self.inside.items.items c.args.number c.index_mut.result.now c.set.new.self c.args.name.items c.args.entity
    (rw c.self.view_is c.requires) c.index_mut.ensures.value c.set.ensures.names)
