use Rattle.std.proofs.Common.{refl, subst}
use Rattle.run_rules.specs.Programs.{linked}
use Rattle.declared_literals.specs.Numbers.{AreNumbered}
use Rattle.declared_literals.proofs.Made.{made}
use Rattle.declared_literals.proofs.tables.literal_types_of.Goals as goal

pub returns : goal.returns
returns c =
    λ ps cs are same.
    made (linked ps) c.args.tables.now.env cs c.args.blocks.now c.args.files.now c.in_ok-headers.headers.items
    c.in_ok-types.types.items c.in_ok-names.names.items (record { types = c.in_ok-types.types; names = c.in_ok-names.names })
    refl refl c.in_ok-types.ensures
    (subst (AreNumbered c.args.blocks.now c.args.files.now c.in_ok-names.names.items) c.deref.ensures.value c.in_ok-names.ensures)
    (c.in_ok-headers.ensures ps c.args.files.now are) same
