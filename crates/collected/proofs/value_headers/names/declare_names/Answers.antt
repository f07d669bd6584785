use Rattle.std.proofs.Common.{◌∙◌, ap, length, refl, subst, sym, true}
use Rattle.package_blocks.specs.Names.{plain_names}
use Rattle.initial_values.specs.ValueBlocks.Values.{SetsNames}
use Rattle.initial_values.specs.ValueEntities.Entities.{AreEntities}
use Rattle.collected.specs.ValueHeaders.Values.{AreEntitiesIfOk, HasCount, NamesDeclared}
use Rattle.collected.proofs.value_headers.names.declare_names.Goals as goal

pub set_values-requires : goal.set_values-requires
set_values-requires c =
    ap length (c.deref.ensures.value ∙ c.list.view_is)
    ∙ subst (λ r. HasCount (length c.args.names.now) r) c.in-Ok.is c.requires

pub returns-in_ok-set_values-in-Ok-clause-set : goal.returns-in_ok-set_values-in-Ok-clause-set
returns-in_ok-set_values-in-Ok-clause-set c =
    let ns = plain_names c.args.names.now in
    let old = c.args.blocks.now in
    let new = c.set_values.new.blocks in
    subst (λ r. NamesDeclared c.args.home ns r old new true) (sym c.in-Ok.is)
    (refl, subst (λ xs. SetsNames c.args.home ns xs old new) (c.deref.ensures.value ∙ c.list.view_is) c.in_ok-set_values-in-Ok.ensures.set)

pub returns-in_ok-set_values-in-Ok-clause-there : goal.returns-in_ok-set_values-in-Ok-clause-there
returns-in_ok-set_values-in-Ok-clause-there c =
    λ e cs are there.
    c.set_values.ensures.there e cs
    (subst (AreEntities e cs) (sym (c.deref.ensures.value ∙ c.list.view_is))
    (subst (λ r. AreEntitiesIfOk e cs r) c.in-Ok.is are))
    there
