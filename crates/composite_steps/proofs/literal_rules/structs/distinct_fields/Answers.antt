use Rattle.std.specs.Prelude.{bytes_eq}
use mathlib.Core.Path.{sym, subst, ◌∙◌}
use Rattle.typed_names.proofs.NameLaws.{turned}
use Rattle.composite_steps.specs.LiteralRules.Elements.{names_in}
use Rattle.composite_steps.specs.LiteralRules.Sets.{SeenOnce}
use Rattle.composite_steps.proofs.LiteralRules.DistinctLemmas.{seen_none}
use Rattle.composite_steps.proofs.LiteralRules.StructLemmas.{names_step}
use Rattle.composite_steps.proofs.literal_rules.structs.distinct_fields.Goals as goal

pub loop-x-init : goal.loop-x-init
loop-x-init c =
    let ns = names_in c.args.elements.now in
    subst (SeenOnce bytes_eq ns ns) (sym c.new-seen.ensures) (seen_none bytes_eq turned ns)

pub loop-x-preserved : goal.loop-x-preserved
loop-x-preserved c =
    names_step c.args.elements.now c.loop-x.x-index c.loop-x.seen c.add_field.new.seen c.loop-x-test.true
    (sym c.in_ok-is_new.ensures.is_new ∙ c.if-not-is_new.false) c.in_ok-is_new.ensures.added c.loop-x.invariant
