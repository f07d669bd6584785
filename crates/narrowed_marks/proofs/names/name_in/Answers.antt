use Rattle.std.proofs.Common.{◌≡◌, ◌∙◌, None, Some, map, option_copied, ap, subst, sym, arith}
use Rattle.std.specs.Option.{option_map}
use Rattle.go_tree.specs.View.{name_at_of}
use Rattle.run_rules.specs.Sites.{constant_in_spec, name_of}
use Rattle.narrowed_marks.proofs.NameLemmas.{not_none, valued, valueless}
use Rattle.narrowed_marks.proofs.names.name_in.Goals as goal

pub returns-in-Some : goal.returns-in-Some
returns-in-Some c = λ rest.
    let names = c.args.spec.now.names in
    subst (λ es. Some c.in-Some.name.now.name ≡ option_map name_of (constant_in_spec c.args.item (map name_at_of names) es rest)) (sym c.items-values.ensures.seen)
    (valued c.args.item names c.items-values.result.now rest c.in-Some.name.now (sym (ap option_copied c.in-Some.is) ∙ c.nth_name.ensures)
    (omega (arith, c.if-item-values.true)))

pub returns-in-None : goal.returns-in-None
returns-in-None c =
    absurd (not_none c.args.spec.now.names c.args.item c.requires (sym (ap option_copied c.in-None.is) ∙ c.nth_name.ensures))

pub returns-else-item-values : goal.returns-else-item-values
returns-else-item-values c = λ rest.
    let names = c.args.spec.now.names in
    subst (λ es. None ≡ option_map name_of (constant_in_spec c.args.item (map name_at_of names) es rest)) (sym c.items-values.ensures.seen)
    (valueless c.args.item names c.items-values.result.now rest c.requires (omega (arith, c.if-item-values.false)))
