use Rattle.std.proofs.Common.{◌∙◌, ap, cond, sym}
use Rattle.go_tree.specs.View.{const_spec_of}
use Rattle.package_blocks.specs.Headers.{repeated_type, repeated_values}
use Rattle.package_blocks.proofs.DeclLemmas.{some_values}
use Rattle.package_blocks.proofs.specs.repeated.Goals as goal

pub returns-else-is_empty-clause-types : goal.returns-else-is_empty-clause-types
returns-else-is_empty-clause-types c =
    let x = const_spec_of c.args.spec.now in
    sym
    (ap (λ b. cond b (repeated_type c.args.before) x.2)
    (some_values x.3 c.items.result.now c.items.ensures.seen (sym c.is_empty.ensures ∙ c.if-is_empty.false)))

pub returns-else-is_empty-clause-values : goal.returns-else-is_empty-clause-values
returns-else-is_empty-clause-values c =
    let x = const_spec_of c.args.spec.now in
    sym
    (ap (λ b. cond b (repeated_values c.args.before) x.3)
    (some_values x.3 c.items.result.now c.items.ensures.seen (sym c.is_empty.ensures ∙ c.if-is_empty.false)))
