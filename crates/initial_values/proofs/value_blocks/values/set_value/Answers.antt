use Rattle.std.proofs.Common.{◌∙◌, ap}
use Rattle.typed_names.specs.Meanings.{with_member}
use Rattle.initial_values.proofs.ValueBlocks.ValueLemmas.{member_there}
use Rattle.initial_values.proofs.value_blocks.values.set_value.Goals as goal

pub returns-clause-there : goal.returns-clause-there
returns-clause-there c =
    λ e cs k a.
    let old = c.args.blocks.now in
    member_there e cs old c.set.new.self c.args.home c.args.name.now c.args.entity
    (c.in_ok-set.ensures.names ∙ ap (λ n. with_member old c.args.home n c.args.entity) c.in_ok-copy.ensures)
    (c.in_ok-set.ensures.typed e) k a
