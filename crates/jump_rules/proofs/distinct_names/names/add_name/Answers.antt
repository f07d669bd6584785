use Rattle.jump_rules.proofs.DistinctNames.SeenLemmas.{add_answered}
use Rattle.jump_rules.proofs.distinct_names.names.add_name.Goals as goal

pub returns : goal.returns
returns c =
    add_answered c.args.name.now c.in_ok-copy.copy.items c.args.seen.now c.add.new.self c.add.result
    c.in_ok-copy.ensures c.add.ensures.added c.add.ensures.is_new
