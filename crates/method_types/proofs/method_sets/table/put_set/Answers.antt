use Rattle.method_types.proofs.MethodSets.PutLemmas.{only_put}
use Rattle.method_types.proofs.method_sets.table.put_set.Goals as goal

pub returns-then-not-has_methods-clause-only : goal.returns-then-not-has_methods-clause-only
returns-then-not-has_methods-clause-only c =
    only_put c.args.types.now c.add_methods.new.self c.args.t.0 c.args.set c.add_methods.result
    c.add_methods.ensures.added c.add_methods.ensures.same
