use Rattle.std.proofs.Common.{◌≡◌, [], drop, replicate}
use Rattle.std.specs.Vec.Iter.{into_iter_items}
use Rattle.method_types.specs.MethodSets.Steps.{put_headers}
use Rattle.method_types.proofs.method_sets.sets.method_sets.Given as goal

abbrev pub invariant-loop-number : goal.invariant-loop-number
invariant-loop-number l =
    put_headers l.attached l.number (drop l.number l.headers) (into_iter_items l.rest) l.sets.items
    ≡ put_headers l.attached 0 l.headers l.fn.methods.items (replicate l.count [])
