use Rattle.std.proofs.Common.{leb, rules, slice_index_or}
use Rattle.std.proofs.lemmas.List.Sorted.{IsPartitionPoint-from_clause, IsPartitionedBy-leb}
use Rattle.scope_tables.specs.declared.named.Held.{Held}
use Rattle.scope_tables.proofs.NamedLaws.{later_begun}
use Rattle.scope_tables.proofs.named.begun.Goals as goal

pub returns-clause-behind : goal.returns-clause-behind
returns-clause-behind c =
    let parted = IsPartitionedBy-leb (λ (h : Held). h.from) _ c.args.at c.requires in
    let point = IsPartitionPoint-from_clause (λ (h : Held). leb h.from c.args.at) _ _ c.partition_point.ensures.partitioned parted (λ a r q k. search rules) in
    λ j d low high. later_begun c.args.at (slice_index_or c.args.held.now j d) (point.1 j d low high)
