use Rattle.std.proofs.Common.{arith, ltb, rules}
use Rattle.std.proofs.lemmas.List.Sorted.{IsPartitionPoint-from_clause, IsPartitionedBy-ltb}
use Rattle.std.proofs.lemmas.Bool.{ltb-true, ltb-false}
use Rattle.go_tree.specs.declared.tokens.Comment.{Comment}
use Rattle.comments_within.proofs.Search.{in_order}
use Rattle.comments_within.proofs.within.first_from.Goals as goal

pub returns : goal.returns
returns c =
    let parted = IsPartitionedBy-ltb (λ (x : Comment). x.span.start) _ c.args.at (in_order 0 c.args.comments.now c.requires) in
    let point = IsPartitionPoint-from_clause (λ (x : Comment). ltb x.span.start c.args.at) _ _ c.partition_point.ensures.partitioned parted (λ a r q k. search rules) in
    record {
      within = c.partition_point.ensures.bound;
      before = λ j d l. ltb-true _ _ (point.0 j d (omega arith) l);
      behind = λ j d l m. ltb-false _ _ (point.1 j d l m);
    }
