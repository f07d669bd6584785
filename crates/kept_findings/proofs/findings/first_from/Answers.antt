use Rattle.std.proofs.Common.{arith, rules}
use Rattle.std.proofs.lemmas.List.Sorted.{IsPartitionPoint-from_clause}
use Rattle.expression_spans.specs.Order.{is_before}
use Rattle.kept_findings.specs.declared.findings.Finding.{Finding}
use Rattle.kept_findings.proofs.Searched.{parted, search-finds}
use Rattle.kept_findings.proofs.findings.first_from.Goals as goal

pub returns : goal.returns
returns c =
    let fs = c.args.entries.now in
    let point =
    IsPartitionPoint-from_clause (λ (f : Finding). is_before f.at c.args.at) fs _ c.partition_point.ensures.partitioned (parted c.args.at fs c.requires) (λ a r q k. search rules) in
    record {
      within = c.partition_point.ensures.bound;
      found = search-finds c.args.at _ fs c.requires c.partition_point.ensures.bound (λ j d l. point.0 j d (omega arith) l) (λ j d l m. point.1 j d l m);
    }
