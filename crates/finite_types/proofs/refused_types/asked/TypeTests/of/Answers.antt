use Rattle.std.proofs.Common.{length, subst}
use Rattle.finite_types.specs.Flags.{FiniteSoFar}
use Rattle.finite_types.proofs.RefusedTypes.GoodTests.{defined_first, flags_first}
use Rattle.finite_types.proofs.refused_types.asked.TypeTests.of.Goals as goal

pub returns-clause-are : goal.returns-clause-are
returns-clause-are c =
    let e = c.args.types.now in
    let x = c.in_ok-flags.flags in
    record {
      flags = flags_first e x c.in_ok-flags.ensures;
      defined =
          defined_first e c.len-count.ensures.good (length x.comparable.items) c.in_ok-flags.ensures.comparable_count;
      finite =
          subst (λ ds. FiniteSoFar e ds c.in_ok-finite.finite.items) c.deref.ensures.value c.in_ok-finite.ensures;
    }
