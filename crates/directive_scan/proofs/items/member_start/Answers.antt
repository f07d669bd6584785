use Rattle.std.proofs.Common.{Bool, sym, ap}
use Rattle.directive_scan.specs.Items.{member_starts}
use Rattle.directive_scan.proofs.items.member_start.Goals as goal

pub returns-then-grouped : goal.returns-then-grouped
returns-then-grouped c = sym (ap (λ (b : Bool). member_starts c.args.start b c.args.span) c.if-grouped.true)
