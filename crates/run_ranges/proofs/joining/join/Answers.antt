use Rattle.run_ranges.proofs.Walked.{walked}
use Rattle.run_ranges.proofs.joining.join.Goals as goal

pub returns : goal.returns
returns c = walked c.args.made.now c.args.next c.in_ok-joined.joined.items c.requires.order c.in_ok-joined.ensures
