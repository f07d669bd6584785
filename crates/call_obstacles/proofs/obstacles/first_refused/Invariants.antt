use Rattle.std.proofs.Common.{◌≡◌, drop}
use Rattle.run_rules.specs.Obstacles.{first_answer}
use Rattle.call_obstacles.specs.Told.{refused_path}
use Rattle.call_obstacles.proofs.obstacles.first_refused.Given as goal

abbrev pub invariant-loop-number : goal.invariant-loop-number
invariant-loop-number l =
    first_answer (refused_path l.use_) (drop l.number-index l.use_.needed.now)
    ≡ first_answer (refused_path l.use_) l.use_.needed.now
