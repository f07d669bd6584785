use Rattle.std.proofs.Common.{◌∙◌}
use Rattle.call_obstacles.proofs.Joined.{told_is}
use Rattle.call_obstacles.proofs.obstacles.obstacle_of_call.Goals as goal

pub returns-clause-first : goal.returns-clause-first
returns-clause-first c =
    λ marks st x d kept k t. c.in_ok-found.ensures ∙ told_is marks st x d kept k c.args.use_.now t
