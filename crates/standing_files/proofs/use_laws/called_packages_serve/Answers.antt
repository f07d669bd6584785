use Rattle.literal_steps.proofs.ServedPackages.FormNames.{function_opens, needed}
use Rattle.literal_steps.proofs.ServedPackages.Served.{types_served, body_served, types_away, packages_serve}
use Rattle.standing_files.proofs.UsesLinked.{use-linked}
use Rattle.standing_files.proofs.use_laws.called_packages_serve.Goals as goal

pub returns-clause-functions : goal.returns-clause-functions
returns-clause-functions g = λ x v a.
    function_opens x.same x.commented x.packages x.marks x.site x.becomes v x.members (use-linked x) a

pub returns-clause-needed : goal.returns-clause-needed
returns-clause-needed g = λ x v a k e.
    needed x.same x.commented x.packages x.marks x.site x.becomes v x.members (use-linked x) a k e

pub returns-clause-served : goal.returns-clause-served
returns-clause-served g = λ x v f c h. (
  types_served x.same x.commented x.packages x.marks x.site x.becomes v x.members (use-linked x) f c h,
  body_served x.same x.commented x.packages x.marks x.site x.becomes v x.members (use-linked x) f c h,
)

pub returns-clause-own : goal.returns-clause-own
returns-clause-own g = λ x v f c h. (
  types_away x.same x.commented x.packages x.marks x.site x.becomes v x.members (use-linked x) f c h,
  packages_serve x.same x.commented x.packages x.marks x.site x.becomes v x.members (use-linked x) f c h,
)
