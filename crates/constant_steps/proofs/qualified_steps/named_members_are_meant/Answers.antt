use Rattle.constant_steps.proofs.QualifiedSteps.MarkedTexts.{marked_names}
use Rattle.constant_steps.proofs.QualifiedSteps.MembersNamed.{member_meant}
use Rattle.constant_steps.proofs.QualifiedSteps.UsesNamed.{uses_named}
use Rattle.constant_steps.proofs.qualified_steps.named_members_are_meant.Goals as goal

pub returns-clause-members : goal.returns-clause-members
returns-clause-members c = λ rs w members v i p e m sound names spelled known. member_meant rs w members sound v i p e m names spelled known

pub returns-clause-marked : goal.returns-clause-marked
returns-clause-marked c = λ env t es q. marked_names env t es q

pub returns-clause-found : goal.returns-clause-found
returns-clause-found c = λ rs marks w p e m n q. uses_named rs marks w p e m n q
