use Rattle.method_types.proofs.RefusedLaws.{aside, refused_by_types}
use Rattle.method_types.proofs.laws.refused_by_types.Goals as goal

pub returns-clause-refused : goal.returns-clause-refused
returns-clause-refused c = refused_by_types

pub returns-clause-aside : goal.returns-clause-aside
returns-clause-aside c = aside
