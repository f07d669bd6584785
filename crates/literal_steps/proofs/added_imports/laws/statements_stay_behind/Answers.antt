use Rattle.literal_steps.proofs.AddedImports.StatementsBehind.{typed_behind, alike_behind}
use Rattle.literal_steps.proofs.added_imports.laws.statements_stay_behind.Goals as goal

pub returns-clause-typed : goal.returns-clause-typed
returns-clause-typed g = λ same commented rs marks x u v ms l f c d h a s n o k b r y before. typed_behind same commented rs marks x u v ms l f c d h a s n o k b r y before

pub returns-clause-terms : goal.returns-clause-terms
returns-clause-terms g = λ same commented rs marks x u v ms l f c d h a s n o b r free A rank j y z. alike_behind same commented rs marks x u v ms l f c d h a s n o b r free A rank j y z
