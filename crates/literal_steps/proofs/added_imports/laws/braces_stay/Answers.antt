use Rattle.literal_steps.proofs.AddedImports.Braces.{called_inside, after_inside, braces_typed, braces_alike}
use Rattle.literal_steps.proofs.added_imports.laws.braces_stay.Goals as goal

pub returns-clause-places : goal.returns-clause-places
returns-clause-places g = λ same commented rs marks x u ms c d h a. (called_inside h, after_inside a)

pub returns-clause-typed : goal.returns-clause-typed
returns-clause-typed g = λ same commented rs marks x u v ms l f c d h a ss o k z b r y before. braces_typed same commented rs marks x u v ms l f c d h a ss o k z b r y before

pub returns-clause-terms : goal.returns-clause-terms
returns-clause-terms g = λ same commented rs marks x u v ms l f c d h a ss o z b r free A rank j y w. braces_alike same commented rs marks x u v ms l f c d h a ss o z b r free A rank j y w
