use Rattle.checked_findings.proofs.FoundAlike.{found-alike, found_stmts-alike}
use Rattle.checked_findings.proofs.DeclarationsAlike.{declaration_found-alike}
use Rattle.checked_findings.proofs.laws.found_alike_where_free_names_mean_the_same.Goals as goal

pub returns-clause-expressions : goal.returns-clause-expressions
returns-clause-expressions c = λ at a x e m around g h. found-alike at a x e m around g h

pub returns-clause-statements : goal.returns-clause-statements
returns-clause-statements c = λ at rs a b m around g h. found_stmts-alike at rs a b m around g h

pub returns-clause-declarations : goal.returns-clause-declarations
returns-clause-declarations c = λ at w home imports more d g h. declaration_found-alike at w home imports more g d h
