use Rattle.go_parse.proofs.ImportSteps.{path_none, path_is}
use Rattle.go_parse.proofs.imports.import_path.Goals as goal

pub returns-in_default : goal.returns-in_default
returns-in_default c = record { gives = path_none _ _ _ _ c.first.ensures.is c.in_default.not-StrLit; shorter = tt }

pub returns-clause-gives : goal.returns-clause-gives
returns-clause-gives c = path_is _ _ _ _ _ _ c.in-StrLit.ensures.is c.rest-after.ensures.is c.span_to-span.ensures c.in_ok-path.ensures
