use Rattle.go_productions.specs.Cursors.{ahead}
use Rattle.go_parse.proofs.TextSteps.{texts_from}
use Rattle.go_parse.proofs.ImportSteps.{import_grouped, import_single, import_none}
use Rattle.go_parse.proofs.imports.import.Goals as goal

pub returns-in_default : goal.returns-in_default
returns-in_default c = record { gives = import_none _ _ c.first.ensures.is c.in_default.not-Import; shorter = tt }

pub grouped_import-requires : goal.grouped_import-requires
grouped_import-requires c = texts_from _ _ c.rest.ensures.is (texts_from _ _ c.rest-inner.ensures.is c.requires)

pub single_import-requires : goal.single_import-requires
single_import-requires c = texts_from _ _ c.rest-inner.ensures.is c.requires

pub returns-in-Paren-clause-gives : goal.returns-in-Paren-clause-gives
returns-in-Paren-clause-gives c =
    rw (import_grouped (ahead c.args.tokens) (ahead c.rest-inner.result) (ahead c.rest.result) c.in-Import.ensures.is c.rest-inner.ensures.is c.in-Paren.ensures.is c.rest.ensures.is) c.grouped_import.ensures.gives

pub returns-in_default-first-clause-gives : goal.returns-in_default-first-clause-gives
returns-in_default-first-clause-gives c =
    rw (import_single (ahead c.args.tokens) (ahead c.rest-inner.result) c.first-2.result c.in-Import.ensures.is c.rest-inner.ensures.is c.first-2.ensures.is c.in_default-first.not-Paren) c.single_import.ensures.gives
