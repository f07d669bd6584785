use Rattle.go_productions.specs.Cursors.{ahead}
use Rattle.go_parse.proofs.TextSteps.{texts_from}
use Rattle.go_parse.proofs.ImportSteps.{spec_plain, spec_named}
use Rattle.go_parse.proofs.imports.import_spec.Goals as goal

pub returns-in_default : goal.returns-in_default
returns-in_default c = record { gives = rw (spec_plain (ahead c.args.tokens) _ c.first.ensures.is c.in_default.not-Ident) c.import_path.ensures.gives; shorter = c.import_path.ensures.shorter }

pub import_path-requires-2 : goal.import_path-requires-2
import_path-requires-2 c = texts_from _ _ c.rest.ensures.is c.requires

pub returns-clause-gives : goal.returns-clause-gives
returns-clause-gives c =
    rw (spec_named (ahead c.args.tokens) _ (ahead c.rest.result) c.in-Ident.ensures.is c.in_ok-name.ensures c.rest.ensures.is) c.import_path-2.ensures.gives
