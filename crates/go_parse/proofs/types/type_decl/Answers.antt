use Rattle.go_productions.specs.Cursors.{ahead}
use Rattle.go_parse.proofs.TypeSteps.{decl_grouped, decl_single}
use Rattle.go_parse.proofs.types.type_decl.Goals as goal

pub returns-in-Paren-clause-gives : goal.returns-in-Paren-clause-gives
returns-in-Paren-clause-gives c =
    rw (decl_grouped (ahead c.args.tokens) (ahead c.rest-inner.result) (ahead c.rest.result) c.rest-inner.ensures.is c.in-Paren.ensures.is c.rest.ensures.is) c.grouped_types.ensures.gives

pub returns-in_default-clause-gives : goal.returns-in_default-clause-gives
returns-in_default-clause-gives c =
    rw (decl_single (ahead c.args.tokens) (ahead c.rest-inner.result) c.first.result c.rest-inner.ensures.is c.first.ensures.is c.in_default.not-Paren) c.single_type.ensures.gives
