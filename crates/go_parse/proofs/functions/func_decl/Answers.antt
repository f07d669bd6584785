use Rattle.go_productions.specs.Cursors.{ahead}
use Rattle.go_parse.proofs.FunctionSteps.{decl_method, decl_func}
use Rattle.go_parse.proofs.functions.func_decl.Goals as goal

pub returns-in-Paren-clause-gives : goal.returns-in-Paren-clause-gives
returns-in-Paren-clause-gives c = rw (decl_method (ahead c.args.tokens) (ahead c.rest-inner.result) (ahead c.rest.result) c.rest-inner.ensures.is c.in-Paren.ensures.is c.rest.ensures.is) c.method.ensures.gives

pub returns-in_default-clause-gives : goal.returns-in_default-clause-gives
returns-in_default-clause-gives c =
    rw (decl_func (ahead c.args.tokens) (ahead c.rest-inner.result) c.first.result c.rest-inner.ensures.is c.first.ensures.is c.in_default.not-Paren) c.function.ensures.gives
