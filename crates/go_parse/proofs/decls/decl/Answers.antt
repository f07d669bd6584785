use Rattle.go_productions.specs.Cursors.{ahead}
use Rattle.go_parse.proofs.FileSteps.{const_on, var_on, type_on, func_on, top_none}
use Rattle.go_parse.proofs.decls.decl.Goals as goal

pub returns-in-Const-clause-gives : goal.returns-in-Const-clause-gives
returns-in-Const-clause-gives c = rw (const_on (ahead c.args.tokens) c.in-Const.ensures.is) c.const_decl.ensures.gives

pub returns-in-Var-clause-gives : goal.returns-in-Var-clause-gives
returns-in-Var-clause-gives c = rw (var_on (ahead c.args.tokens) c.in-Var.ensures.is) c.var_decl.ensures.gives

pub returns-in-Type-clause-gives : goal.returns-in-Type-clause-gives
returns-in-Type-clause-gives c = rw (type_on (ahead c.args.tokens) c.in-Type.ensures.is) c.type_decl.ensures.gives

pub returns-in-Func-clause-gives : goal.returns-in-Func-clause-gives
returns-in-Func-clause-gives c = rw (func_on (ahead c.args.tokens) c.in-Func.ensures.is) c.func_decl.ensures.gives

pub returns-in_default : goal.returns-in_default
returns-in_default c = record { gives = top_none _ _ c.first.ensures.is c.in_default.not-Const c.in_default.not-Var c.in_default.not-Type c.in_default.not-Func; shorter = tt }
