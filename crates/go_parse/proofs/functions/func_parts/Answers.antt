use Rattle.go_tree.specs.View.{block_of}
use Rattle.go_productions.specs.Cursors.{ahead}
use Rattle.go_parse.proofs.FunctionSteps.{parts_none, parts_without_sig, parts_without_body, parts_some}
use Rattle.go_parse.proofs.functions.func_parts.Goals as goal

pub returns-in_default : goal.returns-in_default
returns-in_default c = record { gives = parts_none _ _ _ c.first.ensures.is c.in_default.not-Ident; shorter = tt }

pub returns-in_default-2-clause-gives : goal.returns-in_default-2-clause-gives
returns-in_default-2-clause-gives c = parts_without_sig _ _ _ c.in-Ident.ensures.is c.rest.ensures.is (rw c.in_default-2.is at c.in_ok-sig.ensures.gives)

pub returns-in_default-3-clause-gives : goal.returns-in_default-3-clause-gives
returns-in_default-3-clause-gives c =
    parts_without_body _ _ _ _ _ c.in-Ident.ensures.is c.rest.ensures.is (rw c.in-Some.is at c.in_ok-sig.ensures.gives) (rw c.in_default-3.is at c.in_ok-body.ensures.gives)

pub returns-clause-gives : goal.returns-clause-gives
returns-clause-gives c =
    parts_some _ _ (ahead c.rest.result) _ _ (ahead c.in-Some.after) (block_of c.in-Some-2.body) _ c.in-Ident.ensures.is c.rest.ensures.is (rw c.in-Some.is at c.in_ok-sig.ensures.gives)
    (rw c.in-Some-2.is at c.in_ok-body.ensures.gives) c.in_ok-name.ensures
