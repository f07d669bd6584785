use Rattle.std.proofs.Common.{sym, ◌∙◌}
use Rattle.go_tree.specs.declared.operators.BinOp.TheVariants.{Mul}
use Rattle.go_productions.specs.Cursors.{ahead}
use Rattle.go_tree.specs.declared.go_words.terminals.Terminal.TheVariants as code
use Rattle.go_parse.proofs.Firsts.{apart, star_yes, star_off}
use Rattle.go_parse.proofs.FunctionSteps.{pointer_is, pointer_none, receiver_none}
use Rattle.go_parse.proofs.functions.receiver.Goals as goal

pub returns-in_default : goal.returns-in_default
returns-in_default c = record {
  gives = pointer_none _ (ahead c.rest-second.result) _ (c.first.ensures.is ∙ star_yes c.first.result (sym c.is_star-starred.ensures ∙ c.if-starred.true)) c.rest-second.ensures.is c.first-then-starred.ensures.is c.in_default.not-Ident;
  shorter = tt;
}

pub returns-then-starred-clause-gives : goal.returns-then-starred-clause-gives
returns-then-starred-clause-gives c =
    rw (pointer_is (ahead c.args.tokens) (ahead c.rest-second.result) (c.first.ensures.is ∙ star_yes c.first.result (sym c.is_star-starred.ensures ∙ c.if-starred.true)) c.rest-second.ensures.is c.in-Ident.ensures.is)
    c.receiver_from.ensures.gives

pub returns-in_default-first : goal.returns-in_default-first
returns-in_default-first c = record {
  gives = receiver_none _ (apart (ahead c.args.tokens) _ code.Ident c.first-2.ensures.is c.in_default-first.not-Ident)
      (apart (ahead c.args.tokens) _ (code.Binary Mul) c.first.ensures.is (star_off c.first.result (sym c.is_star-starred.ensures ∙ c.if-starred.false)));
  shorter = tt;
}
