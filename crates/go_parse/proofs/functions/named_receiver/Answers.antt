use Rattle.std.proofs.Common.{sym, ◌∙◌}
use Rattle.go_tree.specs.declared.operators.BinOp.TheVariants.{Mul}
use Rattle.go_productions.specs.Cursors.{ahead}
use Rattle.go_tree.specs.declared.go_words.terminals.Terminal.TheVariants as code
use Rattle.go_parse.proofs.Firsts.{apart, star_yes, star_off}
use Rattle.go_parse.proofs.FunctionSteps.{named_is, named_pointer_is, plain_is, starred_is}
use Rattle.go_parse.proofs.functions.named_receiver.Goals as goal

pub returns-in_default-clause-gives : goal.returns-in_default-clause-gives
returns-in_default-clause-gives c =
    rw (starred_is (ahead c.args.tokens) (ahead c.rest-second.result) (ahead c.rest-third.result) c.first-then-starred.result c.requires c.rest-second.ensures.is
    (c.first.ensures.is ∙ star_yes c.first.result (sym c.is_star-starred.ensures ∙ c.if-starred.true)) c.rest-third.ensures.is c.first-then-starred.ensures.is c.in_default.not-Ident) c.receiver_from.ensures.gives

pub returns-then-starred-clause-gives : goal.returns-then-starred-clause-gives
returns-then-starred-clause-gives c =
    rw (named_pointer_is (ahead c.args.tokens) _ (ahead c.rest-second.result) (ahead c.rest-third.result) c.requires c.rest-second.ensures.is
    (c.first.ensures.is ∙ star_yes c.first.result (sym c.is_star-starred.ensures ∙ c.if-starred.true)) c.rest-third.ensures.is c.in-Ident.ensures.is c.in_ok-own.ensures) c.receiver_from-then-starred.ensures.gives

pub returns-in_default-first-clause-gives : goal.returns-in_default-first-clause-gives
returns-in_default-first-clause-gives c =
    rw (plain_is (ahead c.args.tokens) (ahead c.rest-second.result) c.requires c.rest-second.ensures.is
    (apart (ahead c.rest-second.result) _ code.Ident c.first-2.ensures.is c.in_default-first.not-Ident)
    (apart (ahead c.rest-second.result) _ (code.Binary Mul) c.first.ensures.is (star_off c.first.result (sym c.is_star-starred.ensures ∙ c.if-starred.false)))) c.receiver_from-in_default-first.ensures.gives

pub returns-clause-gives : goal.returns-clause-gives
returns-clause-gives c =
    rw (named_is (ahead c.args.tokens) _ (ahead c.rest-second.result) c.requires c.rest-second.ensures.is c.in-Ident-first.ensures.is c.in_ok-own-2.ensures) c.receiver_from-2.ensures.gives
