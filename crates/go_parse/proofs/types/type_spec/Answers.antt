use Rattle.std.proofs.Common.{sym, ◌∙◌}
use Rattle.go_productions.specs.Cursors.{ahead}
use Rattle.go_parse.proofs.Firsts.{equals_yes, equals_off}
use Rattle.go_parse.proofs.TypeSteps.{spec_alias, spec_defined, spec_none}
use Rattle.go_parse.proofs.types.type_spec.Goals as goal

pub returns-in_default : goal.returns-in_default
returns-in_default c = record { gives = spec_none _ _ c.first.ensures.is c.in_default.not-Ident; shorter = tt }

pub returns-then-alias-clause-gives : goal.returns-then-alias-clause-gives
returns-then-alias-clause-gives c =
    rw (spec_alias (ahead c.args.tokens) _ (ahead c.rest-after.result) (ahead c.rest.result) c.in-Ident.ensures.is c.in_ok-name.ensures c.rest-after.ensures.is
    (c.first-2.ensures.is ∙ equals_yes c.first-2.result (sym c.is_equals-alias.ensures ∙ c.if-alias.true)) c.rest.ensures.is) c.spec_type.ensures.gives

pub returns-else-alias-clause-gives : goal.returns-else-alias-clause-gives
returns-else-alias-clause-gives c =
    rw (spec_defined (ahead c.args.tokens) _ (ahead c.rest-after.result) c.first-2.result c.in-Ident.ensures.is c.in_ok-name.ensures c.rest-after.ensures.is c.first-2.ensures.is
    (equals_off c.first-2.result (sym c.is_equals-alias.ensures ∙ c.if-alias.false))) c.spec_type-else-alias.ensures.gives
