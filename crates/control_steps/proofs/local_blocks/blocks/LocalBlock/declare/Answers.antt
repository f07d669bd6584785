use Rattle.std.proofs.Common.{◌∙◌, sym}
use Rattle.control_steps.proofs.LocalBlocks.PlaceLemmas.{blank_declared, declared_answered, name_stands, name_within, within_self}
use Rattle.control_steps.proofs.local_blocks.blocks.LocalBlock.declare.Goals as goal

pub returns-then-is_blank-clause-declared : goal.returns-then-is_blank-clause-declared
returns-then-is_blank-clause-declared c =
    λ e cs bs env p.
    blank_declared e cs bs c.args.scope.now c.args.self.now.names env p c.args.name.now c.args.entity
    (sym c.is_blank.ensures ∙ c.if-is_blank.true)

pub returns-then-is_blank-clause-within : goal.returns-then-is_blank-clause-within
returns-then-is_blank-clause-within c = within_self c.args.scope.now

pub returns-in_err-add_name-clause-within : goal.returns-in_err-add_name-clause-within
returns-in_err-add_name-clause-within c = within_self c.args.scope.now

pub returns-clause-declared : goal.returns-clause-declared
returns-clause-declared c =
    declared_answered c.args.scope.now c.args.self.now.names c.add_name.new.names c.args.name.now c.args.entity
    c.push.new.self c.push.result (sym c.is_blank.ensures ∙ c.if-is_blank.false) c.push.ensures.added c.in_ok-add_name.ensures

pub returns-clause-stands : goal.returns-clause-stands
returns-clause-stands c =
    name_stands c.args.scope.now c.args.name.now c.args.entity c.push.new.self c.push.result c.push.ensures.added
    c.push.ensures.same

pub returns-clause-within : goal.returns-clause-within
returns-clause-within c =
    name_within c.args.scope.now c.args.name.now c.args.entity c.push.new.self c.push.result c.push.ensures.added
    c.push.ensures.same
