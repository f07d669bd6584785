use Rattle.std.proofs.Common.{◌∙◌, subst, sym}
use Rattle.go_tree.specs.View.{sig_of}
use Rattle.func_types.specs.Answers.{func_of}
use Rattle.operand_modes.specs.OperandAnswers.Known.{Stands}
use Rattle.operand_modes.proofs.OperandAnswers.KeptLemmas.{stands_kept}
use Rattle.assignment_steps.proofs.DeclaredBlocks.BlockLemmas.{within_on}
use Rattle.checked_modules.specs.FunctionBodies.Receivers.{variable_binds}
use Rattle.checked_modules.specs.FunctionBodies.Starts.{body_start}
use Rattle.checked_modules.proofs.function_bodies.bodies.is_typed_as.Goals as goal

pub returns-clause-same : goal.returns-clause-same
returns-clause-same c =
    c.end.ensures c.args.scope.now
    (within_on c.args.scope.now c.begin_body.new.scope c.function_body.new.scope c.in_ok-block.ensures.within
    c.function_body.ensures.within)
    (c.function_body.ensures.start ∙ c.in_ok-block.ensures.start)

pub returns-clause-stands : goal.returns-clause-stands
returns-clause-stands c =
    subst (Stands c.function_body.new.tables c.args.blocks.now) (sym (returns-clause-same c))
    (stands_kept c.args.tables.now c.function_body.new.tables c.function_body.ensures.keeps c.args.blocks.now
    c.args.scope.now c.requires.stands c.function_body.ensures.stands.ready)

pub returns-clause-is : goal.returns-clause-is
returns-clause-is c =
    λ around t p.
    let k = c.args.tables.now in
    let g = sig_of c.args.function.now.sig in
    let f = func_of k.env c.args.of.now in
    c.in_ok-typed.ensures.is g f (body_start around (variable_binds k.env c.args.receiver.now) g f)
    (c.in_ok-block.ensures.place k c.args.blocks.now around t p) (c.in_ok-body.ensures.is k.env)
