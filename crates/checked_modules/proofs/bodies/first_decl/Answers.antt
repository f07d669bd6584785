use Rattle.std.proofs.Common.{map}
use Rattle.go_tree.specs.FileView.{decl_of}
use Rattle.operand_modes.proofs.OperandAnswers.KeptLemmas.{keeps_on}
use Rattle.checked_modules.proofs.BodyLemmas.{passing_end, passing_found, passing_more, passing_none, walked_at}
use Rattle.checked_modules.proofs.bodies.first_decl.Goals as goal

pub refused_decl-requires-clause-stands : goal.refused_decl-requires-clause-stands
refused_decl-requires-clause-stands c = c.loop-decl.invariant.stands

pub refused_decl-requires-clause-walked : goal.refused_decl-requires-clause-walked
refused_decl-requires-clause-walked c =
    walked_at c.args.decls.now c.loop-decl.decl-index c.decl-item.result c.loop-decl-test.true c.decl-item.is
    c.requires.walked

pub loop-decl-init : goal.loop-decl-init
loop-decl-init c =
    passing_none c.args.tables.now c.args.blocks.now c.args.scope.now (map decl_of c.args.decls.now) c.requires.stands

pub returns-in-Some-clause-keeps : goal.returns-in-Some-clause-keeps
returns-in-Some-clause-keeps c =
    keeps_on c.args.tables.now c.loop-decl.tables c.refused_decl.new.tables c.loop-decl.invariant.keeps
    c.in_ok-found.ensures.keeps

pub returns-in-Some-clause-found : goal.returns-in-Some-clause-found
returns-in-Some-clause-found c =
    passing_found c.args.tables.now c.loop-decl.tables c.args.blocks.now c.args.scope.now c.loop-decl.scope
    c.requires.stands c.args.decls.now c.loop-decl.decl-index c.loop-decl.invariant c.decl-item.result
    c.loop-decl-test.true c.decl-item.is c.in_ok-found.found c.in_ok-found.ensures.found c.in-Some.at c.in-Some.is

pub loop-decl-preserved : goal.loop-decl-preserved
loop-decl-preserved c =
    passing_more c.args.tables.now c.loop-decl.tables c.args.blocks.now c.args.scope.now c.loop-decl.scope
    c.requires.stands c.args.decls.now c.loop-decl.decl-index c.loop-decl.invariant c.decl-item.result
    c.loop-decl-test.true c.decl-item.is c.in_ok-found.found c.in_ok-found.ensures.found c.in-None.is
    c.refused_decl.new.tables c.refused_decl.new.scope c.in_ok-found.ensures.keeps c.in_ok-found.ensures.stands
    c.in_ok-found.ensures.same

pub returns-clause-stands : goal.returns-clause-stands
returns-clause-stands c = c.loop-decl.invariant.stands

pub returns-clause-keeps : goal.returns-clause-keeps
returns-clause-keeps c = c.loop-decl.invariant.keeps

pub returns-clause-found : goal.returns-clause-found
returns-clause-found c =
    passing_end c.args.tables.now c.loop-decl.tables c.args.blocks.now c.args.scope.now c.loop-decl.scope
    c.requires.stands c.args.decls.now c.loop-decl.decl-index c.loop-decl.invariant c.loop-decl-test.false
