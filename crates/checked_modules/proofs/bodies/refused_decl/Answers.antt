use Rattle.std.proofs.Common.{ap, sym, subst}
use Rattle.go_tree.specs.FileView.{decl_of, func_of}
use Rattle.operand_modes.proofs.OperandAnswers.KeptLemmas.{keeps_self}
use Rattle.checked_modules.specs.Bodies.{refused_decl}
use Rattle.checked_modules.specs.FunctionBodies.Walked.{IsWalkedDecl}
use Rattle.checked_modules.proofs.BodyLemmas.{body_refused, body_typed}
use Rattle.checked_modules.proofs.bodies.refused_decl.Goals as goal

pub body_is_typed-requires-clause-walked : goal.body_is_typed-requires-clause-walked
body_is_typed-requires-clause-walked c = subst (λ d. IsWalkedDecl (decl_of d)) c.in-Func.is c.requires.walked

pub returns-then-typed-clause-found : goal.returns-then-typed-clause-found
returns-then-typed-clause-found c =
    λ w x same place.
    body_typed w x c.args.scope.now c.args.decl.now (func_of c.in-Func.function) (ap decl_of c.in-Func.is)
    c.in_ok-typed-in-Func.typed (λ h file. c.in_ok-typed-in-Func.ensures.found w h same file) place c.if-typed.true

pub returns-else-typed-clause-found : goal.returns-else-typed-clause-found
returns-else-typed-clause-found c =
    λ w x same place.
    body_refused w x c.args.scope.now c.args.decl.now (func_of c.in-Func.function) (ap decl_of c.in-Func.is)
    c.in_ok-typed-in-Func.typed (λ h file. c.in_ok-typed-in-Func.ensures.found w h same file) place c.if-typed.false

pub returns-in-Const-clause-keeps : goal.returns-in-Const-clause-keeps
returns-in-Const-clause-keeps c = keeps_self c.args.tables.now

pub returns-in-Const-clause-found : goal.returns-in-Const-clause-found
returns-in-Const-clause-found c = λ w x same place. sym (ap (λ d. refused_decl w x (decl_of d)) c.in-Const.is)

pub returns-in-Var-clause-keeps : goal.returns-in-Var-clause-keeps
returns-in-Var-clause-keeps c = keeps_self c.args.tables.now

pub returns-in-Var-clause-found : goal.returns-in-Var-clause-found
returns-in-Var-clause-found c = λ w x same place. sym (ap (λ d. refused_decl w x (decl_of d)) c.in-Var.is)

pub returns-in-Types-clause-keeps : goal.returns-in-Types-clause-keeps
returns-in-Types-clause-keeps c = keeps_self c.args.tables.now

pub returns-in-Types-clause-found : goal.returns-in-Types-clause-found
returns-in-Types-clause-found c = λ w x same place. sym (ap (λ d. refused_decl w x (decl_of d)) c.in-Types.is)
