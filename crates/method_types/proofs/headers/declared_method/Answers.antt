use Rattle.std.proofs.Common.{None, subst, sym}
use Rattle.declared_types.proofs.Passed.{file_gone, file_there, knows_types, places_on}
use Rattle.method_types.specs.Steps.{TypesHeader}
use Rattle.method_types.proofs.TypeSteps.{header_answered, no_file, not_new}
use Rattle.method_types.proofs.headers.declared_method.Goals as goal

pub returns-then-not-new-clause-gives : goal.returns-then-not-new-clause-gives
returns-then-not-new-clause-gives c =
    let e = c.args.types.now in
    subst (λ b. TypesHeader e e c.args.blocks.now c.args.files.now c.args.header.now b None) (sym c.if-not-new.true)
    (not_new e e c.args.blocks.now c.args.files.now c.args.header.now)

pub typed_method-requires-clause-known : goal.typed_method-requires-clause-known
typed_method-requires-clause-known c =
    knows_types c.args.types.now c.args.blocks.now c.args.files.now c.requires.known c.args.header.now.file
    c.in-Some-get.scope.now
    (file_there c.args.files.now c.args.header.now.file c.in-Some-get.scope.now c.in-Some-get.ensures.lookup.0
    c.in-Some-get.ensures.lookup.1)

pub returns-in-Some-get-clause-known : goal.returns-in-Some-get-clause-known
returns-in-Some-get-clause-known c =
    places_on c.args.types.now c.typed_method.new.types c.args.blocks.now c.args.blocks.now c.args.files.now
    c.requires.known c.typed_method.ensures.grown c.typed_method.ensures.known.members

pub returns-in-Some-get-clause-gives : goal.returns-in-Some-get-clause-gives
returns-in-Some-get-clause-gives c =
    header_answered c.args.types.now c.typed_method.new.types c.args.blocks.now c.args.files.now c.args.header.now
    c.in-Some.method c.in-Some-get.scope.now c.args.new c.typed_method.result c.if-not-new.false c.in-Some.ensures
    (file_there c.args.files.now c.args.header.now.file c.in-Some-get.scope.now c.in-Some-get.ensures.lookup.0
    c.in-Some-get.ensures.lookup.1)
    c.typed_method.ensures.gives

pub returns-in-None-get-clause-gives : goal.returns-in-None-get-clause-gives
returns-in-None-get-clause-gives c =
    no_file c.args.types.now c.args.types.now c.args.blocks.now c.args.files.now c.args.header.now
    (file_gone c.args.files.now c.args.header.now.file c.in-None-get.ensures.lookup.0) c.args.new None
