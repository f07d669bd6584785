use Rattle.declared_types.proofs.Passed.{file_gone, file_there, knows_types, places_on}
use Rattle.finite_types.proofs.RefusedTypes.Passed.{open_nowhere, open_step, typed_step}
use Rattle.finite_types.proofs.refused_types.refuse.refuse_header.Goals as goal

pub refuse_type-requires-clause-known : goal.refuse_type-requires-clause-known
refuse_type-requires-clause-known c =
    knows_types c.args.types.now c.args.blocks.now c.args.files.now c.requires.known c.args.header.now.file
    c.in-Some.file.now
    (file_there c.args.files.now c.args.header.now.file c.in-Some.file.now c.in-Some.ensures.lookup.0 c.in-Some.ensures.lookup.1)

pub returns-in-Some-clause-known : goal.returns-in-Some-clause-known
returns-in-Some-clause-known c =
    places_on c.args.types.now c.refuse_type.new.types c.args.blocks.now c.refuse_type.new.blocks c.args.files.now
    c.requires.known c.refuse_type.ensures.grown c.refuse_type.ensures.known.members

pub returns-in-Some-clause-typed : goal.returns-in-Some-clause-typed
returns-in-Some-clause-typed c =
    typed_step c.args.files.now c.args.header.now c.args.tests.now.declared.items c.args.types.now
    c.refuse_type.new.types c.args.blocks.now c.refuse_type.new.blocks c.in-Some.file.now
    (file_there c.args.files.now c.args.header.now.file c.in-Some.file.now c.in-Some.ensures.lookup.0 c.in-Some.ensures.lookup.1)
    c.refuse_type.result c.requires.known.members c.refuse_type.ensures.grown c.requires.tested.finite.are
    c.refuse_type.ensures.refused c.refuse_type.ensures.unset c.refuse_type.ensures.same

pub returns-in-Some-clause-opens : goal.returns-in-Some-clause-opens
returns-in-Some-clause-opens c =
    open_step c.args.files.now c.args.header.now c.args.tests.now.declared.items c.args.types.now
    c.refuse_type.new.types c.args.blocks.now c.refuse_type.new.blocks c.in-Some.file.now
    (file_there c.args.files.now c.args.header.now.file c.in-Some.file.now c.in-Some.ensures.lookup.0 c.in-Some.ensures.lookup.1)
    c.refuse_type.result c.refuse_type.ensures.opens

pub returns-in-None-clause-opens : goal.returns-in-None-clause-opens
returns-in-None-clause-opens c =
    λ q. open_nowhere c.args.files.now c.args.header.now c.args.tests.now.declared.items c.args.types.now
    c.args.blocks.now (file_gone c.args.files.now c.args.header.now.file c.in-None.ensures.lookup.0)
