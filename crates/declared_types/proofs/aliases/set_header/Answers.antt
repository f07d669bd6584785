use Rattle.declared_types.proofs.Passed.{closed_nowhere, closed_step, file_gone, file_there, found_step, places_on}
use Rattle.declared_types.proofs.aliases.set_header.Goals as goal

pub returns-in-Some-clause-known : goal.returns-in-Some-clause-known
returns-in-Some-clause-known c =
    places_on c.args.types.now c.set_type.new.types c.args.blocks.now c.set_type.new.blocks c.args.files.now
    c.requires.known c.set_type.ensures.grown c.set_type.ensures.known.members

pub returns-in-Some-clause-found : goal.returns-in-Some-clause-found
returns-in-Some-clause-found c =
    found_step c.args.files.now c.args.header.now c.args.types.now c.set_type.new.types c.args.blocks.now
    c.set_type.new.blocks c.in-Some.file.now
    (file_there c.args.files.now c.args.header.now.file c.in-Some.file.now c.in-Some.ensures.lookup.0 c.in-Some.ensures.lookup.1)
    c.set_type.result c.requires.known.members
    c.set_type.ensures.grown c.set_type.ensures.set c.set_type.ensures.unset c.set_type.ensures.same

pub returns-in-Some-clause-closed : goal.returns-in-Some-clause-closed
returns-in-Some-clause-closed c =
    closed_step c.args.files.now c.args.header.now c.args.types.now c.set_type.new.types c.args.blocks.now
    c.set_type.new.blocks c.in-Some.file.now
    (file_there c.args.files.now c.args.header.now.file c.in-Some.file.now c.in-Some.ensures.lookup.0 c.in-Some.ensures.lookup.1)
    c.set_type.result c.set_type.ensures.closed

pub returns-in-None-clause-closed : goal.returns-in-None-clause-closed
returns-in-None-clause-closed c =
    λ q. closed_nowhere c.args.files.now c.args.header.now c.args.types.now c.args.blocks.now
    (file_gone c.args.files.now c.args.header.now.file c.in-None.ensures.lookup.0)
