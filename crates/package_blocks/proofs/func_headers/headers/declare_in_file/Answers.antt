use Rattle.declared_types.proofs.Passed.{file_gone, file_there, places_on}
use Rattle.package_blocks.proofs.FuncHeaders.HeaderSteps.{file_set, no_file_set}
use Rattle.package_blocks.proofs.func_headers.headers.declare_in_file.Goals as goal

pub returns-in-Some-clause-known : goal.returns-in-Some-clause-known
returns-in-Some-clause-known c =
    places_on c.args.types.now c.declare_function.new.types c.args.blocks.now c.declare_function.new.blocks
    c.args.files.now c.requires.known c.declare_function.ensures.grown c.declare_function.ensures.known.members

pub returns-in-Some-clause-set : goal.returns-in-Some-clause-set
returns-in-Some-clause-set c =
    file_set c.args.packages.now c.args.files.now c.args.file c.args.types.now c.declare_function.new.types
    c.args.blocks.now c.declare_function.new.blocks c.args.function.now c.in-Some.scope.now c.is_main-in_main.result
    c.declare_function.result
    (file_there c.args.files.now c.args.file c.in-Some.scope.now c.in-Some.ensures.lookup.0 c.in-Some.ensures.lookup.1)
    c.is_main-in_main.ensures c.declare_function.ensures.set

pub returns-in-None-clause-set : goal.returns-in-None-clause-set
returns-in-None-clause-set c =
    no_file_set c.args.packages.now c.args.files.now c.args.file c.args.types.now c.args.blocks.now c.args.function.now
    (file_gone c.args.files.now c.args.file c.in-None.ensures.lookup.0)
