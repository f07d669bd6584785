use Rattle.package_blocks.proofs.FuncHeaders.HeaderSteps.{header_answered}
use Rattle.package_blocks.proofs.func_headers.headers.declare_header.Goals as goal

pub returns-else-not-header-clause-set : goal.returns-else-not-header-clause-set
returns-else-not-header-clause-set c =
    header_answered c.args.packages.now c.args.files.now c.args.header.now c.args.types.now c.declare_in_file.new.types
    c.args.blocks.now c.declare_in_file.new.blocks c.in-Some.function.now c.declare_in_file.result c.in-Some.ensures
    c.declare_in_file.ensures.grown c.if-not-header.false c.declare_in_file.ensures.set
