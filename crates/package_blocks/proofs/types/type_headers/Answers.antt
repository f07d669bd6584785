use Rattle.std.proofs.Common.{◌+◌, drop}
use Rattle.typed_names.proofs.TypeExprs.NewNames.{drop_all, drop_item}
use Rattle.package_blocks.specs.Types.{types_in}
use Rattle.package_blocks.proofs.TypeLemmas.{types_end, types_of_program, types_step}
use Rattle.package_blocks.proofs.types.type_headers.Goals as goal

pub loop-header-preserved : goal.loop-header-preserved
loop-header-preserved c =
    types_step (types_in c.args.headers.now) c.header-item.result (drop (c.loop-header.header-index + 1) c.args.headers.now)
    (drop c.loop-header.header-index c.args.headers.now) c.loop-header.types.items c.add_type.new.types.items
    (drop_item c.args.headers.now c.loop-header.header-index c.header-item.result c.loop-header-test.true c.header-item.is)
    c.loop-header.invariant c.in_ok-add_type.ensures

pub returns : goal.returns
returns c =
    λ ps files are.
    types_of_program ps files c.args.headers.now c.loop-header.types.items
    (types_end (types_in c.args.headers.now) (drop c.loop-header.header-index c.args.headers.now) c.loop-header.types.items
    (drop_all c.args.headers.now c.loop-header.header-index c.loop-header-test.false) c.loop-header.invariant)
    are
