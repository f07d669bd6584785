use Rattle.std.proofs.Common.{◌≡◌, ◌++◌, drop, map}
use Rattle.package_blocks.specs.Types.{seen_type_of, types_in}
use Rattle.package_blocks.proofs.types.type_headers.Given as goal

abbrev pub invariant-loop-header : goal.invariant-loop-header
invariant-loop-header l =
    types_in l.headers ≡ map seen_type_of l.types.items ++ types_in (drop l.header-index l.headers)
