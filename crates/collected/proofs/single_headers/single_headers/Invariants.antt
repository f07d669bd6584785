use Rattle.std.proofs.Common.{◌≡◌, ◌++◌, drop, map}
use Rattle.package_blocks.specs.Headers.{listed_of}
use Rattle.collected.specs.SingleHeaders.Singles.{listed_by_names, listed_single}
use Rattle.collected.proofs.single_headers.single_headers.Given as goal

abbrev pub invariant-loop-index : goal.invariant-loop-index
invariant-loop-index l =
    map listed_single l.singles.items ++ listed_by_names (map listed_of (drop l.index l.headers))
    ≡ listed_by_names (map listed_of l.headers)
