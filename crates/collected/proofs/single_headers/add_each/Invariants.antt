use Rattle.std.proofs.Common.{◌≡◌, ◌++◌, drop, map}
use Rattle.std.specs.Option.{option_map}
use Rattle.go_tree.specs.View.{type_of}
use Rattle.package_blocks.specs.Headers.{listed_of}
use Rattle.collected.specs.SingleHeaders.Singles.{listed_single}
use Rattle.collected.proofs.SingleHeaders.Added.{rest_of}
use Rattle.collected.proofs.single_headers.add_each.Given as goal

abbrev pub invariant-loop-place : goal.invariant-loop-place
invariant-loop-place l =
    map listed_single l.singles.items
    ++ rest_of (listed_of l.header) (option_map type_of l.of) l.number (drop l.place l.name-items) (drop l.place l.list)
    ≡ map listed_single l.initial.singles.items
    ++ rest_of (listed_of l.header) (option_map type_of l.of) l.number l.name-items l.list
