use Rattle.std.proofs.Common.{take}
use Rattle.package_blocks.specs.Collected.{AddsScopes}
use Rattle.package_blocks.proofs.collected.add_scopes.Given as goal

abbrev pub invariant-loop-file : goal.invariant-loop-file
invariant-loop-file l =
    AddsScopes l.packages l.blocks l.home (take l.file-index l.files) l.initial.scopes.items l.scopes.items
