use Rattle.std.proofs.Common.{take}
use Rattle.package_blocks.specs.Imports.{AddsImports, linked_specs}
use Rattle.package_blocks.proofs.imports.add_specs.Given as goal

abbrev pub invariant-loop-spec : goal.invariant-loop-spec
invariant-loop-spec l =
    AddsImports l.blocks l.home (linked_specs l.packages (take l.spec-index l.specs)) l.initial.block l.block
