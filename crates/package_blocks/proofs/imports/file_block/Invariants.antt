use Rattle.std.proofs.Common.{[], take}
use Rattle.package_blocks.specs.Imports.{AddsImports, linked_decls}
use Rattle.package_blocks.proofs.imports.file_block.Given as goal

abbrev pub invariant-loop-decl : goal.invariant-loop-decl
invariant-loop-decl l =
    AddsImports l.blocks l.home (linked_decls l.packages (take l.decl-index l.decl-items)) [] l.block
