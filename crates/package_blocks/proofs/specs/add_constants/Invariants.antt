use Rattle.std.proofs.Common.{None, drop}
use Rattle.go_tree.specs.declared.stmts.ConstDecl.{out-ConstDecl}
use Rattle.package_blocks.specs.Headers.{HeadersAdded, constants_of}
use Rattle.package_blocks.proofs.specs.add_constants.Given as goal

abbrev pub invariant-loop-number : goal.invariant-loop-number
invariant-loop-number l =
    HeadersAdded l.file.home l.file.file (constants_of (out-ConstDecl l.decl).grouped (out-ConstDecl l.decl).span None 0 l.spec-items)
    (constants_of (out-ConstDecl l.decl).grouped (out-ConstDecl l.decl).span l.repeats l.number (drop l.number l.spec-items)) l.initial.blocks l.blocks
    l.initial.headers.items l.headers.items
