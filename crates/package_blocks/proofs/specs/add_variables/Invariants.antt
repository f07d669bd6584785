use Rattle.std.proofs.Common.{drop}
use Rattle.go_tree.specs.declared.stmts.VarDecl.{out-VarDecl}
use Rattle.package_blocks.specs.Headers.{HeadersAdded, variables_of}
use Rattle.package_blocks.proofs.specs.add_variables.Given as goal

abbrev pub invariant-loop-spec : goal.invariant-loop-spec
invariant-loop-spec l =
    HeadersAdded l.file.home l.file.file (variables_of (out-VarDecl l.decl).grouped (out-VarDecl l.decl).span l.spec-items)
    (variables_of (out-VarDecl l.decl).grouped (out-VarDecl l.decl).span (drop l.spec-index l.spec-items)) l.initial.blocks l.blocks
    l.initial.headers.items l.headers.items
