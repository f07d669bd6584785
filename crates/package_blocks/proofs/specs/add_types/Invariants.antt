use Rattle.std.proofs.Common.{drop}
use Rattle.package_blocks.specs.Headers.{HeadersAdded, type_headers}
use Rattle.package_blocks.proofs.specs.add_types.Given as goal

abbrev pub invariant-loop-spec : goal.invariant-loop-spec
invariant-loop-spec l =
    HeadersAdded l.file.home l.file.file (type_headers l.decl.grouped l.decl.span l.spec-items)
    (type_headers l.decl.grouped l.decl.span (drop l.spec-index l.spec-items)) l.initial.blocks l.blocks
    l.initial.headers.items l.headers.items
