use Rattle.std.proofs.Common.{◌+◌, drop}
use Rattle.package_blocks.specs.Headers.{FilesAdded}
use Rattle.package_blocks.specs.Collected.{decls_in}
use Rattle.package_blocks.proofs.collected.add_files.Given as goal

abbrev pub invariant-loop-i : goal.invariant-loop-i
invariant-loop-i l =
    FilesAdded l.home l.first (l.first + l.i) (decls_in l.files) (decls_in (drop l.i l.files)) l.initial.blocks l.blocks
    l.initial.headers.items l.headers.items
