use Rattle.std.proofs.Common.{◌≡◌, ◌++◌, drop, map}
use Rattle.pkg_graph.specs.Members.{files_from, package_block}
use Rattle.pkg_graph.specs.Views.{package_view, source_of}
use Rattle.file_names.specs.Members.{member_of}
use Rattle.file_names.proofs.members.block_members.Given as goal

abbrev pub invariant-loop-file : goal.invariant-loop-file
invariant-loop-file l =
    map member_of l.members.items ++ files_from l.number l.file (map source_of (drop l.file l.source-items))
    ≡ package_block l.number (package_view l.home)
