use Rattle.std.proofs.Common.{drop}
use Rattle.header_order.specs.FirstImports.Firsts.{AddsRest, tagged}
use Rattle.header_order.proofs.first_imports.firsts.add_files.Given as goal

abbrev pub invariant-loop-file : goal.invariant-loop-file
invariant-loop-file l =
    AddsRest l.packages l.blocks l.used (tagged l.home l.files) (tagged l.home (drop l.file-index l.files))
    l.initial.firsts.items l.firsts.items
