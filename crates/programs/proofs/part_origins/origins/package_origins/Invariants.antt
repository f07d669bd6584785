use Rattle.std.proofs.Common.{◌≡◌, ◌++◌, drop, map}
use Rattle.pkg_graph.specs.Views.{source_of}
use Rattle.programs.specs.PartOrigins.Spans.{files_spans}
use Rattle.programs.specs.PartOrigins.Views.{origins_of}
use Rattle.programs.proofs.part_origins.origins.package_origins.Given as goal

abbrev pub invariant-loop-source : goal.invariant-loop-source
invariant-loop-source l =
    map origins_of l.origins.items ++ files_spans (map source_of (drop l.source-index l.files))
    ≡ files_spans (map source_of l.files)
