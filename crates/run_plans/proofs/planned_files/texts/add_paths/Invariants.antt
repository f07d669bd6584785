use Rattle.std.proofs.Common.{◌≡◌, ◌++◌, drop, map}
use Rattle.pkg_graph.specs.Views.{source_of}
use Rattle.run_plans.specs.PlannedFiles.Referred.{referred}
use Rattle.run_plans.proofs.planned_files.texts.add_paths.Given as goal

abbrev pub invariant-loop-file : goal.invariant-loop-file
invariant-loop-file l =
    referred l.paths.items ++ map (λ f. f.path) (map source_of (drop l.file-index l.files))
    ≡ referred l.initial.paths.items ++ map (λ f. f.path) (map source_of l.files)
