use Rattle.std.proofs.Common.{◌≡◌, drop, map}
use Rattle.std.specs.List.{list_all}
use Rattle.go_tree.specs.FileView.{import_spec_of}
use Rattle.run_plans.specs.PlannedModules.Modules.{named_apart}
use Rattle.run_plans.proofs.planned_modules.names.specs_apart.Given as goal

abbrev pub invariant-loop-spec : goal.invariant-loop-spec
invariant-loop-spec l =
    list_all named_apart (map import_spec_of (drop l.spec-index l.specs)) ≡ list_all named_apart (map import_spec_of l.specs)
