use Rattle.std.proofs.Common.{◌≡◌, drop, map}
use Rattle.std.specs.List.{list_all}
use Rattle.go_tree.specs.FileView.{import_decl_of, file_of}
use Rattle.run_plans.specs.PlannedModules.Modules.{named_apart, imports_apart}
use Rattle.run_plans.proofs.planned_modules.names.imports_apart.Given as goal

abbrev pub invariant-loop-decl : goal.invariant-loop-decl
invariant-loop-decl l =
    list_all (λ d. list_all named_apart d.specs) (map import_decl_of (drop l.decl-index l.decl-items)) ≡ imports_apart (file_of l.tree)
