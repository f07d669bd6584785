use Rattle.std.proofs.Common.{◌≡◌, ◌++◌, drop, map}
use Rattle.go_tree.specs.FileView.{import_spec_of}
use Rattle.go_layout.specs.FileLayout.{import_spec_layout}
use Rattle.go_print.proofs.Steps.{all}
use Rattle.go_print.proofs.FileParts.{line_part}
use Rattle.go_print.proofs.imports.write_import_specs.Given as goal

abbrev pub invariant-loop-i : goal.invariant-loop-i
invariant-loop-i l =
    let part = line_part import_spec_layout l.indent in
    l.out.items ++ all part (map import_spec_of (drop l.i l.items)) ≡ l.initial.out.items ++ all part (map import_spec_of l.items)
