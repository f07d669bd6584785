use Rattle.std.proofs.Common.{◌++◌, refl, ap, ◌∙◌}
use Rattle.go_tree.specs.FileView.{import_spec_of}
use Rattle.go_layout.specs.FileLayout.{import_spec_layout}
use Rattle.go_print.proofs.Steps.{done, step}
use Rattle.go_print.proofs.FileParts.{line_part, lines_all}
use Rattle.go_print.proofs.imports.write_import_specs.Goals as goal

pub loop-i-preserved : goal.loop-i-preserved
loop-i-preserved c = step import_spec_of (line_part import_spec_layout c.args.indent.now) _ _ _ _ _ _ _ _ _ c.loop-i-test.true c.index-items-i.is c.loop-i.invariant c.in_ok-write_import_spec.ensures c.in_ok-write_line_if.ensures refl

pub returns : goal.returns
returns c =
    done import_spec_of (line_part import_spec_layout c.args.indent.now) _ _ _ _ c.loop-i-test.false c.loop-i.invariant
    ∙ ap (λ ys. c.args.out.now.items ++ ys) (lines_all import_spec_layout c.args.indent.now _)
