use Rattle.std.proofs.Common.{◌++◌, refl, ap, ◌∙◌}
use Rattle.go_tree.specs.FileView.{type_spec_of}
use Rattle.go_layout.specs.FileLayout.{type_spec_layout}
use Rattle.go_print.proofs.Steps.{done, step}
use Rattle.go_print.proofs.FileParts.{line_part, lines_all}
use Rattle.go_print.proofs.type_decls.write_type_specs.Goals as goal

pub loop-i-preserved : goal.loop-i-preserved
loop-i-preserved c = step type_spec_of (line_part type_spec_layout c.args.indent.now) _ _ _ _ _ _ _ _ _ c.loop-i-test.true c.index-items-i.is c.loop-i.invariant c.in_ok-write_type_spec.ensures c.in_ok-write_line_if.ensures refl

pub returns : goal.returns
returns c =
    done type_spec_of (line_part type_spec_layout c.args.indent.now) _ _ _ _ c.loop-i-test.false c.loop-i.invariant
    ∙ ap (λ ys. c.args.out.now.items ++ ys) (lines_all type_spec_layout c.args.indent.now _)
