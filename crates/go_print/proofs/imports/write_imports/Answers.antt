use Rattle.std.proofs.Common.{◌++◌, ap, ◌∙◌}
use Rattle.go_tree.specs.FileView.{import_decl_of}
use Rattle.go_layout.specs.FileLayout.{import_layout}
use Rattle.go_print.proofs.Steps.{done}
use Rattle.go_print.proofs.FileParts.{paragraph_part, paragraphs_all}
use Rattle.go_print.proofs.imports.write_imports.Goals as goal

pub returns : goal.returns
returns c =
    done import_decl_of (paragraph_part import_layout) _ _ _ _ c.loop-decl-test.false c.loop-decl.invariant
    ∙ ap (λ ys. c.args.out.now.items ++ ys) (paragraphs_all import_layout _)
