use Rattle.std.proofs.Common.{◌++◌, map, refl, ap, ◌∙◌}
use Rattle.go_tree.specs.View.{name_at_of}
use Rattle.go_layout.specs.Layouts.{text_of}
use Rattle.go_layout.specs.TypeLayout.{names_layout}
use Rattle.go_print.proofs.Steps.{done, step}
use Rattle.go_print.proofs.Lists.{name_part, names_all}
use Rattle.go_print.proofs.types.write_names.Goals as goal

pub loop-i-preserved : goal.loop-i-preserved
loop-i-preserved c = step name_at_of name_part _ _ _ _ _ _ _ _ _ c.loop-i-test.true c.index-items-i.is c.loop-i.invariant c.in_ok-write_name.ensures c.in_ok-write_if.ensures refl

pub returns : goal.returns
returns c =
    done name_at_of name_part _ _ _ _ c.loop-i-test.false c.loop-i.invariant
    ∙ ap (λ ys. c.args.out.now.items ++ ys) (names_all _ ∙ ap (λ l. text_of (names_layout (map name_at_of l))) c.items-items.ensures)
