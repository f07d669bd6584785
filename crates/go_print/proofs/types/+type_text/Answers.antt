use Rattle.std.proofs.Common.{◌++◌, refl, sym, ap, ◌∙◌}
use Rattle.go_tree.specs.View.{field_of}
use Rattle.go_layout.specs.Layouts.{text_of}
use Rattle.go_layout.specs.TypeLayout.{fields_layout}
use Rattle.go_print.proofs.Steps.{done, step}
use Rattle.go_print.proofs.Lists.{field_part, fields_all}
use Rattle.go_print.proofs.types.+type_text.Goals as goal

pub write_fields-loop-i-preserved : goal.write_fields-loop-i-preserved
write_fields-loop-i-preserved t c = step field_of field_part _ _ _ _ _ _ _ _ _ c.loop-i-test.true c.index-items-i.is c.loop-i.invariant c.in_ok-write_field.ensures c.in_ok-write_if.ensures refl

pub write_fields-returns : goal.write_fields-returns
write_fields-returns t c =
    done field_of field_part _ _ _ _ c.loop-i-test.false c.loop-i.invariant
    ∙ ap (λ ys. c.args.out.now.items ++ ys) (fields_all _ ∙ ap (λ l. text_of (fields_layout l)) (sym c.items-items.ensures.seen))
