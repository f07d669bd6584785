use Rattle.std.proofs.Common.{◌∙◌, map, ap}
use Rattle.std.specs.Option.{option_to_list}
use Rattle.scope_tables.specs.Table.{table_of}
use Rattle.go_tree.specs.View.{expr_of}
use Rattle.member_uses.specs.PossibleUses.Views.{part_of}
use Rattle.repeated_parts.proofs.ImportsUnused.Left.{left_unused}
use Rattle.repeated_parts.proofs.imports_unused.unused.unused_imports.Goals as goal

pub returns : goal.returns
returns c =
    let a = c.args in
    λ marks st f h.
    c.in_ok-specs.ensures ∙ ap option_to_list c.spec_left.ensures
    ∙ left_unused marks st f a.names.now (table_of a.scopes.now) (map part_of a.parts.now) (expr_of a.use_.now) a.form.now c.steps_settle_imports.ensures.removed h
