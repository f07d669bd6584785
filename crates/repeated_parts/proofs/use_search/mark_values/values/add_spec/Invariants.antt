use Rattle.std.proofs.Common.{◌≡◌, ◌++◌, map}
use Rattle.go_tree.specs.View.{exprs_of, name_at_of}
use Rattle.member_uses.specs.Views.{names_in}
use Rattle.repeated_parts.specs.UseSearch.MarkValues.Values.{spec_values}
use Rattle.repeated_parts.proofs.UseSearch.MarkValues.Lists.{rest}
use Rattle.repeated_parts.proofs.use_search.mark_values.values.add_spec.Given as goal

abbrev pub invariant-loop-at : goal.invariant-loop-at
invariant-loop-at l =
    l.values.items ++ rest (names_in l.file) (map name_at_of l.spec.names) l.exprs l.at
    ≡ l.initial.values.items ++ spec_values (λ s. s) (names_in l.file) (map name_at_of l.spec.names) (exprs_of l.spec.values)
