use Rattle.std.proofs.Common.{◌≡◌, ◌++◌, drop, map}
use Rattle.go_tree.specs.Lists.{specs_from}
use Rattle.go_tree.specs.View.{const_spec_of}
use Rattle.member_uses.specs.Views.{names_in}
use Rattle.repeated_parts.specs.UseSearch.MarkValues.Values.{specs_values}
use Rattle.repeated_parts.proofs.use_search.mark_values.values.add_specs.Given as goal

abbrev pub invariant-loop-spec : goal.invariant-loop-spec
invariant-loop-spec l =
    l.values.items ++ specs_values (λ s. s) (names_in l.file) (specs_from (map const_spec_of (drop l.spec-index l.specs)))
    ≡ l.initial.values.items ++ specs_values (λ s. s) (names_in l.file) (specs_from (map const_spec_of l.specs))
