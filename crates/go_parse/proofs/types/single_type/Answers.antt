use Rattle.std.proofs.Common.{map, ap, ◌∙◌}
use Rattle.go_tree.specs.FileView.{type_spec_of}
use Rattle.go_parse.proofs.TypeSteps.{single_none, single_some}
use Rattle.go_parse.proofs.types.single_type.Goals as goal

pub returns-in_default-clause-gives : goal.returns-in_default-clause-gives
returns-in_default-clause-gives c = single_none _ _ (rw c.in_default.is at c.in_ok-spec.ensures.gives)

pub returns-clause-gives : goal.returns-clause-gives
returns-clause-gives c =
    single_some _ _ _ _ _ _ (rw c.in-Some.is at c.in_ok-spec.ensures.gives) c.span_to-span.ensures (ap (map type_spec_of) (c.of-specs.ensures ∙ c.in_ok-vec.ensures.items))
