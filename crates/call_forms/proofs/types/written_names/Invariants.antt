use Rattle.std.proofs.Common.{◌≡◌, take, map}
use Rattle.go_tree.specs.View.{name_at_of}
use Rattle.call_forms.specs.Written.{written_name}
use Rattle.call_forms.proofs.types.written_names.Given as goal

abbrev pub invariant-loop-name : goal.invariant-loop-name
invariant-loop-name l = map name_at_of l.copies.items ≡ map (λ x. written_name l.there (name_at_of x)) (take
    l.name-index l.name-items)
