use Rattle.std.proofs.Common.{◌≡◌, take, map}
use Rattle.go_tree.specs.View.{param_of}
use Rattle.call_forms.specs.Literal.{literal_param}
use Rattle.call_forms.proofs.literal.literal_params.Given as goal

abbrev pub invariant-loop-param : goal.invariant-loop-param
invariant-loop-param l = map param_of l.copies.items ≡ map (λ p. literal_param l.there (param_of p)) (take l.param-index
    l.param-items)
