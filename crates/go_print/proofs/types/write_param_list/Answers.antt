use Rattle.std.proofs.Common.{◌++◌, refl, ap, ◌∙◌}
use Rattle.go_tree.specs.View.{param_of}
use Rattle.go_print.proofs.Steps.{done, step}
use Rattle.go_print.proofs.Lists.{param_part, params_all}
use Rattle.go_print.proofs.types.write_param_list.Goals as goal

pub loop-i-preserved : goal.loop-i-preserved
loop-i-preserved c = step param_of param_part _ _ _ _ _ _ _ _ _ c.loop-i-test.true c.index-items-i.is c.loop-i.invariant c.in_ok-write_param.ensures c.in_ok-write_if.ensures refl

pub returns : goal.returns
returns c =
    done param_of param_part _ _ _ _ c.loop-i-test.false c.loop-i.invariant
    ∙ ap (λ ys. c.args.out.now.items ++ ys) (params_all _)
