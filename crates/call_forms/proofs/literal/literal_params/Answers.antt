use Rattle.std.proofs.Common.{◌∙◌, ap, map}
use Rattle.go_tree.specs.View.{param_of}
use Rattle.call_forms.specs.Literal.{literal_param}
use Rattle.call_forms.proofs.Lists.{literals_written}
use Rattle.call_forms.proofs.literal.literal_params.Goals as goal

pub returns : goal.returns
returns c =
    ap (map param_of) c.of.ensures ∙ literals_written c.args.there.now _ _ _ c.loop-param.invariant
    c.loop-param-test.false
    ∙ ap (λ xs. map (literal_param c.args.there.now) (map param_of xs)) c.items-param-items.ensures
