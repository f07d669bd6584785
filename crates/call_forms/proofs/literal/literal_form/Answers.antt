use Rattle.std.proofs.Common.{◌∙◌, sym, subst}
use Rattle.go_tree.specs.declared.exprs.Rest.TheVariants.{Plain}
use Rattle.go_tree.specs.FileView.{func_of}
use Rattle.go_tree.specs.Tree.{call}
use Rattle.go_tree.specs.View.{exprs_of}
use Rattle.run_rules.specs.Run.{here_of}
use Rattle.run_rules.specs.Steps.{same_here}
use Rattle.call_forms.specs.Calls.{IsLiteralOf}
use Rattle.call_forms.proofs.LiteralForms.{literal_stands}
use Rattle.call_forms.proofs.literal.literal_form.Goals as goal

pub returns-clause-tree : goal.returns-clause-tree
returns-clause-tree c =
    c.call_expr.ensures ∙ (λ j. call c.args.there.now.span (c.in_ok-literal.ensures j) (exprs_of c.args.args) Plain)

pub returns-clause-form : goal.returns-clause-form
returns-clause-form c =
    λ ps d names kept k.
    subst (λ e. IsLiteralOf here_of same_here ps d names kept e)
    (sym (c.call_expr.ensures ∙ (λ j. call c.args.there.now.span (c.in_ok-literal.ensures j) (exprs_of c.args.args)
    Plain)))
    (literal_stands here_of same_here ps d names kept c.args.there.now (func_of c.args.callee.now) (exprs_of
    c.args.args) k)
