use Rattle.std.proofs.Common.{sym, subst}
use Rattle.go_tree.specs.View.{type_of}
use Rattle.run_rules.specs.Run.{here_of}
use Rattle.run_rules.specs.Steps.{same_here}
use Rattle.call_forms.specs.Aliases.{IsAliasType}
use Rattle.call_forms.proofs.AliasForms.{type_stands}
use Rattle.call_forms.proofs.aliases.alias_type.Goals as goal

pub returns : goal.returns
returns c =
    λ commented ps marks x home t names k.
    subst (λ r. IsAliasType here_of same_here commented ps marks x home t names r) (sym c.in_ok-tree.ensures)
    (type_stands here_of same_here commented ps marks x home t names c.args.there.now (type_of c.args.of.now) k)
