use Rattle.std.proofs.Common.{◌∙◌, ap, map}
use Rattle.go_tree.specs.View.{name_at_of}
use Rattle.call_forms.specs.Written.{written_names}
use Rattle.call_forms.proofs.Lists.{names_written}
use Rattle.call_forms.proofs.types.written_names.Goals as goal

pub returns : goal.returns
returns c =
    ap (map name_at_of) c.of.ensures ∙ names_written c.args.there.now _ _ _ c.loop-name.invariant c.loop-name-test.false
    ∙ ap (λ xs. written_names c.args.there.now (map name_at_of xs)) c.items-name-items.ensures
