use Rattle.std.proofs.Common.{◌∙◌, bytes_eq, sym}
use Rattle.name_walks.proofs.SetLaws.{any_view}
use Rattle.name_walks.proofs.sets.NameSet.has.Goals as goal

pub returns : goal.returns
returns c = rw (← c.self.view_is) (c.contains.ensures ∙ sym (any_view (λ k. k.items) (bytes_eq c.args.name.now) c.self.inside.keys.keys))
