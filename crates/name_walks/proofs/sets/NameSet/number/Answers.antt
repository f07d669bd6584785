use Rattle.std.proofs.Common.{◌∙◌, bytes_eq, sym}
use Rattle.name_walks.proofs.SetLaws.{number_view}
use Rattle.name_walks.proofs.sets.NameSet.number.Goals as goal

pub returns : goal.returns
returns c = rw (← c.self.view_is) (c.get_index_of.ensures.index ∙ sym (number_view (λ k. k.items) (bytes_eq c.args.name.now) c.self.inside.keys.keys))
