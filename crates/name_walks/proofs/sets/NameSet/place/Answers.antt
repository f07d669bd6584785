use Rattle.std.proofs.Common.{◌∙◌, ap, map, sym, bytes_eq}
use Rattle.name_walks.proofs.SetLaws.{added_view, place_view}
use Rattle.name_walks.proofs.sets.NameSet.place.Goals as goal

pub returns-clause-added : goal.returns-clause-added
returns-clause-added c = rw (← c.self.view_is) (ap (map (λ k. k.items)) c.in_ok-place.ensures.keys ∙ added_view (λ k. k.items) c.self.inside.keys.keys c.args.name)

pub returns-clause-place : goal.returns-clause-place
returns-clause-place c = rw (← c.self.view_is) (c.in_ok-place.ensures.index ∙ sym (place_view (λ k. k.items) (bytes_eq c.args.name.items) c.self.inside.keys.keys))
