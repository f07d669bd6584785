use Rattle.std.proofs.Common.{◌∙◌, ap, map, not, sym, bytes_eq}
use Rattle.name_walks.proofs.SetLaws.{added_view, any_view}
use Rattle.name_walks.proofs.sets.NameSet.add.Goals as goal

pub returns-clause-added : goal.returns-clause-added
returns-clause-added c = rw (← c.self.view_is) (ap (map (λ k. k.items)) c.in_ok-is_new.ensures.keys ∙ added_view (λ k. k.items) c.self.inside.keys.keys c.args.name)

pub returns-clause-is_new : goal.returns-clause-is_new
returns-clause-is_new c = rw (← c.self.view_is) (c.in_ok-is_new.ensures.added ∙ ap not (sym (any_view (λ k. k.items) (bytes_eq c.args.name.items) c.self.inside.keys.keys)))
