use Rattle.std.proofs.Common.{◌∙◌, ap, map, slice_set}
use Rattle.std.proofs.lemmas.List.{map-set}
use Rattle.pkg_graph.proofs.import_order.rows.Rows.take.Goals as goal

pub returns-clause-rest : goal.returns-clause-rest
returns-clause-rest c = rw (← c.self.view_is) (map-set (λ v. v.items) c.self.inside.rows.items c.args.k c.replace.new.dest ∙ ap (slice_set (map (λ v. v.items) c.self.inside.rows.items) c.args.k) (ap (λ v. v.items) c.replace.ensures.after ∙ c.new.ensures.items))
