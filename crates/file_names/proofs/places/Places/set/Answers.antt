use Rattle.std.proofs.Common.{◌∙◌, ap}
use Rattle.name_walks.specs.Around.{place_in}
use Rattle.name_walks.proofs.AroundLaws.{places_of, place_set}
use Rattle.file_names.proofs.places.Places.set.Goals as goal

pub returns : goal.returns
returns c =
    rw (← c.self.view_is)
    (λ q.
    ap (λ es. place_in (places_of (λ k. k.items) es) q) c.in_ok-insert.ensures.entries
    ∙ place_set (λ k. k.items) c.args.name c.args.place q c.self.inside.entries.entries)
