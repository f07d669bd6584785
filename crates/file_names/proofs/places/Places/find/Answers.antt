use Rattle.std.proofs.Common.{◌∙◌}
use Rattle.name_walks.proofs.AroundLaws.{place_found}
use Rattle.file_names.proofs.places.Places.find.Goals as goal

pub returns : goal.returns
returns c =
    rw (← c.self.view_is)
    (c.copied.ensures ∙ c.get.ensures.value ∙ place_found (λ k. k.items) c.args.name.now c.self.inside.entries.entries)
