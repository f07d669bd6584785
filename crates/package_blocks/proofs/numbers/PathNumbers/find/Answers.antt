use Rattle.std.proofs.Common.{◌∙◌}
use Rattle.typed_names.proofs.NameLaws.{name_found}
use Rattle.package_blocks.proofs.numbers.PathNumbers.find.Goals as goal

pub returns : goal.returns
returns c =
    rw (← c.self.view_is)
    (c.copied.ensures ∙ c.get.ensures.value ∙ name_found (λ k. k.items) c.args.path.now c.self.inside.entries.entries)
