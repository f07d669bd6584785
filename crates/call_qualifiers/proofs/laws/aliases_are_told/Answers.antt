use Rattle.run_rules.specs.Programs.{top_place}
use Rattle.run_rules.specs.Run.{here_of}
use Rattle.call_qualifiers.proofs.Parts.{alias_told}
use Rattle.call_qualifiers.proofs.laws.aliases_are_told.Goals as goal

pub returns : goal.returns
returns c =
    λ told ps w there names s g ts i x e h.
    alias_told here_of told ps w there names (top_place ps w.number w.of w.source.tree) ts i x e h
