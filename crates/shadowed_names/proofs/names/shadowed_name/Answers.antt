use Rattle.std.proofs.Common.{◌∙◌, ap, map, List, ℕ, Option}
use Rattle.go_tree.specs.declared.spans.Span.{Span}
use Rattle.go_tree.specs.File.{Decl}
use Rattle.member_uses.specs.PossibleUses.Candidates.{Candidate}
use Rattle.member_uses.specs.PossibleUses.Parts.{parts_of}
use Rattle.member_uses.specs.PossibleUses.Views.{part_of}
use Rattle.member_uses.specs.Views.{names_in}
use Rattle.repeated_parts.specs.Flags.{Flags, flags_of}
use Rattle.repeated_parts.specs.LiteralTypes.Views.{numbers_of}
use Rattle.shadowed_names.specs.Told.{first_told, shadowed_part}
use Rattle.shadowed_names.proofs.Joined.{joined}
use Rattle.shadowed_names.proofs.names.shadowed_name.Goals as goal

pub returns-clause-first : goal.returns-clause-first
returns-clause-first c =
    λ ps w use_ p i d k e.
    let home = c.args.home.now in
    let there = c.args.there.now in
    let first : List (Candidate Span) → Flags → Option (List ℕ) = λ xs ms.
    first_told (shadowed_part (λ s. s) (names_in home.file) (names_in there.file) there.at) xs ms
    in
    c.first_shadowed-found.ensures
    ∙ (λ v.
    first ((ap (map part_of) c.deref.ensures.value ∙ c.in_ok-parts.ensures) v)
    ((c.deref-2.ensures.value ∙ c.in_ok-flags.ensures) v))
    ∙ ap (λ (x : Decl Span). first (parts_of x) (flags_of (numbers_of home) x)) e
    ∙ joined ps w use_ p home there i d k
