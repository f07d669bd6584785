use Rattle.std.proofs.Common.{◌∙◌, ap, map, ℕ, Option}
use Rattle.go_tree.specs.File.{Decl}
use Rattle.go_tree.specs.declared.spans.Span.{Span}
use Rattle.member_uses.specs.PossibleUses.Parts.{parts_of}
use Rattle.member_uses.specs.PossibleUses.Views.{part_of}
use Rattle.member_uses.specs.Views.{names_in}
use Rattle.repeated_parts.specs.Flags.{flags_of}
use Rattle.repeated_parts.specs.LiteralTypes.Views.{numbers_of}
use Rattle.repeated_parts.specs.UsesRepeated.Uses.{flagged_uses}
use Rattle.repeated_parts.specs.UsesRepeated.Views.{flagged_of}
use Rattle.call_forms.specs.Qualifiers.{Told, at_span}
use Rattle.call_qualifiers.specs.Numbers.{numbers_put, there_of}
use Rattle.call_qualifiers.proofs.Joined.{joined}
use Rattle.call_qualifiers.proofs.names.decl_qualifiers.Goals as goal

pub returns-clause-packages : goal.returns-clause-packages
returns-clause-packages c = c.in_ok-put_uses.ensures.packages ∙ ap (λ (t : Told). t.packages) c.new-told.ensures

pub returns-clause-told : goal.returns-clause-told
returns-clause-told c =
    λ ps w names i d k e.
    let scopes = c.args.scopes.now in
    joined ps w names scopes c.args.packages.items c.args.there i d c.put_uses.new.qualifiers c.deref-3.result.now k
    (c.in_ok-put_uses.ensures.packages ∙ ap (λ (t : Told). t.packages) c.new-told.ensures)
    (λ q.
    c.in_ok-put_uses.ensures.before q
    ∙ ap (λ (o : Option ℕ). numbers_put scopes.file.home c.args.there (map there_of c.deref-3.result.now) q o)
    (ap (λ (t : Told). at_span q t.before) c.new-told.ensures))
    (ap (map flagged_of) c.deref-3.ensures.value ∙ c.in_ok-uses.ensures
    ∙ (λ v.
    flagged_uses (λ s. s) (names_in scopes.file) ((ap (map part_of) c.deref.ensures.value ∙ c.in_ok-parts.ensures) v)
    ((c.deref-2.ensures.value ∙ c.in_ok-flags.ensures) v))
    ∙ ap
    (λ (x : Decl Span).
    flagged_uses (λ s. s) (names_in scopes.file) (parts_of x) (flags_of (numbers_of scopes) x))
    e)
