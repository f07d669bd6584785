-- What the code puts before the names of a declaration is what run_rules writes there.
use Rattle.std.proofs.Common.{◌≡◌, ◌∙◌, ℕ, List, [], ◌∷◌, map, None, refl, sym, ap}
use Rattle.std.specs.Prelude.{slice_get}
use Rattle.go_tree.specs.declared.spans.Span.{Span}
use Rattle.go_tree.specs.File.{Decl}
use Rattle.pkg_graph.specs.Package.{Package}
use Rattle.run_rules.specs.Naming as naming
use Rattle.run_rules.specs.Programs.{decl_seen}
use Rattle.run_rules.specs.Respanned.{decl_with}
use Rattle.run_rules.specs.Run.{here_of}
use Rattle.run_rules.specs.Sites.{Where}
use Rattle.run_rules.specs.Steps.{At}
use Rattle.member_uses.specs.PossibleUses.Parts.{parts_of}
use Rattle.member_uses.specs.Uses.{Names}
use Rattle.member_uses.specs.Views.{names_in}
use Rattle.member_uses.proofs.PlacesMean.{places_mean, blocks_local}
use Rattle.repeated_parts.specs.declared.literal_types.table.TypeScopes.{TypeScopes}
use Rattle.repeated_parts.specs.declared.uses_repeated.uses.FlaggedUse.{FlaggedUse}
use Rattle.repeated_parts.specs.Flags.{flags_of}
use Rattle.repeated_parts.specs.LiteralTypes.Tables.{numbers_in}
use Rattle.repeated_parts.specs.UsesRepeated.Uses.{flagged_uses}
use Rattle.repeated_parts.specs.UsesRepeated.Views.{flagged_of}
use Rattle.repeated_parts.proofs.Walked.{flags_follow}
use Rattle.repeated_parts.proofs.UseSearch.UsesOfMarks.UsesStay.{flagged_stay}
use Rattle.call_forms.specs.Qualifiers.{Told, at_span, qualifier_at}
use Rattle.call_forms.specs.ToldNames.{AllTold}
use Rattle.name_places.specs.NamesThere.{names_among}
use Rattle.call_qualifiers.specs.Numbers.{MemberThere, there_of, numbers_put}
use Rattle.call_qualifiers.specs.Told.{IsToldOf}
use Rattle.call_qualifiers.proofs.Numbers.{members}
use Rattle.call_qualifiers.proofs.Uses.{places_of, uses_are}
use Rattle.call_qualifiers.proofs.Right.{all_told}
use Rattle.name_places.proofs.Walk.{names_apart}

there_flagged : (us : List FlaggedUse) → map there_of us ≡ places_of (map flagged_of us)
there_flagged [] = refl
there_flagged (u ∷ us) = λ v. there_of u ∷ there_flagged us v

pub joined : (ps : List (Package At)) (w : Where At) (names : naming.Names) (scopes : TypeScopes) (packages : List (List ℕ)) (there i : ℕ) (d : Decl At) (t : Told) (us : List FlaggedUse)
    → IsToldOf ps w names scopes packages i d → t.packages ≡ packages
    → ((q : Span) → at_span q t.before ≡ numbers_put scopes.file.home there (map there_of us) q None)
    → map flagged_of us ≡ flagged_uses (λ s. s) (names_in scopes.file) (parts_of (decl_with here_of d)) (flags_of (numbers_in (λ s. s) (names_in scopes.file) scopes.types.now) (decl_with here_of d))
    → AllTold here_of (qualifier_at t) ps w there names (decl_seen ps w.number w.of w.source.tree d)
joined ps w names scopes packages there i d t us k same before found =
    let f : Names = names_in scopes.file in
    let agrees = places_mean At here_of ps w k.knows.text k.knows.names f.table i d k.knows.reads k.knows.told k.knows.table k.nth k.scoped in
    let local = blocks_local At here_of ps w k.knows.text i d k.knows.reads k.nth k.scoped in
    let along = flags_follow ps (numbers_in here_of f scopes.types.now) w.number w.of w.source.tree d k.keyed k.fields in
    let pairs : map there_of us ≡ members f (names_among here_of (decl_seen ps w.number w.of w.source.tree d)) =
    there_flagged us ∙ ap places_of (found ∙ flagged_stay here_of f scopes.types.now d) ∙ sym (uses_are here_of ps w f along refl agrees local)
    in
    all_told ps w f k.knows k.named there names t (ap (λ (ns : List (List ℕ)). slice_get ns w.number) same ∙ k.home_named)
    (λ j q e. ap (λ (ns : List (List ℕ)). slice_get ns q) same ∙ k.imports_named j q e) k.imports_others (decl_seen ps w.number w.of w.source.tree d)
    (names_apart here_of ps w k.knows.text i d k.knows.reads k.nth) (λ q. before q ∙ ap (λ (xs : List MemberThere). numbers_put scopes.file.home there xs q None) pairs) agrees k.keyed
