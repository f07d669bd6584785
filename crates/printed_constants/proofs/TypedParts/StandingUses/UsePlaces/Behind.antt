-- What a step replaces lies behind the imports of its file.
use Rattle.std.proofs.Common.{◌≡◌, ℕ, zero, suc, List, [], ◌∷◌, map, Some, subst}
use Rattle.std.specs.Prelude.{slice_get}
use Rattle.std.proofs.lemmas.Option.{same_Some}
use Rattle.go_tree.specs.declared.spans.Span.{Span}
use Rattle.go_tree.specs.File.{Decl}
use Rattle.run_rules.specs.Respanned.{decl_with}
use Rattle.run_rules.specs.Steps.{same_here}
use Rattle.run_rules.specs.Laws.{LiesBehindImports, file_found}
use Rattle.run_rules.specs.Run.{here_of, is_commented}
use Rattle.splice_laws.proofs.RunLaws.NodeSpans.{AllDecl}
use Rattle.splice_laws.proofs.RunLaws.SeenSpans.{decl_in}
use Rattle.splice_laws.proofs.RunLaws.FilesStand.{AllDecls, decls_behind}
use Rattle.splice_laws.proofs.RunLaws.FoundSpans.{Placed, FoundIn, found_in}
use Rattle.printed_constants.specs.TypedParts.StandingUses.UsePlaces.Laws.{UsesLieBehindImports}

one_decl : {A : Type 0} (to : A → Span) (P : Span → Type 0) (ds : List (Decl A)) (i : ℕ) (d : Decl A) → AllDecls P (map (decl_with to) ds) → slice_get ds i ≡ Some d → AllDecl P (decl_with to d)
one_decl to P [] i d h e = absurd cc
one_decl to P (x ∷ ds) zero d h e = subst (λ y. AllDecl P (decl_with to y)) (same_Some x d e) h.0
one_decl to P (x ∷ ds) (suc i) d h e = one_decl to P ds i d h.1 e

pub uses_behind : UsesLieBehindImports
uses_behind marks st f t first reads =
    g.range_is (decl_in here_of Behind st.packages f.site.at.number f.site.at.of f.site.at.source.tree p.decl one)
  where
    Behind : Span → Type 0
    Behind = LiesBehindImports t.text t.tokens (file_found f)

    g : FoundIn here_of Behind st.packages marks same_here (is_commented st) f
    g = found_in here_of Behind st.packages marks same_here (is_commented st) f first

    p : Placed here_of Behind st.packages marks f.site
    p = g.placed

    one : AllDecl Behind (decl_with here_of p.decl)
    one = one_decl here_of Behind f.site.at.source.tree.decls f.site.decl p.decl (decls_behind t.text t.tokens t.comments (file_found f) reads.scans reads.spells) p.decl_is
