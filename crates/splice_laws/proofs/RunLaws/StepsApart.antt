-- The edits of a step stand apart, where the file of its use reads from its text.
use Rattle.std.proofs.Common.{◌≡◌, ℕ, zero, suc, List, [], ◌∷◌, map, Some, subst}
use Rattle.std.specs.Prelude.{slice_get}
use Rattle.std.proofs.lemmas.Option.{same_Some}
use Rattle.go_tree.specs.declared.spans.Span.{Span}
use Rattle.go_tree.specs.File.{Decl}
use Rattle.run_rules.specs.Respanned.{decl_with}
use Rattle.run_rules.specs.Steps.{same_here}
use Rattle.run_rules.specs.Laws.{LiesBehindImports, file_found}
use Rattle.run_rules.specs.Run.{here_of, is_commented}
use Rattle.run_rules.proofs.EditsApart.{step_edits_apart}
use Rattle.splice_laws.specs.RunLaws.Laws.{ReadFileEditsStandApart}
use Rattle.splice_laws.proofs.RunLaws.NodeSpans.{AllDecl}
use Rattle.splice_laws.proofs.RunLaws.SeenSpans.{decl_in}
use Rattle.splice_laws.proofs.RunLaws.FilesStand.{AllDecls, file_laid, decls_behind}
use Rattle.splice_laws.proofs.RunLaws.FoundSpans.{Placed, FoundIn, found_in}

pub one_decl : {A : Type 0} (to : A → Span) (P : Span → Type 0) (ds : List (Decl A)) (i : ℕ) (d : Decl A) → AllDecls P (map (decl_with to) ds) → slice_get ds i ≡ Some d → AllDecl P (decl_with to d)
one_decl to P [] i d h e = absurd cc
one_decl to P (x ∷ ds) zero d h e = subst (λ y. AllDecl P (decl_with to y)) (same_Some x d e) h.0
one_decl to P (x ∷ ds) (suc i) d h e = one_decl to P ds i d h.1 e

pub edits_apart : ReadFileEditsStandApart
edits_apart marks st l after n reads =
    step_edits_apart marks st l after n (file_laid n.old.text n.old.tokens n.old.comments (file_found n.found) reads.scans reads.spells)
    (f.range_is (decl_in here_of Behind st.packages n.found.site.at.number n.found.site.at.of n.found.site.at.source.tree p.decl one))
  where
    Behind : Span → Type 0
    Behind = LiesBehindImports n.old.text n.old.tokens (file_found n.found)

    f : FoundIn here_of Behind st.packages marks same_here (is_commented st) n.found
    f = found_in here_of Behind st.packages marks same_here (is_commented st) n.found n.is_first

    p : Placed here_of Behind st.packages marks n.found.site
    p = f.placed

    one : AllDecl Behind (decl_with here_of p.decl)
    one =
        one_decl here_of Behind n.found.site.at.source.tree.decls n.found.site.decl p.decl
        (decls_behind n.old.text n.old.tokens n.old.comments (file_found n.found) reads.scans reads.spells) p.decl_is
