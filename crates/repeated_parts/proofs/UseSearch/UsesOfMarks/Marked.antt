-- Uses whose members are marked, one by one.
use Rattle.std.proofs.Common.{◌≡◌, ◌∙◌, refl, sym, ap, ℕ, Bool, List, [], ◌∷◌, ◌++◌, Option, Some, None, append-nil}
use Rattle.pkg_graph.specs.Package.{Package}
use Rattle.run_rules.specs.Sites.{MarkRef}
use Rattle.member_uses.specs.Uses.{Used}
use Rattle.member_uses.specs.Laws.{mark_used}
use Rattle.repeated_parts.specs.UsesRepeated.Laws.{flagged_marks}
use Rattle.repeated_parts.specs.UseSearch.UsesOfMarks.Uses.{PlacedMark, placed_if, in_decl, placed_in}

-- no use more
pub none_more : (xs : List PlacedMark) (i : ℕ) (u : Used × Bool) (o : Option MarkRef) → None ≡ o → xs ≡ xs ++ placed_if i u o
none_more xs i u o e = sym (append-nil xs) ∙ ap (λ (m : Option MarkRef). xs ++ placed_if i u m) e

-- one use more
pub one_more : (xs now : List PlacedMark) (i : ℕ) (u : Used × Bool) (m : MarkRef) (o : Option MarkRef) → now ≡ xs ++ (i, ((u.0.span, m), u.1)) ∷ [] → Some m ≡ o → now ≡ xs ++ placed_if i u o
one_more xs now i u m o n e = n ∙ ap (λ (k : Option MarkRef). xs ++ placed_if i u k) e

-- a use before others
pub next_in : {S : Type 0} (ps : List (Package S)) (marks : List MarkRef) (i : ℕ) (u : Used × Bool) (us : List (Used × Bool))
    → placed_in ps marks i (u ∷ us) ≡ placed_if i u (mark_used ps marks u.0) ++ placed_in ps marks i us
next_in ps marks i u us = by (mark_used ps marks u.0)
  where
    by : (o : Option MarkRef)
        → in_decl i (elim o [ None ↦ flagged_marks ps marks us | Some m ↦ ((u.0.span, m), u.1) ∷ flagged_marks ps marks us ])
        ≡ placed_if i u o ++ in_decl i (flagged_marks ps marks us)
    by None = refl
    by (Some m) = refl
