-- Each use of a marked constant has a mark among the marks.
use Rattle.std.proofs.Common.{◌≡◌, refl, subst, ℕ, Bool, true, false, List, [], ◌∷◌, ◌++◌, Option, Some, None}
use Rattle.std.specs.Prelude.{if◌then◌else◌}
use Rattle.std.proofs.lemmas.Option.{none-some, same_Some}
use Rattle.go_tree.specs.declared.spans.Span.{Span}
use Rattle.go_tree.specs.File.{Decl}
use Rattle.pkg_graph.specs.Package.{Package}
use Rattle.run_rules.specs.Sites.{MarkRef, is_among_marks, member_of, marked}
use Rattle.member_uses.specs.PossibleUses.Parts.{parts_of}
use Rattle.member_uses.specs.Uses.{Used, Names}
use Rattle.member_uses.specs.Laws.{mark_used}
use Rattle.repeated_parts.specs.declared.literal_types.table.LiteralTypes.{LiteralTypes}
use Rattle.repeated_parts.specs.LiteralTypes.Tables.{numbers_in}
use Rattle.repeated_parts.specs.Flags.{flags_of}
use Rattle.repeated_parts.specs.UsesRepeated.Uses.{flagged_uses}
use Rattle.repeated_parts.specs.UsesRepeated.Laws.{flagged_marks}
use Rattle.repeated_parts.specs.UseSearch.UsesOfMarks.Uses.{PlacedMark, in_decl, placed_in, decl_uses, decls_uses}

-- each has a mark among these
abbrev pub AllMarked : List MarkRef → List PlacedMark → Type 0
AllMarked marks [] = Unit {0}
AllMarked marks (q ∷ qs) = (is_among_marks marks q.1.0.1 ≡ true) × AllMarked marks qs

marked_append : (marks : List MarkRef) (xs ys : List PlacedMark) → AllMarked marks xs → AllMarked marks ys → AllMarked marks (xs ++ ys)
marked_append marks [] ys a b = b
marked_append marks (x ∷ xs) ys a b = (a.0, marked_append marks xs ys a.1 b)

module _ {S : Type 0} (ps : List (Package S)) (marks : List MarkRef) where
  among_if : (k m : MarkRef) (b : Bool) → is_among_marks marks k ≡ b → (if b then Some k else None) ≡ Some m → is_among_marks marks m ≡ true
  among_if k m true q e = subst (λ (z : MarkRef). is_among_marks marks z ≡ true) (same_Some k m e) q
  among_if k m false q e = absurd (none-some m e)

  among_marked : (r : Option MarkRef) (m : MarkRef) → marked ps marks r ≡ Some m → is_among_marks marks m ≡ true
  among_marked None m e = absurd (none-some m e)
  among_marked (Some k) m e = among_if k m (is_among_marks marks k) refl e

  one_marked : (i : ℕ) (u : Used × Bool) (us : List (Used × Bool)) (o : Option MarkRef) → mark_used ps marks u.0 ≡ o → AllMarked marks (placed_in ps marks i us)
      → AllMarked marks (in_decl i (elim o [ None ↦ flagged_marks ps marks us | Some m ↦ ((u.0.span, m), u.1) ∷ flagged_marks ps marks us ]))
  one_marked i u us None e rest = rest
  one_marked i u us (Some m) e rest = (among_marked (member_of ps u.0.«package» u.0.name) m e, rest)

  used_marked : (i : ℕ) (us : List (Used × Bool)) → AllMarked marks (placed_in ps marks i us)
  used_marked i [] = tt
  used_marked i (u ∷ us) = one_marked i u us (mark_used ps marks u.0) refl (used_marked i us)

  pub decls_marked : (f : Names) (t : LiteralTypes) (ds : List (ℕ × Decl Span)) → AllMarked marks (decls_uses (λ s. s) ps marks f t ds)
  decls_marked f t [] = tt
  decls_marked f t (d ∷ ds) =
      marked_append marks (decl_uses (λ s. s) ps marks f t d) (decls_uses (λ s. s) ps marks f t ds)
      (used_marked d.0 (flagged_uses (λ s. s) f (parts_of d.1) (flags_of (numbers_in (λ s. s) f t) d.1))) (decls_marked f t ds)
