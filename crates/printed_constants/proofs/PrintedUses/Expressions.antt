-- Each use among constants and functions that print them is an expression.
use Rattle.std.proofs.Common.{◌≡◌, ◌<◌, refl, subst, ℕ, zero, suc, List, [], ◌∷◌, ◌++◌, Option, Some, None, arith}
use Rattle.std.specs.Prelude.{slice_get, Contains}
use Rattle.go_tree.specs.Tree.{TypeExpr, Expr}
use Rattle.go_tree.specs.File.{Decl}
use Rattle.pkg_graph.specs.Package.{SourceTree, Package}
use Rattle.printed_constants.specs.TypedParts.StandingUses.ImportUses.Parts.{EachSeen}
use Rattle.order_runs.proofs.ImportRuns.Listed.{AllListed, order-listed}
use Rattle.run_rules.specs.Surroundings.{Use, Place, Seen, seen, seen_type, seen_stmt}
use Rattle.run_rules.specs.Programs.{numbered_from, numbered, in_dependency_order, decl_seen}
use Rattle.run_rules.specs.Sites.{MarkRef, Where, Site, an_expr, expr_mark, site_by, sites_among, decls_sites, files_sites, packages_sites, sites}
use Rattle.run_rules.specs.Printed.{IsPrinted, ArePrinted}
use Rattle.printed_constants.proofs.Parts.{PrintedPart, decl_parts}
use Rattle.printed_constants.specs.PrintedUses.Laws.{PrintedUsesAreExpressions}

no_type : {S : Type 0} {p : Place S} {t : TypeExpr S} → PrintedPart (seen_type p t) → ⊥
no_type h = elim h [ ]

module _ {S : Type 0} (ps : List (Package S)) (marks : List MarkRef) where
  abbrev IsExpression : Site S → Type 0
  IsExpression x = (e : Expr S) × (x.part ≡ an_expr e)

  abbrev AllSo : List (Site S) → Type 0
  AllSo [] = Unit {0}
  AllSo (x ∷ xs) = IsExpression x × AllSo xs

  both_so : (xs ys : List (Site S)) → AllSo xs → AllSo ys → AllSo (xs ++ ys)
  both_so [] ys h k = k
  both_so (x ∷ xs) ys h k = (h.0, both_so xs ys h.1 k)

  by_mark : (w : Where S) (d : ℕ) (p : Place S) (u : Use) (e : Expr S) (o : Option MarkRef) → AllSo (site_by ps marks w d p u (an_expr e) o)
  by_mark w d p u e None = tt
  by_mark w d p u e (Some m) = ((e, refl), tt)

  among_so : (w : Where S) (d : ℕ) (xs : List (Seen S)) → EachSeen PrintedPart xs → AllSo (sites_among ps marks w d xs)
  among_so w d [] h = tt
  among_so w d (seen p u e ∷ xs) h = both_so (site_by ps marks w d p u (an_expr e) (expr_mark ps marks w p e)) (sites_among ps marks w d xs) (by_mark w d p u e (expr_mark ps marks w p e)) (among_so w d xs h.1)
  among_so w d (seen_type p t ∷ xs) h = absurd (no_type h.0)
  among_so w d (seen_stmt p s ∷ xs) h = among_so w d xs h.1

  decls_so : (w : Where S) (k : ℕ) (ds : List (Decl S)) → ((i : ℕ) (d : Decl S) → slice_get ds i ≡ Some d → IsPrinted d) → AllSo (decls_sites ps marks w (numbered_from k ds))
  decls_so w k [] h = tt
  decls_so w k (d ∷ ds) h =
      both_so (sites_among ps marks w k (decl_seen ps w.number w.of w.source.tree d)) (decls_sites ps marks w (numbered_from (suc k) ds))
      (among_so w k (decl_seen ps w.number w.of w.source.tree d) (decl_parts ps w.number w.of w.source.tree (h zero d refl))) (decls_so w (suc k) ds (λ i c e. h (suc i) c e))

  files_so : (n : ℕ) (p : Package S) (k : ℕ) (fs : List (SourceTree S)) → ((m : ℕ) (f : SourceTree S) → slice_get fs m ≡ Some f → (i : ℕ) (d : Decl S) → slice_get f.tree.decls i ≡ Some d → IsPrinted d) → AllSo (files_sites ps marks n p (numbered_from k fs))
  files_so n p k [] h = tt
  files_so n p k (f ∷ fs) h =
      both_so (decls_sites ps marks (record { number = n; of = p; file_number = k; source = f }) (numbered f.tree.decls)) (files_sites ps marks n p (numbered_from (suc k) fs))
      (decls_so (record { number = n; of = p; file_number = k; source = f }) 0 f.tree.decls (h zero f refl)) (files_so n p (suc k) fs (λ m g e. h (suc m) g e))

  packages_so : ArePrinted ps → (qs : List (ℕ × Package S)) → AllListed ps qs → AllSo (packages_sites ps marks qs)
  packages_so all [] h = tt
  packages_so all (q ∷ qs) h =
      both_so (files_sites ps marks q.0 q.1 (numbered q.1.files)) (packages_sites ps marks qs)
      (files_so q.0 q.1 0 q.1.files (λ m f e i d g. all (record { number = q.0; of = q.1; file_number = m; source = f }) h.0 e i d g)) (packages_so all qs h.1)

  one_so : (xs : List (Site S)) → AllSo xs → (x : Site S) → Contains xs x → IsExpression x
  one_so [] h x c = let lt : c.0 < 0 = c.1 in absurd (omega arith)
  one_so (y ∷ ys) h x (zero, lt, e) = subst (λ (z : Site S). IsExpression z) e h.0
  one_so (y ∷ ys) h x (suc k, lt, e) = one_so ys h.1 x (k, omega (arith, lt), e)

  pub site_expression : ArePrinted ps → (x : Site S) → Contains (sites ps marks) x → IsExpression x
  site_expression all x c = one_so (sites ps marks) (packages_so all (in_dependency_order ps) (order-listed ps)) x c

pub uses_expressions : PrintedUsesAreExpressions
uses_expressions ps marks all x c = site_expression ps marks all x c
