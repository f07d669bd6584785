-- Each site of a file stands in it.
use Rattle.std.proofs.Common.{◌≡◌, ℕ, refl, List, [], ◌∷◌, ◌++◌, Option, Some, None}
use Rattle.go_tree.specs.Tree.{TypeExpr}
use Rattle.go_tree.specs.File.{Decl}
use Rattle.pkg_graph.specs.Package.{Package}
use Rattle.run_rules.specs.Programs.{decl_seen}
use Rattle.run_rules.specs.Sites.{MarkRef, Where, Part, an_expr, a_type_part, Site, named_in, expr_mark, type_mark, site_by, type_sites, site_here, sites_among, decls_sites}
use Rattle.run_rules.specs.Steps.{At}
use Rattle.run_rules.specs.Surroundings.{Use, other, Place, Seen, seen, seen_type, seen_stmt}
use Rattle.repeated_parts.specs.UseSearch.UsesOfMarks.Laws.{EachSite}

pub both_each : (P : Site At → Type 0) (xs ys : List (Site At)) → EachSite P xs → EachSite P ys → EachSite P (xs ++ ys)
both_each P [] ys h k = k
both_each P (x ∷ xs) ys h k = (h.0, both_each P xs ys h.1 k)

module _ (ps : List (Package At)) (marks : List MarkRef) (w : Where At) where
  abbrev pub IsAt : Site At → Type 0
  IsAt x = x.at ≡ w

  by_at : (d : ℕ) (p : Place At) (u : Use) (x : Part At) (o : Option MarkRef) → EachSite IsAt (site_by ps marks w d p u x o)
  by_at d p u x None = tt
  by_at d p u x (Some m) = (refl, tt)

  types_at : (d : ℕ) (p : Place At) (ts : List (TypeExpr At)) → EachSite IsAt (type_sites ps marks w d p ts)
  types_at d p [] = tt
  types_at d p (t ∷ ts) =
      both_each IsAt (site_by ps marks w d p other (a_type_part t) (type_mark ps marks w p t)) (type_sites ps marks w d p ts)
      (by_at d p other (a_type_part t) (type_mark ps marks w p t)) (types_at d p ts)

  here_at : (d : ℕ) (x : Seen At) → EachSite IsAt (site_here ps marks w d x)
  here_at d (seen p u e) = by_at d p u (an_expr e) (expr_mark ps marks w p e)
  here_at d (seen_type p t) = types_at d p (named_in t)
  here_at d (seen_stmt p s) = tt

  among_at : (d : ℕ) (xs : List (Seen At)) → EachSite IsAt (sites_among ps marks w d xs)
  among_at d [] = tt
  among_at d (x ∷ xs) = both_each IsAt (site_here ps marks w d x) (sites_among ps marks w d xs) (here_at d x) (among_at d xs)

  pub decls_at : (ds : List (ℕ × Decl At)) → EachSite IsAt (decls_sites ps marks w ds)
  decls_at [] = tt
  decls_at (d ∷ ds) =
      both_each IsAt (sites_among ps marks w d.0 (decl_seen ps w.number w.of w.source.tree d.1)) (decls_sites ps marks w ds)
      (among_at d.0 (decl_seen ps w.number w.of w.source.tree d.1)) (decls_at ds)
