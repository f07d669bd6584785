-- What is known of each site of a file: that it is one of the program's, and in which declaration it stands.
use Rattle.std.proofs.Common.{◌≡◌, ◌<◌, refl, ℕ, suc, List, [], ◌∷◌, length, Option, Some, None, arith}
use Rattle.std.specs.Prelude.{slice_get, Contains}
use Rattle.go_tree.specs.Tree.{TypeExpr}
use Rattle.go_tree.specs.File.{Decl}
use Rattle.pkg_graph.specs.Package.{Package}
use Rattle.run_rules.specs.Programs.{numbered, decl_seen}
use Rattle.run_rules.specs.Sites.{MarkRef, Where, Part, an_expr, a_type_part, Site, named_in, expr_mark, type_mark, site_by, type_sites, site_here, sites_among, decls_sites}
use Rattle.run_rules.specs.Steps.{At}
use Rattle.run_rules.specs.Surroundings.{Use, other, Place, Seen, seen, seen_type, seen_stmt}
use Rattle.repeated_parts.specs.UseSearch.UsesOfMarks.Laws.{EachSite}
use Rattle.stepped_programs.proofs.SearchedSites.KeptPlaces.SitesAt.{both_each}
use Rattle.stepped_programs.proofs.SearchedSites.OrderedSearches.Beside.{EachItem, all_numbered}

-- what holds for what a list contains holds for each site
pub each_contained : (P : Site At → Type 0) (xs : List (Site At)) → ((x : Site At) → Contains xs x → P x) → EachSite P xs
each_contained P [] f = tt
each_contained P (x ∷ xs) f =
    let lt : 0 < suc (length xs) = omega arith in
    (f x (0, lt, refl), each_contained P xs (λ y c. let k : suc c.0 < suc (length xs) = let h : c.0 < length xs = c.1 in omega (arith, h) in f y (suc c.0, k, c.2)))

pub each_two : (P Q : Site At → Type 0) (xs : List (Site At)) → EachSite P xs → EachSite Q xs → EachSite (λ x. P x × Q x) xs
each_two P Q [] h k = tt
each_two P Q (x ∷ xs) h k = ((h.0, k.0), each_two P Q xs h.1 k.1)

module _ (ps : List (Package At)) (marks : List MarkRef) (w : Where At) (P : ℕ → Type 0) where
  abbrev Has : Site At → Type 0
  Has x = P x.decl

  by_in : (d : ℕ) (p : Place At) (u : Use) (x : Part At) (o : Option MarkRef) → P d → EachSite Has (site_by ps marks w d p u x o)
  by_in d p u x None h = tt
  by_in d p u x (Some m) h = (h, tt)

  types_in : (d : ℕ) (p : Place At) (ts : List (TypeExpr At)) → P d → EachSite Has (type_sites ps marks w d p ts)
  types_in d p [] h = tt
  types_in d p (t ∷ ts) h =
      both_each Has (site_by ps marks w d p other (a_type_part t) (type_mark ps marks w p t)) (type_sites ps marks w d p ts)
      (by_in d p other (a_type_part t) (type_mark ps marks w p t) h) (types_in d p ts h)

  here_in : (d : ℕ) (x : Seen At) → P d → EachSite Has (site_here ps marks w d x)
  here_in d (seen p u e) h = by_in d p u (an_expr e) (expr_mark ps marks w p e) h
  here_in d (seen_type p t) h = types_in d p (named_in t) h
  here_in d (seen_stmt p s) h = tt

  among_in : (d : ℕ) (xs : List (Seen At)) → P d → EachSite Has (sites_among ps marks w d xs)
  among_in d [] h = tt
  among_in d (x ∷ xs) h = both_each Has (site_here ps marks w d x) (sites_among ps marks w d xs) (here_in d x h) (among_in d xs h)

  decls_in : (ds : List (ℕ × Decl At)) → EachItem (λ q. P q.0) ds → EachSite Has (decls_sites ps marks w ds)
  decls_in [] h = tt
  decls_in (d ∷ ds) h =
      both_each Has (sites_among ps marks w d.0 (decl_seen ps w.number w.of w.source.tree d.1)) (decls_sites ps marks w ds)
      (among_in d.0 (decl_seen ps w.number w.of w.source.tree d.1) h.0) (decls_in ds h.1)

-- a declaration with this number
abbrev pub HasDecl : List (Decl At) → ℕ → Type 0
HasDecl ds i = (d : Decl At) × (slice_get ds i ≡ Some d)

items_there : (ds : List (Decl At)) (qs : List (ℕ × Decl At)) → EachItem (λ q. slice_get ds q.0 ≡ Some q.1) qs → EachItem (λ q. HasDecl ds q.0) qs
items_there ds [] h = tt
items_there ds (q ∷ qs) h = ((q.1, h.0), items_there ds qs h.1)

-- each site of a file stands in one of its declarations
pub sites_in_decls : (ps : List (Package At)) (marks : List MarkRef) (w : Where At) → EachSite (λ x. HasDecl w.source.tree.decls x.decl) (decls_sites ps marks w (numbered w.source.tree.decls))
sites_in_decls ps marks w =
    decls_in ps marks w (HasDecl w.source.tree.decls) (numbered w.source.tree.decls) (items_there w.source.tree.decls (numbered w.source.tree.decls) (all_numbered w.source.tree.decls))
