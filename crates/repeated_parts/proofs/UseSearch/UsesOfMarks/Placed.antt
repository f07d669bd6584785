-- The sites of a file, and the uses of marked constants in it.
use Rattle.std.proofs.Common.{◌≡◌, ◌∙◌, refl, sym, ap, subst, ℕ, suc, ◌+◌, List, [], ◌∷◌, ◌++◌, Option, Some, None, arith}
use Rattle.std.specs.Prelude.{Bool, slice_get}
use Rattle.std.proofs.lemmas.List.{map-append}
use Rattle.go_tree.specs.Tree.{TypeExpr}
use Rattle.go_tree.specs.File.{Decl}
use Rattle.pkg_graph.specs.Package.{Package}
use Rattle.run_rules.specs.Surroundings.{Use, other, Place, Seen, seen, seen_type, seen_stmt}
use Rattle.run_rules.specs.Programs.{numbered, numbered_from, decl_seen}
use Rattle.run_rules.specs.Sites.{MarkRef, Where, Part, an_expr, a_type_part, Site, part_span, named_in, expr_mark, type_mark, site_by, type_sites, site_here, sites_among, decls_sites}
use Rattle.run_rules.specs.Respanned.{decl_with, decls_with, file_with, packages_with}
use Rattle.run_rules.specs.Steps.{At}
use Rattle.run_rules.specs.Run.{here_of}
use Rattle.member_uses.specs.Agreement.{AgreesAt}
use Rattle.member_uses.specs.Parts.{AtTypes, AtPart, AtParts}
use Rattle.member_uses.proofs.PlacesMean.{places_mean}
use Rattle.member_uses.specs.PossibleUses.Parts.{parts_of}
use Rattle.member_uses.specs.Uses.{Used, Names}
use Rattle.member_uses.specs.Laws.{AllConstants, Knows}
use Rattle.repeated_parts.specs.declared.literal_types.table.LiteralTypes.{LiteralTypes}
use Rattle.repeated_parts.specs.LiteralTypes.Tables.{numbers_in}
use Rattle.repeated_parts.specs.LiteralTypes.Told.{FieldsTold}
use Rattle.repeated_parts.specs.Flags.{flags_of}
use Rattle.repeated_parts.specs.Along.{is_again}
use Rattle.repeated_parts.specs.UsesRepeated.Uses.{flagged_uses}
use Rattle.repeated_parts.specs.UsesRepeated.Laws.{site_flags, RepeatedUsesAreSites}
use Rattle.repeated_parts.specs.UseSearch.UsesOfMarks.Uses.{PlacedMark, in_decl, placed_in, decl_uses, decls_uses}
use Rattle.repeated_parts.specs.UseSearch.UsesOfMarks.Laws.{IsSound, EachSound, EachTold, placed_site, placed_sites, EachSite, MarkedUsesAreSites, IsPlaced, UsesArePlaced}
use Rattle.repeated_parts.proofs.UseSearch.UsesOfMarks.BlocksStay.{marks_stay}
use Rattle.repeated_parts.proofs.UseSearch.UsesOfMarks.Among.{AllMarked, decls_marked}
use Rattle.repeated_parts.proofs.UseSearch.UsesOfMarks.UsesStay.{flagged_stay}

pub both_each : (P : Site At → Type 0) (xs ys : List (Site At)) → EachSite P xs → EachSite P ys → EachSite P (xs ++ ys)
both_each P [] ys a b = b
both_each P (x ∷ xs) ys a b = (a.0, both_each P xs ys a.1 b)

-- what holds of each use in a declaration, where `A` holds at its place and its first byte
module _ (ps : List (Package At)) (marks : List MarkRef) (w : Where At) (i : ℕ) (P : Site At → Type 0) (A : Place At → ℕ → Type 0)
    (one : (p : Place At) (u : Use) (x : Part At) (m : MarkRef) → A p (here_of (part_span x)).start → P (record { at = w; decl = i; place = p; use_ = u; part = x; mark = m })) where
  by_mark : (p : Place At) (u : Use) (x : Part At) (o : Option MarkRef) → A p (here_of (part_span x)).start → EachSite P (site_by ps marks w i p u x o)
  by_mark p u x None a = tt
  by_mark p u x (Some m) a = (one p u x m a, tt)

  types_each : (p : Place At) (ts : List (TypeExpr At)) → AtTypes here_of A p ts → EachSite P (type_sites ps marks w i p ts)
  types_each p [] a = tt
  types_each p (t ∷ ts) a =
      both_each P (site_by ps marks w i p other (a_type_part t) (type_mark ps marks w p t)) (type_sites ps marks w i p ts)
      (by_mark p other (a_type_part t) (type_mark ps marks w p t) a.0) (types_each p ts a.1)

  here_each : (x : Seen At) → AtPart here_of A x → EachSite P (site_here ps marks w i x)
  here_each (seen p u e) a = by_mark p u (an_expr e) (expr_mark ps marks w p e) a
  here_each (seen_type p t) a = types_each p (named_in t) a
  here_each (seen_stmt p s) a = tt

  pub among_each : (xs : List (Seen At)) → AtParts here_of A xs → EachSite P (sites_among ps marks w i xs)
  among_each [] a = tt
  among_each (x ∷ xs) a = both_each P (site_here ps marks w i x) (sites_among ps marks w i xs) (here_each x a.0) (among_each xs a.1)

-- sites in the declaration with this number
placed_is : (i : ℕ) (xs : List (Site At)) → EachSite (λ x. x.decl ≡ i) xs → in_decl i (site_flags here_of xs) ≡ placed_sites xs
placed_is i [] h = refl
placed_is i (x ∷ xs) h =
    ap (λ (k : ℕ). (k, ((here_of (part_span x.part), x.mark), is_again x.place)) ∷ in_decl i (site_flags here_of xs)) (sym h.0)
    ∙ ap (λ (ys : List PlacedMark). placed_site x ∷ ys) (placed_is i xs h.1)

-- the declarations are those of a list from a number on
abbrev AreFrom : List (Decl At) → ℕ → List (Decl At) → Type 0
AreFrom all i ds = (j : ℕ) (d : Decl At) → slice_get ds j ≡ Some d → slice_get all (i + j) ≡ Some d

first_from : (all : List (Decl At)) (i : ℕ) (d : Decl At) (ds : List (Decl At)) → AreFrom all i (d ∷ ds) → slice_get all i ≡ Some d
first_from all i d ds a = let e : i + 0 ≡ i = omega arith in subst (λ (n : ℕ). slice_get all n ≡ Some d) e (a 0 d refl)

later_from : (all : List (Decl At)) (i : ℕ) (d : Decl At) (ds : List (Decl At)) → AreFrom all i (d ∷ ds) → AreFrom all (suc i) ds
later_from all i d ds a = λ j x h. let e : i + suc j ≡ suc i + j = omega arith in subst (λ (n : ℕ). slice_get all n ≡ Some x) e (a (suc j) x h)

all_from : (ds : List (Decl At)) → AreFrom ds 0 ds
all_from ds = λ j d h. let e : j ≡ 0 + j = omega arith in subst (λ (n : ℕ). slice_get ds n ≡ Some d) e h

module _ (ps : List (Package At)) (marks : List MarkRef) (w : Where At) (f : Names) (k : Knows here_of (file_with here_of) ps w f) where
  agreeing : (i : ℕ) (d : Decl At) → slice_get w.source.tree.decls i ≡ Some d → IsSound ps w d
      → AtParts here_of (AgreesAt ps w f.table) (decl_seen ps w.number w.of w.source.tree d)
  agreeing i d there s = places_mean At here_of ps w k.text k.names f.table i d k.reads k.told k.table there s.scoped

  abbrev uses_of : ℕ → Decl At → List (Site At)
  uses_of i d = sites_among ps marks w i (decl_seen ps w.number w.of w.source.tree d)

  -- ---- the uses are the sites

  module _ (law : RepeatedUsesAreSites At here_of (file_with here_of)) (c : AllConstants ps marks) (t : LiteralTypes) where
    one_decl : (i : ℕ) (d : Decl At) → slice_get w.source.tree.decls i ≡ Some d → IsSound ps w d → FieldsTold (numbers_in here_of f t) (decl_seen ps w.number w.of w.source.tree d)
        → decl_uses (λ s. s) (packages_with here_of ps) marks f t (i, decl_with here_of d) ≡ placed_sites (uses_of i d)
    one_decl i d there s told =
        ap (λ (us : List (Used × Bool)). placed_in (packages_with here_of ps) marks i us) (flagged_stay here_of f t d)
        ∙ ap (in_decl i) (marks_stay here_of ps marks (flagged_uses here_of f (parts_of d) (flags_of (numbers_in here_of f t) d)) ∙ sym (law ps marks w f t i d k c there s.scoped s.keyed told))
        ∙ placed_is i (uses_of i d)
        (among_each ps marks w i (λ x. x.decl ≡ i) (AgreesAt ps w f.table) (λ p u x m a. refl) (decl_seen ps w.number w.of w.source.tree d) (agreeing i d there s))

    from_decl : (i : ℕ) (ds : List (Decl At)) → AreFrom w.source.tree.decls i ds → EachSound ps w ds → EachTold ps w f t ds
        → decls_uses (λ s. s) (packages_with here_of ps) marks f t (numbered_from i (decls_with here_of ds)) ≡ placed_sites (decls_sites ps marks w (numbered_from i ds))
    from_decl i [] a s told = refl
    from_decl i (d ∷ ds) a s told =
        (λ v. one_decl i d (first_from w.source.tree.decls i d ds a) s.0 told.0 v ++ from_decl (suc i) ds (later_from w.source.tree.decls i d ds a) s.1 told.1 v)
        ∙ sym (map-append placed_site (uses_of i d) (decls_sites ps marks w (numbered_from (suc i) ds)))

  -- ---- each stands in the file

  abbrev Stands : Site At → Type 0
  Stands x = (x.at ≡ w) × AgreesAt ps w f.table x.place (here_of (part_span x.part)).start

  stand_from : (i : ℕ) (ds : List (Decl At)) → AreFrom w.source.tree.decls i ds → EachSound ps w ds
      → EachSite Stands (decls_sites ps marks w (numbered_from i ds))
  stand_from i [] a s = tt
  stand_from i (d ∷ ds) a s =
      both_each Stands (uses_of i d) (decls_sites ps marks w (numbered_from (suc i) ds))
      (among_each ps marks w i Stands (AgreesAt ps w f.table) (λ p u x m h. (refl, h)) (decl_seen ps w.number w.of w.source.tree d)
      (agreeing i d (first_from w.source.tree.decls i d ds a) s.0))
      (stand_from (suc i) ds (later_from w.source.tree.decls i d ds a) s.1)

  placed_all : (xs : List (Site At)) → EachSite Stands xs → AllMarked marks (placed_sites xs) → EachSite (IsPlaced ps marks w f) xs
  placed_all [] h k = tt
  placed_all (x ∷ xs) h k = (record { there = h.0.0; agrees = h.0.1; is_marked = k.0 }, placed_all xs h.1 k.1)

pub uses_are_sites : RepeatedUsesAreSites At here_of (file_with here_of) → MarkedUsesAreSites
uses_are_sites law ps marks w f t k c s told = from_decl ps marks w f k law c t 0 w.source.tree.decls (all_from w.source.tree.decls) s told

pub uses_placed : RepeatedUsesAreSites At here_of (file_with here_of) → UsesArePlaced
uses_placed law ps marks w f t k c s told =
    placed_all ps marks w f k (decls_sites ps marks w (numbered w.source.tree.decls)) (stand_from ps marks w f k 0 w.source.tree.decls (all_from w.source.tree.decls) s)
    (subst (AllMarked marks) (uses_are_sites law ps marks w f t k c s told)
    (decls_marked (packages_with here_of ps) marks f t (numbered (decls_with here_of w.source.tree.decls))))
