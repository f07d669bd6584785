-- A use of a constant in the constant's own package, as a run finds it, and one that becomes a name with its package
-- before it (Go specification, Constant declarations; Declarations and scope; Qualified identifiers).
use Rattle.std.specs.Prelude.{◌≡◌, ℕ, true, List, [], ◌∷◌, Some, None, slice_get}
use Rattle.go_tree.specs.Tree.{NameAt, Expr, ident}
use Rattle.go_tree.specs.File.{Decl}
use Rattle.pkg_graph.specs.Package.{Package}
use Rattle.run_rules.specs.Surroundings.{Seen, seen, seen_type, seen_stmt}
use Rattle.run_rules.specs.Programs.{top_place, decl_seen}
use Rattle.run_rules.specs.Sites.{MarkRef, Where, a_constant, an_expr, Site, part_span, is_free_function, where_is}
use Rattle.run_rules.specs.Sites.{inlinable, qualifier, member_of, name_mark, marked_as, called_mark}
use Rattle.run_rules.specs.FormTrees.{as_expr}
use Rattle.run_rules.specs.Forms.{is_at}
use Rattle.run_rules.specs.Steps.{At, same_here, changes_for}
use Rattle.order_runs.specs.CycleLaws.PutCalls.{ConstantsCallNothing}

module _ (ps : List (Package At)) (marks : List MarkRef) (x : Site At) where
  -- The constant that is used is declared in the package of the use as `const c = k`, where k names a member of the
  -- package block that is no marked function.
  pub record OwnConstant (k : List ℕ) : Type 0 where
    pub home : Where At
    pub name : NameAt At
    pub at : At
    pub target : MarkRef
    pub stands : where_is ps x.mark ≡ Some home
    pub declared : inlinable ps x.mark ≡ Some (a_constant name (ident at k))
    pub own : home.number ≡ x.at.number
    pub named : name_mark ps home (top_place ps home.number home.of home.source.tree) k ≡ Some target
    pub no_callee : called_mark ps marks home (top_place ps home.number home.of home.source.tree) (ident at k) ≡ None

  -- The name q.n at the use is one of the package with the number k, whose member n is no marked function.
  pub record OfPackage (q : List ℕ) (n : NameAt At) : Type 0 where
    pub number : ℕ
    pub is : qualifier ps x.at x.place q ≡ Some number
    pub no_function : marked_as ps marks is_free_function (member_of ps number n.name) ≡ None

  -- What stands at the span of the use is the use alone; and the constants that a statement declares call nothing,
  -- before e is put there and after.
  abbrev pub OnlyUse : Expr At → Seen At → Type 0
  OnlyUse e (seen p u y) = is_at same_here (part_span x.part) y ≡ true → (p ≡ x.place) × (x.part ≡ an_expr y)
  OnlyUse e (seen_type p t) = Unit {0}
  OnlyUse e (seen_stmt p s) =
      ConstantsCallNothing ps marks x.at x.decl x.mark (changes_for same_here (part_span x.part) (as_expr e)) p s

  -- so at all parts of a list
  abbrev pub AllOnlyUse : Expr At → List (Seen At) → Type 0
  AllOnlyUse e [] = Unit {0}
  AllOnlyUse e (y ∷ ys) = OnlyUse e y × AllOnlyUse e ys

  -- so in the declaration of the use
  abbrev pub StandsAlone : Expr At → Type 0
  StandsAlone e =
      (d : Decl At) → slice_get x.at.source.tree.decls x.decl ≡ Some d
      → AllOnlyUse e (decl_seen ps x.at.number x.at.of x.at.source.tree d)
