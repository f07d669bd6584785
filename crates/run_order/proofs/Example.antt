-- The uses in a type that two parameters share: each is listed twice, and so the list doesn't ascend, but for those that
-- are listed again. A list in the other order isn't in order.
--   type T = int   (marked)
--   type U = int   (marked)
--   func F(a, b map[T]U) { }
use Rattle.std.proofs.Common.{◌≡◌, refl, ℕ, inl, inr, ◌⊎◌, true, false, List, [], ◌∷◌, map, Some, None, codes, arith}
use Rattle.go_tree.specs.Tree.{NameAt, TypeExpr, named, map_type, no_stmts}
use Rattle.go_tree.specs.File.{types, File}
use Rattle.pkg_graph.specs.Package.{Package}
use Rattle.run_rules.specs.Surroundings.{Place, other}
use Rattle.run_rules.specs.Programs.{dependency_order, top_place}
use Rattle.run_rules.specs.Sites.{MarkRef, Site, a_type_part, sites}
use Rattle.run_rules.specs.Steps.{At}
use Rattle.run_rules.proofs.CaseTools.{at, from, nmf, param, sig, tspec, fn, mark}
use Rattle.run_order.specs.Order.{span_of, StandsBefore, package_before, file_before, end_before, IsAgain, UsesAscend, PathsAscend}

-- a node that comes from where it stands
abbrev node : ℕ → ℕ → At
node a b = from a b a b

abbrev name : ℕ → ℕ → List ℕ → NameAt At
name a b n = nmf a b a b n

abbrev type_name : ℕ → ℕ → List ℕ → TypeExpr At
type_name a b n = named (node a b) None (name a b n)

-- map[T]U
abbrev shared : TypeExpr At
shared = map_type (node 56 64) (type_name 60 61 (codes "T")) (type_name 62 63 (codes "U"))

abbrev tree : File At
tree = record {
  package_name = name 8 9 (codes "m");
  imports = [];
  decls = types (node 11 23) false (tspec (node 16 23) (name 16 17 (codes "T")) true (type_name 20 23 (codes "int")) ∷ [])
      ∷ types (node 24 36) false (tspec (node 29 36) (name 29 30 (codes "U")) true (type_name 33 36 (codes "int")) ∷ [])
      ∷ fn (node 37 69) None (name 42 43 (codes "F")) (sig (param (node 44 64) (Some (name 44 45 (codes "a"))) shared ∷ param (node 47 64) (Some (name 47 48 (codes "b"))) shared ∷ []) []) (node 66 69) no_stmts
      ∷ [];
}

abbrev packages : List (Package At)
packages = record { path = codes "m"; name = codes "m"; files = record { path = codes "m.go"; tree = tree } ∷ [] } ∷ []

abbrev marks : List MarkRef
marks = mark 0 0 0 0 ∷ mark 0 0 1 0 ∷ []

abbrev uses : List (Site At)
uses = sites packages marks

-- T, U, T and U
spans-are : map span_of uses ≡ at 60 61 ∷ at 62 63 ∷ at 60 61 ∷ at 62 63 ∷ []
spans-are = refl

ordered : UsesAscend (dependency_order packages) [] uses
ordered = (
  inl tt,
  (
    inl (end_before refl refl (omega arith), tt),
    (
      inr (inr (inl (record { same_package = refl; same_file = refl; same_span = refl; same_mark = refl }))),
      (inr (inr (inl (record { same_package = refl; same_file = refl; same_span = refl; same_mark = refl }))), tt),
    ),
  ),
)

abbrev place : Place At
place = top_place packages 0 (record { path = codes "m"; name = codes "m"; files = [] }) tree

-- the use of U, and then that of T before it
abbrev second : Site At
second = record { at = record { number = 0; of = record { path = codes "m"; name = codes "m"; files = [] }; file_number = 0; source = record { path = codes "m.go"; tree = tree } }; decl = 2; place = place; use_ = other; part = a_type_part (type_name 62 63 (codes "U")); mark = mark 0 0 1 0 }

abbrev first : Site At
first = record second { part = a_type_part (type_name 60 61 (codes "T")); mark = mark 0 0 0 0 }

not-before : StandsBefore (0 ∷ []) second first → ⊥
not-before (package_before (inl q)) = q.1
not-before (package_before (inr q)) = q
not-before (file_before e l) = omega (arith, l)
not-before (end_before e f l) = omega (arith, l)

not-again : IsAgain first second → ⊥
not-again a = let e : 61 ≡ 63 = (λ v. (a.same_span v).end) in omega (arith, e)

turned : UsesAscend (0 ∷ []) [] (second ∷ first ∷ []) → ⊥
turned h = by h.1.0
  where
    by : (StandsBefore (0 ∷ []) second first × Unit {0}) ⊎ (IsAgain first second ⊎ ⊥) → ⊥
    by (inl b) = not-before b.0
    by (inr (inl a)) = not-again a
    by (inr (inr z)) = z

-- ---- files

in-path-order : PathsAscend (codes "a.go" ∷ codes "a_b.go" ∷ codes "b.go" ∷ [])
in-path-order = (refl, (refl, (refl, tt)))

not-in-path-order : PathsAscend (codes "b.go" ∷ codes "a.go" ∷ []) → ⊥
not-in-path-order h = no-truth h.0
  where
    no-truth : false ≡ true → ⊥
    no-truth e = cc
