-- Steps: what the form and the program after are asked, so that each declaration leads to the marked functions to which
-- it led, but that what was used gives way (Go specification, Calls; Constant declarations; Alias declarations;
-- Declarations and scope).
use Rattle.std.specs.Prelude.{◌≡◌, List, Some, None, slice_get}
use Rattle.go_tree.specs.Tree.{Stmt}
use Rattle.go_tree.specs.File.{Decl}
use Rattle.pkg_graph.specs.Package.{Package}
use Rattle.constant_steps.specs.StepLaws.DeclStands.{DeclStands}
use Rattle.run_rules.specs.Surroundings.{Place}
use Rattle.run_rules.specs.Rewriting.{Changes}
use Rattle.run_rules.specs.Respanned.{decl_with}
use Rattle.run_rules.specs.Programs.{top_place, body_place, decl_seen}
use Rattle.run_rules.specs.Sites.{MarkRef, Where, Site, part_span, where_is}
use Rattle.run_rules.specs.FormTrees.{Form}
use Rattle.run_rules.specs.Steps.{At, same_here, changes_for}
use Rattle.run_rules.specs.Run.{origin_of}
use Rattle.order_runs.specs.CycleLaws.PutCalls.{called_among, AllPutCallAlike}

-- no statement is replaced
abbrev pub KeepsStatements : {S : Type 0} → Changes S → Type 0
KeepsStatements {S = S} c = (p : Place S) (s : Stmt S) → c.stmt p s ≡ None

-- Two programs read calls alike: a declaration in a file of the one calls the marked functions that one which differs
-- by where its nodes stand calls in the same file of the other.
abbrev pub ReadCallsAlike : List MarkRef → List (Package At) → List (Package At) → Type 0
ReadCallsAlike marks before after =
    (a : MarkRef) (w v : Where At) → where_is before a ≡ Some w → where_is after a ≡ Some v → (d e : Decl At)
    → decl_with origin_of e ≡ decl_with origin_of d
    → called_among after marks v a.decl (decl_seen after v.number v.of v.source.tree e)
    ≡ called_among before marks w a.decl (decl_seen before w.number w.of w.source.tree d)

-- They do so where declarations stand: one that stands in a file of the second calls the marked functions that one
-- which differs by where its nodes stand calls in the same file of the first.
abbrev pub ReadCallsAlikeIn : List MarkRef → List (Package At) → List (Package At) → Type 0
ReadCallsAlikeIn marks before after =
    (a : MarkRef) (w v : Where At) → where_is before a ≡ Some w → where_is after a ≡ Some v → (d e : Decl At)
    → slice_get v.source.tree.decls a.decl ≡ Some e → decl_with origin_of e ≡ decl_with origin_of d
    → called_among after marks v a.decl (decl_seen after v.number v.of v.source.tree e)
    ≡ called_among before marks w a.decl (decl_seen before w.number w.of w.source.tree d)

-- In the declaration of the use all that the form puts has the same facts, and calls the marked functions that stood
-- there, but that what was used gives way to what it leads to.
pub record PutsAlike (marks : List MarkRef) (ps : List (Package At)) (x : Site At) (f : Form At) : Type 0 where
  pub statements : KeepsStatements (changes_for same_here (part_span x.part) f)
  pub stands :
      (d : Decl At) → slice_get x.at.source.tree.decls x.decl ≡ Some d
      → DeclStands same_here ps (changes_for same_here (part_span x.part) f) (λ t u. Unit {0})
      (λ i. record (top_place ps x.at.number x.at.of x.at.source.tree).env { iota = i })
      (λ g. (body_place ps x.at.number x.at.of x.at.source.tree g).env)
      (top_place ps x.at.number x.at.of x.at.source.tree) (λ g. body_place ps x.at.number x.at.of x.at.source.tree g) d
  pub calls :
      (d : Decl At) → slice_get x.at.source.tree.decls x.decl ≡ Some d
      → AllPutCallAlike ps marks x.at x.decl x.mark (changes_for same_here (part_span x.part) f)
      (decl_seen ps x.at.number x.at.of x.at.source.tree d)
