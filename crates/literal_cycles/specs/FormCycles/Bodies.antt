-- Steps in the body of a function or method: what the declaration around the use calls with the form in the use's place
-- (Go specification, Function declarations; Method declarations; Calls; Import declarations).
use Rattle.std.specs.Prelude.{◌≡◌, List, Some, slice_get}
use Rattle.go_tree.specs.File.{Func, Decl, func}
use Rattle.pkg_graph.specs.Package.{Package}
use Rattle.constant_steps.specs.StepLaws.DeclStands.{DeclStands}
use Rattle.run_rules.specs.Programs.{top_place, body_place}
use Rattle.run_rules.specs.Rewriting.{Changes}
use Rattle.run_rules.specs.Sites.{MarkRef, part_span}
use Rattle.run_rules.specs.FormTrees.{Form, as_type}
use Rattle.run_rules.specs.Steps.{At, Found, same_here, changes_for, new_decl}
use Rattle.run_rules.specs.Run.{Standing, Logged, Next}
use Rattle.order_runs.specs.CycleLaws.PutCalls.{GivesWayAmong, mark_there}
use Rattle.order_runs.specs.CycleRuns.ImportCycles.ImportSteps.{file_added, packages_added, where_added, calls_added}

-- the form is no type
abbrev pub IsNoType : {S : Type 0} → Form S → Type 0
IsNoType (as_type t) = ⊥
IsNoType f = Unit {0}

-- what the form changes at the place of the use
abbrev pub changes_of : Found At → Changes At
changes_of f = changes_for same_here (part_span f.site.part) f.form

-- the declaration of the use with the form put in it as it stands with the imports of the form added
abbrev pub decl_added : List (Package At) → Found At → Decl At → Decl At
decl_added ps f d =
    new_decl same_here (packages_added ps f) (changes_of f) f.site.at.number (where_added f).of (file_added f) d

-- The use stands in a function or method.
pub record StandsInFunction {marks : List MarkRef} {st : Standing} {l : Logged} {after : Standing}
    (n : Next marks st l after) : Type 0 where
  pub around : Func At
  pub is_around : slice_get n.found.site.at.source.tree.decls n.found.site.decl ≡ Some (func around)

-- So it does, and its form is no type: the step changes a body, and nothing that is declared outside all functions.
pub record ChangesBody {marks : List MarkRef} {st : Standing} {l : Logged} {after : Standing}
    (n : Next marks st l after) : Type 0 where
  pub stands : StandsInFunction n
  pub no_type : IsNoType n.found.form

-- With the imports of its form added, the declaration of the use calls with the form in it what it called without, but
-- that what was used gives way to what it leads to.
abbrev pub DeclGivesWay : {marks : List MarkRef} {st : Standing} {l : Logged} {after : Standing}
    → Next marks st l after → Type 0
DeclGivesWay {marks = marks} {st = st} n =
    (d : Decl At) → slice_get n.found.site.at.source.tree.decls n.found.site.decl ≡ Some d
    → GivesWayAmong (packages_added st.packages n.found) marks (mark_there (where_added n.found) n.found.site.decl)
    n.found.site.mark (calls_added marks st.packages n.found (decl_added st.packages n.found d))
    (calls_added marks st.packages n.found d)

-- With these imports added, and in what the packages declare then, the form has the facts of what stood there.
abbrev pub StandsThere : {marks : List MarkRef} {st : Standing} {l : Logged} {after : Standing}
    → Next marks st l after → Type 0
StandsThere {st = st} n =
    (d : Decl At) → slice_get n.found.site.at.source.tree.decls n.found.site.decl ≡ Some d
    → DeclStands same_here (packages_added st.packages n.found) (changes_of n.found) (λ t u. Unit {0})
    (λ i. record (top_place (packages_added st.packages n.found) n.found.site.at.number (where_added n.found).of
    (file_added n.found)).env { iota = i })
    (λ g. (body_place (packages_added st.packages n.found) n.found.site.at.number (where_added n.found).of
    (file_added n.found) g).env)
    (top_place (packages_added st.packages n.found) n.found.site.at.number (where_added n.found).of
    (file_added n.found))
    (λ g. body_place (packages_added st.packages n.found) n.found.site.at.number (where_added n.found).of
    (file_added n.found) g) d
