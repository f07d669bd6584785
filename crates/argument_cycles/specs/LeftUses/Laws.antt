-- The laws of steps that leave what is around their use. Each is the contract of a function of this crate (Go
-- specification, Calls; Selectors; Short variable declarations; Variable declarations).
use Rattle.std.specs.Prelude.{◌≡◌, List, Some, slice_get}
use Rattle.go_tree.specs.File.{Func, func}
use Rattle.run_rules.specs.Places.{stmts_seen}
use Rattle.run_rules.specs.Programs.{body_place}
use Rattle.run_rules.specs.Run.{Standing, Logged, Next}
use Rattle.run_rules.specs.Sites.{MarkRef}
use Rattle.run_rules.specs.Steps.{At}
use Rattle.order_runs.specs.CycleRuns.ImportCycles.ImportSteps.{file_added, packages_added, where_added}
use Rattle.literal_cycles.specs.FormCycles.Bodies.{changes_of}
use Rattle.literal_cycles.specs.BodyForms.Steps.{AllStayThere}
use Rattle.argument_cycles.specs.FreeSteps.{StaysAround}
use Rattle.argument_cycles.specs.LeftUses.Left.{LeavesBody, LeavesBodyThere}

-- What is called around such a use names what it named, and statements declare what they declared, whatever the form.
abbrev pub LeftUsesStay : Type 0
LeftUsesStay =
    (marks : List MarkRef) (st : Standing) (l : Logged) (after : Standing) (n : Next marks st l after)
    → LeavesBody n → StaysAround n

-- So it is with the imports of the form added.
abbrev pub LeftUsesStayThere : Type 0
LeftUsesStayThere =
    (marks : List MarkRef) (st : Standing) (l : Logged) (after : Standing) (n : Next marks st l after)
    → LeavesBodyThere n → (g : Func At)
    → slice_get n.found.site.at.source.tree.decls n.found.site.decl ≡ Some (func g)
    → AllStayThere (changes_of n.found) (packages_added st.packages n.found) marks (where_added n.found)
    n.found.site.decl n.found.site.mark
    (stmts_seen
    (body_place (packages_added st.packages n.found) n.found.site.at.number (where_added n.found).of
    (file_added n.found) g)
    g.body)
