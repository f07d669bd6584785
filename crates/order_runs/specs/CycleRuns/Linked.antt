-- Packages that are linked, and steps that keep it: what a step of a run is asked besides what its uses are (Go
-- specification, Import declarations; Packages; Program initialization and execution).
use Rattle.std.specs.Prelude.{◌≡◌, ℕ, List, [], Some, slice_get}
use Rattle.go_tree.specs.File.{Decl}
use Rattle.pkg_graph.specs.Package.{Package}
use Rattle.splice_laws.specs.ImportSplices.AddedFile.{AreWritable}
use Rattle.run_rules.specs.Programs.{decl_seen}
use Rattle.run_rules.specs.Sites.{MarkRef, part_span}
use Rattle.run_rules.specs.Naming.{imports_added}
use Rattle.run_rules.specs.Steps.{At, same_here, changes_for}
use Rattle.run_rules.specs.Run.{Standing, Logged, Next, Run, ends, goes_on}
use Rattle.order_runs.specs.CycleLaws.PutCalls.{AllPutCallAlike}
use Rattle.order_runs.specs.CycleLaws.PutSteps.{KeepsStatements}
use Rattle.order_runs.specs.CycleRuns.StepCycles.Steps.{StandsAtEnds}
use Rattle.order_runs.specs.CycleRuns.StepCycles.Calls.{AllPutCallThrough}
use Rattle.order_runs.specs.CycleRuns.ImportCycles.ImportSteps.{file_added, packages_added, where_added}
use Rattle.order_runs.specs.CycleRuns.OrderCycles.Orders.{AllOrdered}
use Rattle.order_runs.specs.CycleRuns.OrderCycles.NewNames.{AvoidsFew}
use Rattle.order_runs.specs.CycleRuns.OrderCycles.Steps.{site_added}
use Rattle.order_runs.specs.CycleRuns.OrderedSteps.Ranks.{OwnPaths, AddsLedTo}
use Rattle.order_runs.specs.CycleRuns.KeptImports.Files.{PutsNode, RemovesNoNames}

-- Each package has a path of its own, which isn't empty, and stands in the dependency order.
pub record Linked (ps : List (Package At)) : Type 0 where
  pub own : OwnPaths ps
  pub paths : (k : ℕ) (p : Package At) → slice_get ps k ≡ Some p → p.path ≡ [] → ⊥
  pub ordered : AllOrdered ps

-- The step's form is laid out in the place of a node; its added imports can be written, and imports lead to their
-- packages already.
pub record WritesFile {marks : List MarkRef} {st : Standing} {l : Logged} {after : Standing}
    (n : Next marks st l after) : Type 0 where
  pub puts : PutsNode n
  pub writable : AreWritable (imports_added n.found.named)
  pub led : AddsLedTo st.packages n.found

-- So it is, the names to avoid are fewer than 2^64, and no import that goes has the name of an identifier.
pub record SettlesFile {marks : List MarkRef} {st : Standing} {l : Logged} {after : Standing}
    (n : Next marks st l after) : Type 0 where
  pub puts : PutsNode n
  pub writable : AreWritable (imports_added n.found.named)
  pub led : AddsLedTo st.packages n.found
  pub few : AvoidsFew st.packages n.found
  pub removes : RemovesNoNames n

-- With its imports added the form has the facts of what stood there, replaces no statement, and calls what stood there,
-- but that what was used gives way to what it leads to.
pub record PutsWhatStood {marks : List MarkRef} {st : Standing} {l : Logged} {after : Standing}
    (n : Next marks st l after) : Type 0 where
  pub stands : StandsAtEnds (packages_added st.packages n.found) (site_added n.found) n.found.form
  pub statements : KeepsStatements (changes_for same_here (part_span n.found.site.part) n.found.form)
  pub calls :
      (d : Decl At) → slice_get n.found.site.at.source.tree.decls n.found.site.decl ≡ Some d
      → AllPutCallAlike (packages_added st.packages n.found) marks (where_added n.found) n.found.site.decl
      n.found.site.mark (changes_for same_here (part_span n.found.site.part) n.found.form)
      (decl_seen (packages_added st.packages n.found) n.found.site.at.number (where_added n.found).of
      (file_added n.found) d)

-- With its imports added, what the form puts calls what stood there, or what the function calls that is used.
abbrev pub CallsWhatStood : {marks : List MarkRef} {st : Standing} {l : Logged} {after : Standing}
    → Next marks st l after → Type 0
CallsWhatStood {marks = marks} {st = st} n =
    (d : Decl At) → slice_get n.found.site.at.source.tree.decls n.found.site.decl ≡ Some d
    → AllPutCallThrough (packages_added st.packages n.found) marks (where_added n.found) n.found.site.decl
    n.found.site.mark (changes_for same_here (part_span n.found.site.part) n.found.form)
    (decl_seen (packages_added st.packages n.found) n.found.site.at.number (where_added n.found).of
    (file_added n.found) d)

-- so does each step of a run
abbrev pub AllPut : {marks : List MarkRef} {st last : Standing} {log : List Logged} → Run marks st log last → Type 0
AllPut (ends st over) = Unit {0}
AllPut (goes_on st next last l log n run) = SettlesFile n × (PutsWhatStood n × AllPut run)
