-- What a step is asked that adds imports to the file of its use, puts its form there and removes imports (Go
-- specification, Import declarations; Declarations and scope; Calls; Program initialization).
use Rattle.std.specs.Prelude.{◌≡◌, true, List, Some, slice_get}
use Rattle.go_tree.specs.File.{Decl}
use Rattle.pkg_graph.specs.Package.{Package}
use Rattle.run_rules.specs.Programs.{decl_seen}
use Rattle.run_rules.specs.Sites.{MarkRef, Site, part_span}
use Rattle.run_rules.specs.Steps.{At, Found, same_here, changes_for, new_decl}
use Rattle.run_rules.specs.Cycles.{is_recursive}
use Rattle.run_rules.specs.Run.{Standing, Logged, Next, Run, ends, goes_on}
use Rattle.order_runs.specs.CycleLaws.PutCalls.{AllPutCallAlike}
use Rattle.order_runs.specs.CycleLaws.PutSteps.{KeepsStatements}
use Rattle.order_runs.specs.CycleRuns.StepCycles.Steps.{StandsAtEnds}
use Rattle.order_runs.specs.CycleRuns.ImportCycles.ImportSteps.{file_added, packages_added, where_added, decl_put}
use Rattle.order_runs.specs.CycleRuns.ImportCycles.ImportSteps.{AddsNewNames, KeepsNames, KeepsLookUps}
use Rattle.order_runs.specs.CycleRuns.OrderCycles.Orders.{AllOrdered}

-- the use with the imports of its form added to its file
abbrev pub site_added : Found At → Site At
site_added f = record f.site { at = where_added f }

-- The form is put in the declaration of the use as it is with its imports added.
abbrev pub PutsTheSame : List (Package At) → Found At → Type 0
PutsTheSame ps f =
    (d : Decl At) → slice_get f.site.at.source.tree.decls f.site.decl ≡ Some d
    → new_decl same_here (packages_added ps f) (changes_for same_here (part_span f.site.part) f.form) f.site.at.number
    (where_added f).of (file_added f) d
    ≡ decl_put ps f d

-- The imports that the step adds have new names, and each identifier of the file as it is read again is the name of the
-- same import as with them added, or of none; no imports lead to a cycle of packages, before, with these added and
-- after.
pub record KeepsImportNames {marks : List MarkRef} {st : Standing} {l : Logged} {after : Standing}
    (n : Next marks st l after) : Type 0 where
  pub new_names : AddsNewNames st.packages n.found
  pub kept_names : KeepsNames n
  pub ordered : AllOrdered st.packages
  pub ordered_added : AllOrdered (packages_added st.packages n.found)
  pub ordered_after : AllOrdered after.packages

-- The same, where each name that the file as it is read again looks up is that of the same import as with them added,
-- or of none: nothing is asked of identifiers that are looked up nowhere.
pub record KeepsImportLookUps {marks : List MarkRef} {st : Standing} {l : Logged} {after : Standing}
    (n : Next marks st l after) : Type 0 where
  pub new_names : AddsNewNames st.packages n.found
  pub kept_names : KeepsLookUps n
  pub ordered : AllOrdered st.packages
  pub ordered_added : AllOrdered (packages_added st.packages n.found)
  pub ordered_after : AllOrdered after.packages

-- Such a step, with whose imports added the form has the same facts, replaces no statement, and calls what stood there,
-- but that what was used, which lies on no cycle, gives way to what it leads to.
pub record GivesWayAdded {marks : List MarkRef} {st : Standing} {l : Logged} {after : Standing}
    (n : Next marks st l after) : Type 0 where
  pub imports : KeepsImportNames n
  pub stands : StandsAtEnds (packages_added st.packages n.found) (site_added n.found) n.found.form
  pub statements : KeepsStatements (changes_for same_here (part_span n.found.site.part) n.found.form)
  pub calls :
      (d : Decl At) → slice_get n.found.site.at.source.tree.decls n.found.site.decl ≡ Some d
      → AllPutCallAlike (packages_added st.packages n.found) marks (where_added n.found) n.found.site.decl
      n.found.site.mark (changes_for same_here (part_span n.found.site.part) n.found.form)
      (decl_seen (packages_added st.packages n.found) n.found.site.at.number (where_added n.found).of
      (file_added n.found) d)
  pub off : is_recursive st.packages marks n.found.site.mark ≡ true → ⊥

-- so does each step of a run
abbrev pub AllGiveWayAdded : {marks : List MarkRef} {st last : Standing} {log : List Logged}
    → Run marks st log last → Type 0
AllGiveWayAdded (ends st over) = Unit {0}
AllGiveWayAdded (goes_on st next last l log n run) = GivesWayAdded n × AllGiveWayAdded run
