-- Steps of a run over plain uses of constants (Go specification, Constant declarations; Declarations and scope; Import
-- declarations).
use Rattle.std.specs.Prelude.{◌≡◌, ℕ, false, ◌&&◌, List, map, Some, None, nat_eq, slice_get}
use Rattle.go_tree.specs.Tree.{NameAt, Expr, ident}
use Rattle.go_tree.specs.File.{Decl}
use Rattle.run_rules.specs.Programs.{linked_file, top_place, decl_seen}
use Rattle.run_rules.specs.Sites.{MarkRef, Where, a_constant, an_expr, where_is, inlinable, name_mark}
use Rattle.run_rules.specs.Steps.{At}
use Rattle.run_rules.specs.Run.{Standing, Logged, Next, Run, ends, goes_on}
use Rattle.order_runs.specs.CycleRuns.StepCycles.Steps.{SameImports}
use Rattle.constant_steps.specs.Alone.{PlainFiles}
use Rattle.constant_steps.specs.PlainUse.{type_marked, AllSimple}

-- The use is the constant's name, in the constant's own package, and not in its declaration. The constant is declared
-- as the name of another constant of the package block, without a type. The file keeps its imports. All declarations
-- of the package are plain, and that of the use has simple parts.
pub record IsPlain {marks : List MarkRef} {st : Standing} {l : Logged} {after : Standing} (n : Next marks st l after)
    : Type 0 where
  pub span : At
  pub name : List ℕ
  pub part : n.found.site.part ≡ an_expr (ident span name)
  pub home : Where At
  pub stands : where_is st.packages n.found.site.mark ≡ Some home
  pub same_package : home.number ≡ n.found.site.at.number
  pub elsewhere :
      (nat_eq n.found.site.mark.file n.found.site.at.file_number && nat_eq n.found.site.mark.decl n.found.site.decl)
      ≡ false
  pub constant : NameAt At
  pub at : At
  pub new : List ℕ
  pub declared : inlinable st.packages n.found.site.mark ≡ Some (a_constant constant (ident at new))
  pub untyped : type_marked st.packages n.found.site.mark ≡ None
  pub new_mark : MarkRef
  pub new_names :
      name_mark st.packages home (top_place st.packages home.number home.of home.source.tree) new ≡ Some new_mark
  pub new_constant : NameAt At
  pub new_expr : Expr At
  pub new_declared : inlinable st.packages new_mark ≡ Some (a_constant new_constant new_expr)
  pub imports : SameImports n.found.site.at.source.tree n.tree
  pub plain : PlainFiles (map (linked_file st.packages) n.found.site.at.of.files)
  pub simple :
      (d : Decl At) → slice_get n.found.site.at.source.tree.decls n.found.site.decl ≡ Some d
      → AllSimple (decl_seen st.packages n.found.site.at.number n.found.site.at.of n.found.site.at.source.tree d)

-- so is each step of a run
abbrev pub AllPlain : {marks : List MarkRef} {st last : Standing} {log : List Logged} → Run marks st log last → Type 0
AllPlain (ends st over) = Unit {0}
AllPlain (goes_on st next last l log n run) = IsPlain n × AllPlain run
