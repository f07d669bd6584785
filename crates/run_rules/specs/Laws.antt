-- Laws of what a run is (golang.org/x/tools, internal/refactor/inline and analyzer inline).
use Rattle.std.specs.Prelude.{◌≡◌, ℕ, ◌<◌, ◌≤◌, ◌^◌, ◌⊎◌, ◌↔◌, Bool, true, List, []}
use Rattle.std.specs.Prelude.{◌∷◌, length, None, is_some, Contains}
use Rattle.go_tree.specs.declared.spans.Span.{Span}
use Rattle.go_tree.specs.declared.tokens.Token.{Token}
use Rattle.go_tree.specs.Tree.{Expr, Stmts}
use Rattle.go_tree.specs.File.{ImportDecl, File}
use Rattle.text_edits.specs.Applied.{Ascend}
use Rattle.param_choice.specs.declared.table.CallTable.{CallTable}
use Rattle.param_choice.specs.Chosen.{has}
use Rattle.param_choice.specs.Greatest.{IsGreatest}
use Rattle.pkg_graph.specs.Package.{Package}
use Rattle.pkg_graph.specs.Order.{IsDependencyOrder}
use Rattle.pkg_graph.specs.Reads.{Source}
use Rattle.run_rules.specs.declared.import_rules.new_import.Needed.{Needed}
use Rattle.run_rules.specs.ImportRules.Needs.{avoided, IsNeeded}
use Rattle.run_rules.specs.ImportRules.Laid.{IsStart, Laid}
use Rattle.run_rules.specs.Surroundings.{Use, Place}
use Rattle.run_rules.specs.Places.{expr_seen, stmts_seen}
use Rattle.run_rules.specs.Rewriting.{Changes, new_expr, new_stmts}
use Rattle.run_rules.specs.Respanned.{expr_with, stmts_with, file_with}
use Rattle.run_rules.specs.Quiet.{AllQuiet}
use Rattle.run_rules.specs.Choice.{best}
use Rattle.run_rules.specs.Programs.{dependency_order}
use Rattle.run_rules.specs.Sites.{Where, MarkRef, Site, sites}
use Rattle.run_rules.specs.Naming.{Named, fuel_for, package_path, own_name, names_here, environment_here, named_package}
use Rattle.run_rules.specs.Cycles.{OnCycle, GivesWay, LeadsTo, is_recursive}
use Rattle.run_rules.specs.Obstacles.{Obstacle}
use Rattle.run_rules.specs.FormTrees.{FormKind, Form}
use Rattle.run_rules.specs.Texts.{FileText}
use Rattle.run_rules.specs.Steps.{At, Found}
use Rattle.run_rules.specs.Run.{Standing, Logged, here_of, step_in, FormOf, Kept, Next, Run, Limits, TooLarge}
use Rattle.run_rules.specs.Inlining.{IsInlining, IsTooLarge}

-- ---- the two walks

-- Where nothing is answered at the places that the one walk lists, the other changes spans alone.
abbrev pub ExpressionsWalkAlike : Type 0
ExpressionsWalkAlike =
    (c : Changes Span) (p : Place Span) (u : Use) (e : Expr Span) → AllQuiet c (expr_seen p u e)
    → new_expr c p u e ≡ expr_with c.span e

-- The same of statements.
abbrev pub BodiesWalkAlike : Type 0
BodiesWalkAlike =
    (c : Changes Span) (p : Place Span) (b : Stmts Span) → AllQuiet c (stmts_seen p b)
    → new_stmts c p b ≡ stmts_with c.span b

-- ---- choice, order, names

-- What striking out leaves is the greatest safe set of a call's parameters, among all or among those without constant
-- arguments.
abbrev pub StrikingLeavesGreatest : Type 0
StrikingLeavesGreatest = (t : CallTable) (constants : Bool) → IsGreatest t constants (has (best t constants))

-- The computed order of packages is their dependency order.
abbrev pub OrderIsDependencyOrder : Type 0
OrderIsDependencyOrder = (ps : List (Package Span)) → IsDependencyOrder ps (dependency_order ps)

-- whether its import is added, and the name
abbrev pub needed_of : Named → Needed
needed_of n = record { name = n.name; added = is_some n.added }

-- The name that is found for a package at a place is the one that is needed there, where the names to avoid are fewer
-- than 2^64.
abbrev pub NamesFoundAreNeeded : Type 0
NamesFoundAreNeeded =
    (ps : List (Package Span)) (w : Where Span) (p : Place Span) (bound : List (List ℕ)) (q : ℕ)
    → fuel_for w.source.tree (avoided (names_here ps w) bound) < 2 ^ 64
    → IsNeeded (names_here ps w) w.source.tree (environment_here ps w p) bound (package_path ps q) (own_name ps q)
    (needed_of (named_package ps w p bound q))

-- ---- cycles

-- The test finds exactly the functions that lie on a cycle of marked functions.
abbrev pub RecursiveIsOnCycle : Type 0
RecursiveIsOnCycle =
    (ps : List (Package Span)) (marks : List MarkRef) (m : MarkRef)
    → (is_recursive ps marks m ≡ true) ↔ OnCycle (LeadsTo ps marks) m

-- Where the uses of a function that isn't recursive give way to what that function uses, the same functions lie on
-- cycles.
abbrev pub StepsKeepCycles : Type 0
StepsKeepCycles =
    (before after : List (Package At)) (marks : List MarkRef) (m : MarkRef)
    → (is_recursive before marks m ≡ true → ⊥) → GivesWay (LeadsTo before marks) (LeadsTo after marks) m
    → (x : MarkRef) → is_recursive before marks x ≡ is_recursive after marks x

-- ---- uses

-- it becomes a form
abbrev pub HasForm : List MarkRef → Standing → Site At → Type 0
HasForm marks st x =
    (k : FormKind) × (f : Form At) × (range : At) × (named : List Named) × FormOf marks st x k f range named

-- it is kept
abbrev pub HasObstacle : List MarkRef → Standing → Site At → Type 0
HasObstacle marks st x = (o : Obstacle) × Kept marks st x o

-- Each use becomes a form, or an obstacle keeps it.
abbrev pub UsesAreDecided : Type 0
UsesAreDecided =
    (marks : List MarkRef) (st : Standing) (x : Site At) → Contains (sites st.packages marks) x
    → HasForm marks st x ⊎ HasObstacle marks st x

-- Where a program has no next one, each of its uses has an obstacle.
abbrev pub EndedRunsKeepUses : Type 0
EndedRunsKeepUses =
    (marks : List MarkRef) (st : Standing) → step_in marks st ≡ None → (x : Site At)
    → Contains (sites st.packages marks) x → HasObstacle marks st x

-- ---- edits

-- each import declaration ends at the offset or before
abbrev pub ImportsEndBy : ℕ → List (ImportDecl Span) → Type 0
ImportsEndBy at [] = Unit {0}
ImportsEndBy at (d ∷ ds) = (d.span.end ≤ at) × ImportsEndBy at ds

-- A span of the text starts with or behind a token that stands behind the package name and all imports.
pub record LiesBehindImports (text : List ℕ) (tokens : List Token) (file : File Span) (s : Span) : Type 0 where
  pub token : ℕ
  pub starts : IsStart text tokens token
  pub name_before : file.package_name.span.end ≤ token
  pub imports_before : ImportsEndBy token file.imports
  pub behind : token ≤ s.start
  pub is_span : s.start ≤ s.end
  pub within : s.end ≤ length text

-- the file of a use, as it stands
abbrev pub file_found : Found At → File Span
file_found f = file_with here_of f.site.at.source.tree

-- The edits of a step stand apart, in their order, and lie in the text, where the file's tokens and imports lie in it
-- as their spans say, and the form's range behind them.
abbrev pub StepEditsStandApart : Type 0
StepEditsStandApart =
    (marks : List MarkRef) (st : Standing) (l : Logged) (after : Standing) (n : Next marks st l after)
    → Laid n.old.text n.old.tokens (file_found n.found)
    → LiesBehindImports n.old.text n.old.tokens (file_found n.found) n.found.range.here
    → Ascend 0 (length n.old.text) l.edits

-- ---- one run

-- A program has one next one, with one row of the log.
abbrev pub OneNext : Type 0
OneNext =
    (marks : List MarkRef) (st : Standing) (l m : Logged) (a b : Standing) → Next marks st l a → Next marks st m b
    → (l ≡ m) × (a ≡ b)

-- A program has one run: its log and its last program.
abbrev pub OneRun : Type 0
OneRun =
    (marks : List MarkRef) (st last end : Standing) (log other : List Logged) → Run marks st log last
    → Run marks st other end → (log ≡ other) × (last ≡ end)

-- A module is inlined in one way: its log, its last program, its texts and its report.
abbrev pub OneInlining : Type 0
OneInlining =
    (m : Limits) (files : List Source) (ps : List (Package Span)) (texts : List (List ℕ × FileText)) (only : List ℕ)
    (a b : List (List ℕ × FileText)) (r q : List ℕ) (i : IsInlining m files ps texts only a r)
    (j : IsInlining m files ps texts only b q)
    → (i.log ≡ j.log) × (i.last ≡ j.last) × (a ≡ b) × (r ≡ q)

-- A module passes one limit at most, and the count is one.
abbrev pub OneTooLarge : Type 0
OneTooLarge =
    (m : Limits) (files : List Source) (ps : List (Package Span)) (texts : List (List ℕ × FileText)) (only : List ℕ)
    (r q : TooLarge) → IsTooLarge m files ps texts only r → IsTooLarge m files ps texts only q → r ≡ q

-- No module is inlined and passes a limit.
abbrev pub InlinedOrTooLarge : Type 0
InlinedOrTooLarge =
    (m : Limits) (files : List Source) (ps : List (Package Span)) (texts : List (List ℕ × FileText)) (only : List ℕ)
    (after : List (List ℕ × FileText)) (report : List ℕ) (r : TooLarge)
    → IsInlining m files ps texts only after report → IsTooLarge m files ps texts only r → ⊥
