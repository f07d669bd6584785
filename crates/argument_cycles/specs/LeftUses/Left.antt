-- Steps that leave what is called in the body around their use, and the values of what is declared there (Go
-- specification, Calls; Selectors; Short variable declarations; Variable declarations; For statements).
use Rattle.std.specs.Prelude.{◌≡◌, List, [], ◌∷◌, true, false, Some, slice_get}
use Rattle.go_tree.specs.Tree.{call, func_lit, const_decl, var_decl, define, range_}
use Rattle.go_tree.specs.File.{Func, func}
use Rattle.go_tree.specs.GoTypes.Declarations.{nothing_to_repeat}
use Rattle.run_rules.specs.Places.{expr_seen, all_seen, left_seen, constants_seen, variables_seen, stmts_seen}
use Rattle.run_rules.specs.Programs.{body_place}
use Rattle.run_rules.specs.Quiet.{AllQuiet}
use Rattle.run_rules.specs.Rewriting.{Changes}
use Rattle.run_rules.specs.Run.{Standing, Logged, Next}
use Rattle.run_rules.specs.Sites.{MarkRef}
use Rattle.run_rules.specs.Steps.{At}
use Rattle.run_rules.specs.Surroundings.{whole, called, other, Seen, seen, seen_stmt, alike, inner_slot, callee_place}
use Rattle.run_rules.specs.Surroundings.{in_heading, plain_slot}
use Rattle.order_runs.specs.CycleRuns.ImportCycles.ImportSteps.{file_added, packages_added, where_added}
use Rattle.literal_cycles.specs.FormCycles.Bodies.{changes_of}

module _ (c : Changes At) where
  -- Of a part that is a call, nothing changes in what is called, unless that is a literal of a function; of one that
  -- declares names, nothing changes in their values.
  abbrev pub LeavesPart : Seen At → Type 0
  LeavesPart (seen p u (call s (func_lit z g y b) xs r)) = Unit {0}
  LeavesPart (seen p u (call s f xs r)) =
      AllQuiet c (expr_seen (callee_place (inner_slot p.slot (call s f xs r) 7 true false) f p) called f)
  LeavesPart (seen_stmt p (const_decl s g ss)) = AllQuiet c (constants_seen (plain_slot p) nothing_to_repeat 0 ss)
  LeavesPart (seen_stmt p (var_decl s g ss)) = AllQuiet c (variables_seen (plain_slot p) ss)
  LeavesPart (seen_stmt p (define s ns ys)) = AllQuiet c (all_seen p (alike whole ns) ys)
  LeavesPart (seen_stmt p (range_ s x e z b)) =
      AllQuiet c (left_seen (in_heading true p) x) × AllQuiet c (expr_seen (in_heading true p) other e)
  LeavesPart y = Unit {0}

  -- so of all parts of a list
  abbrev pub AllLeft : List (Seen At) → Type 0
  AllLeft [] = Unit {0}
  AllLeft (y ∷ ys) = LeavesPart y × AllLeft ys

module _ {marks : List MarkRef} {st : Standing} {l : Logged} {after : Standing} (n : Next marks st l after) where
  -- so of all parts of the function around the use: the use stands neither in what is called there, but in literals of
  -- functions, nor among the values of what is declared
  abbrev pub LeavesBody : Type 0
  LeavesBody =
      (g : Func At) → slice_get n.found.site.at.source.tree.decls n.found.site.decl ≡ Some (func g)
      → AllLeft (changes_of n.found)
      (stmts_seen (body_place st.packages n.found.site.at.number n.found.site.at.of n.found.site.at.source.tree g)
      g.body)

  -- and so it is with the imports of the form added
  abbrev pub LeavesBodyThere : Type 0
  LeavesBodyThere =
      (g : Func At) → slice_get n.found.site.at.source.tree.decls n.found.site.decl ≡ Some (func g)
      → AllLeft (changes_of n.found)
      (stmts_seen
      (body_place (packages_added st.packages n.found) n.found.site.at.number (where_added n.found).of
      (file_added n.found) g)
      g.body)
