-- What is put for a call of a marked function calls what the function calls, and what the call did besides (Go
-- specification, Calls). As a relation: an edge gives way to the edges of what it led to.
use Rattle.std.specs.Prelude.{◌≡◌, ℕ, ◌⊎◌, true, List, [], ◌∷◌, Some, slice_get}
use Rattle.go_tree.specs.Tree.{NameAt, Expr, selector}
use Rattle.go_tree.specs.File.{Decl}
use Rattle.pkg_graph.specs.Package.{Package}
use Rattle.run_rules.specs.Surroundings.{other, Place, Seen, seen, seen_type, seen_stmt}
use Rattle.run_rules.specs.Places.{expr_seen}
use Rattle.run_rules.specs.Programs.{decl_seen}
use Rattle.run_rules.specs.Rewriting.{Changes}
use Rattle.run_rules.specs.Sites.{MarkRef, is_among_marks, Where, part_span, called_mark}
use Rattle.run_rules.specs.Classes.{type_at}
use Rattle.run_rules.specs.Steps.{At, same_here, changes_for}
use Rattle.run_rules.specs.Cycles.{LeadsTo, is_recursive}
use Rattle.run_rules.specs.Run.{Standing, Logged, Next, Run, ends, goes_on}
use Rattle.order_runs.specs.CycleLaws.PutCalls.{called_among, LiteralTyped, ConstantsCallNothing, AllPutCallAlike}
use Rattle.order_runs.specs.CycleLaws.PutSteps.{KeepsStatements}
use Rattle.order_runs.specs.CycleRuns.StepCycles.Steps.{SameImports, StandsAtEnds}

-- a function uses another, where the list of those that it uses has it
abbrev pub Uses : (MarkRef → List MarkRef) → MarkRef → MarkRef → Type 0
Uses uses a b = is_among_marks (uses a) b ≡ true

-- The edge from f to g gives way to edges from f to all that g leads to.
pub data Rerouted {A : Type 0} (leads : A → A → Type 0) (f g : A) : A → A → Type 0 where
  another_edge : (a b : A) → leads a b → ((a ≡ f) × (b ≡ g) → ⊥) → Rerouted leads f g a b
  new_edge : (b : A) → leads g b → Rerouted leads f g f b

-- the parts stand in the declaration with the number `at` of the file of `w`
module _ {S : Type 0} (ps : List (Package S)) (marks : List MarkRef) (w : Where S) (at : ℕ) (m : MarkRef) where
  -- What the first expression calls, the second does, or m does; what the second calls, the first does, or it is m.
  -- Both name the same function where they are called and, if they have one type, before a dot.
  pub record CallsThrough (p : Place S) (x y : Expr S) : Type 0 where
    pub comes :
        (b : MarkRef) → is_among_marks (called_among ps marks w at (expr_seen p other x)) b ≡ true
        → (is_among_marks (called_among ps marks w at (expr_seen p other y)) b ≡ true) ⊎ LeadsTo ps marks m b
    pub stays :
        (b : MarkRef) → is_among_marks (called_among ps marks w at (expr_seen p other y)) b ≡ true
        → (is_among_marks (called_among ps marks w at (expr_seen p other x)) b ≡ true) ⊎ (b ≡ m)
    pub called_so : called_mark ps marks w p x ≡ called_mark ps marks w p y
    pub selected_so :
        type_at p.env x ≡ type_at p.env y → (s z : S) (n : NameAt S)
        → called_mark ps marks w p (selector s x (record n { span = z })) ≡ called_mark ps marks w p (selector s y n)

  module _ (c : Changes S) where
    -- so is what is put in a part's place
    abbrev pub PutCallsThrough : Seen S → Type 0
    PutCallsThrough (seen p u x) =
        LiteralTyped ps marks w at m c p x × ((y : Expr S) → c.expr p u x ≡ Some y → CallsThrough p y x)
    PutCallsThrough (seen_type p t) = Unit {0}
    PutCallsThrough (seen_stmt p s) = ConstantsCallNothing ps marks w at m c p s

    -- at all parts of a list
    abbrev pub AllPutCallThrough : List (Seen S) → Type 0
    AllPutCallThrough [] = Unit {0}
    AllPutCallThrough (x ∷ xs) = PutCallsThrough x × AllPutCallThrough xs

-- ---- steps

-- A step that keeps cycles: it changes no imports; what it puts has the same facts where the rounds of declarations
-- end; it replaces no statement; what it puts calls what stood there, but that what was used gives way to what it leads
-- to; and what was used lies on no cycle.
pub record GivesWayThere {marks : List MarkRef} {st : Standing} {l : Logged} {after : Standing}
    (n : Next marks st l after) : Type 0 where
  pub imports : SameImports n.found.site.at.source.tree n.tree
  pub stands : StandsAtEnds st.packages n.found.site n.found.form
  pub statements : KeepsStatements (changes_for same_here (part_span n.found.site.part) n.found.form)
  pub calls :
      (d : Decl At) → slice_get n.found.site.at.source.tree.decls n.found.site.decl ≡ Some d
      → AllPutCallAlike st.packages marks n.found.site.at n.found.site.decl n.found.site.mark
      (changes_for same_here (part_span n.found.site.part) n.found.form)
      (decl_seen st.packages n.found.site.at.number n.found.site.at.of n.found.site.at.source.tree d)
  pub off : is_recursive st.packages marks n.found.site.mark ≡ true → ⊥

-- so does each step of a run
abbrev pub AllGiveWay : {marks : List MarkRef} {st last : Standing} {log : List Logged} → Run marks st log last → Type 0
AllGiveWay (ends st over) = Unit {0}
AllGiveWay (goes_on st next last l log n run) = GivesWayThere n × AllGiveWay run
