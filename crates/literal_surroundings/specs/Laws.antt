-- The laws of what is around a call that becomes its literal. Each is the contract of a function of this crate (Go
-- specification, Calls; Selectors; Function literals; Short variable declarations; Variable declarations).
use Rattle.std.specs.Prelude.{◌≡◌, ℕ, true, List}
use Rattle.go_tree.specs.ScopeNames.FreeNames.{names_of}
use Rattle.go_tree.specs.Tree.{Expr, Stmts}
use Rattle.go_tree.specs.GoTypes.Answers.{is_among}
use Rattle.pkg_graph.specs.Package.{Package}
use Rattle.typed_in_place.specs.SameFacts.{SameOperand}
use Rattle.run_rules.specs.Cycles.{is_recursive}
use Rattle.run_rules.specs.FormTrees.{as_expr}
use Rattle.run_rules.specs.Forms.{is_at}
use Rattle.run_rules.specs.Places.{stmts_seen}
use Rattle.run_rules.specs.Run.{Standing, Logged, Next}
use Rattle.run_rules.specs.Sites.{MarkRef, Where, Site, part_span}
use Rattle.run_rules.specs.Steps.{At, same_here, changes_for}
use Rattle.run_rules.specs.Surroundings.{Place}
use Rattle.splice_laws.specs.RunLaws.Reading.{ProgramReads}
use Rattle.constant_steps.specs.WrittenLiteral.Fine.{is_call}
use Rattle.order_runs.specs.CycleRuns.Linked.{Linked, SettlesFile}
use Rattle.literal_cycles.specs.Around.{AllStayAround}
use Rattle.literal_cycles.specs.BodyForms.Steps.{AllStayThere}
use Rattle.literal_cycles.specs.Uses.{PutsLiteral}
use Rattle.argument_cycles.specs.FreeSteps.{StaysAround}
use Rattle.literals_in_place.specs.StepsInBodies.Functions.{BlankAlike}
use Rattle.literals_in_place.specs.StepsInBodies.Once.{StandsOnce, AllClear}
use Rattle.literal_surroundings.specs.Steps.{PutsLiteralInBody}

-- In a body in which a call stands once and clear, put a call with the same facts to the rules of typing in its place:
-- what is called around it stays, and statements declare what they declared. So what is called names what it named. What
-- the block around the body has declared is listed where it begins.
abbrev pub CallsWithFactsLeaveWhatIsAround : Type 0
CallsWithFactsLeaveWhatIsAround =
    (x : Site At) (tree e : Expr At) → is_at same_here (part_span x.part) tree ≡ true → is_call tree ≡ true
    → is_call e ≡ true → SameOperand (names_of x.place.bound) x.place.env tree e → BlankAlike x.place.env tree e
    → (p : Place At) (b : Stmts At)
    → ((n : List ℕ) → is_among n p.env.here ≡ true → is_among n (names_of p.bound) ≡ true)
    → StandsOnce same_here x tree (stmts_seen p b) → AllClear same_here x (Unit {0}) (stmts_seen p b)
    → (ps : List (Package At)) (marks : List MarkRef) (v : Where At) (at : ℕ) (m : MarkRef)
    → AllStayAround (changes_for same_here (part_span x.part) (as_expr e)) (part_span x.part) tree ps marks v at m
    (stmts_seen p b)
    × AllStayThere (changes_for same_here (part_span x.part) (as_expr e)) ps marks v at m (stmts_seen p b)

-- So a step that puts a literal in the place of its call, in the body of a function, leaves what is around it.
abbrev pub LiteralsLeaveWhatIsAround : Type 0
LiteralsLeaveWhatIsAround =
    (marks : List MarkRef) (st : Standing) (l : Logged) (after : Standing) (n : Next marks st l after)
    → PutsLiteralInBody n → StaysAround n

-- It puts a literal as literal_cycles asks for.
abbrev pub LiteralsInBodiesArePut : Type 0
LiteralsInBodiesArePut =
    (marks : List MarkRef) (st : Standing) (l : Logged) (after : Standing) (n : Next marks st l after)
    → PutsLiteralInBody n → PutsLiteral n

-- So such a step keeps which marked functions lie on a cycle.
abbrev pub LiteralsInBodiesKeepCycles : Type 0
LiteralsInBodiesKeepCycles =
    (marks : List MarkRef) (st : Standing) (l : Logged) (after : Standing) (n : Next marks st l after)
    → Linked st.packages → ProgramReads st → SettlesFile n → PutsLiteralInBody n → (m : MarkRef)
    → is_recursive st.packages marks m ≡ is_recursive after.packages marks m
