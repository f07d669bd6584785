-- The laws of the calls of functions' bodies in the place of calls. Each is the contract of a function of this crate
-- (Go specification, Calls; Return statements; Blocks; Declarations and scope).
use Rattle.std.specs.Prelude.{◌≡◌, ℕ, ◌⊎◌, Bool, true, List}
use Rattle.go_tree.specs.Tree.{Expr, Stmt, inner, Stmts}
use Rattle.pkg_graph.specs.Package.{Package}
use Rattle.run_rules.specs.Surroundings.{other, Place, block}
use Rattle.run_rules.specs.Places.{expr_seen, stmts_seen}
use Rattle.run_rules.specs.Sites.{MarkRef, is_among_marks, Where, Site}
use Rattle.run_rules.specs.FormTrees.{FormKind, ExprForm, Form, as_block}
use Rattle.run_rules.specs.Steps.{At, same_here, changes_for}
use Rattle.run_rules.specs.Cycles.{leads_to, LeadsTo, is_recursive}
use Rattle.run_rules.specs.Run.{Standing, Logged, Next}
use Rattle.splice_laws.specs.RunLaws.Reading.{ProgramReads}
use Rattle.order_runs.specs.CycleRuns.Linked.{Linked, SettlesFile}
use Rattle.literal_cycles.specs.FormCycles.Bodies.{StandsInFunction}
use Rattle.order_runs.specs.CycleLaws.PutCalls.{called_among}
use Rattle.literal_cycles.specs.FormCycles.Puts.{CalleeStays, ExprCallsThrough, StatementCallsThrough, PutsInBody}
use Rattle.literal_cycles.specs.BodyForms.Steps.{IsStatement, BeforeDotStays, PutsBody, PutsBlock, PutsExpression}
use Rattle.literal_cycles.specs.BodyForms.Arguments.{PutsArguments}
use Rattle.literal_cycles.specs.BodyForms.Uses.{CalledUse, TypedForm, IsExpression, ConvertsToType, TypedBlock}
use Rattle.literal_cycles.specs.FormCycles.Blocks.{Holds}

-- The statements that a call becomes in braces, a block or a tail, call in a block at its place what the function leads
-- to, and nothing else.
abbrev pub BlocksCallTheirFunctions : Type 0
BlocksCallTheirFunctions =
    (commented : ℕ → ℕ → At → Bool) (rs : List (Package At)) (marks : List MarkRef) (x : Site At) (k : FormKind)
    (u : TypedForm commented rs marks x k) (b : Stmts At) → u.becomes.form ≡ as_block b → (at : ℕ)
    → called_among rs marks x.at at (stmts_seen (block x.place) b) ≡ leads_to rs marks x.mark

-- So does the expression that a call becomes, or that is assigned to `_` in its place, where a type to which it is
-- converted names no marked function.
abbrev pub ExpressionsCallTheirFunctions : Type 0
ExpressionsCallTheirFunctions =
    (commented : ℕ → ℕ → At → Bool) (rs : List (Package At)) (marks : List MarkRef) (x : Site At)
    (u : TypedForm commented rs marks x ExprForm) → ConvertsToType same_here commented rs marks x u.use_ →
    (e : Expr At) → IsExpression e u.becomes.form → (at : ℕ)
    → called_among rs marks x.at at (expr_seen x.place other e) ≡ leads_to rs marks x.mark

-- So the expression calls what the call did, but that the function gives way to what it leads to.
abbrev pub ExpressionsCallThrough : Type 0
ExpressionsCallThrough =
    (commented : ℕ → ℕ → At → Bool) (rs : List (Package At)) (marks : List MarkRef) (x : Site At)
    (u : TypedForm commented rs marks x ExprForm) → ConvertsToType same_here commented rs marks x u.use_ →
    (e : Expr At) → IsExpression e u.becomes.form → (at : ℕ)
    → ExprCallsThrough rs marks x.at at x.mark x.place e u.use_.tree

-- Where no argument takes its parameter's place, the statements that a call of a function with parameters becomes in
-- braces call what the receiver and the arguments do and what the function leads to, and nothing else. Put for a
-- statement that is the call or returns it, they call what that did, but that the function gives way.
abbrev pub BoundBlocksCallThrough : Type 0
BoundBlocksCallThrough =
    (commented : ℕ → ℕ → At → Bool) (rs : List (Package At)) (marks : List MarkRef) (x : Site At) (k : FormKind)
    (u : TypedBlock commented rs marks x k) (b : Stmts At) → u.becomes.form ≡ as_block b → (z : At) (s : Stmt At)
    → Holds u.use_.tree s → (at : ℕ) → StatementCallsThrough rs marks x.at at x.mark x.place (inner z b) s

-- The one expression of a function or method, with the receiver and the arguments in the places of its parameters, calls
-- only what the call did or what the function leads to; so it is where it is assigned to `_`.
abbrev pub ArgumentsComeThrough : Type 0
ArgumentsComeThrough =
    (commented : ℕ → ℕ → At → Bool) (rs : List (Package At)) (marks : List MarkRef) (x : Site At)
    (u : CalledUse same_here commented rs marks x) (k : PutsArguments commented rs marks x u) (e : Expr At) →
    IsExpression e k.becomes.form → (at : ℕ) (b : MarkRef) →
    is_among_marks (called_among rs marks x.at at (expr_seen x.place other e)) b ≡ true →
    (is_among_marks (called_among rs marks x.at at (expr_seen x.place other u.tree)) b ≡ true)
    ⊎ LeadsTo rs marks x.mark b

-- ---- steps

-- Where a statement is put, what is called around it names what it named, if what stands before a dot has the type that
-- it had: of what is called by a name, or by a name behind a name, nothing is asked.
abbrev pub CalleesStayAround : Type 0
CalleesStayAround =
    (ps : List (Package At)) (marks : List MarkRef) (v : Where At) (at : ℕ) (m : MarkRef) (span : At) (f : Form At) →
    IsStatement f → (p : Place At) (y : Expr At) → BeforeDotStays (changes_for same_here span f) p y →
    CalleeStays ps marks v at m (changes_for same_here span f) p y

-- A step that puts such a body, where the files of the program read from their texts, puts in the function around it
-- what calls through: an expression, an assignment to `_`, a block or a tail.
abbrev pub BodiesArePut : Type 0
BodiesArePut =
    (marks : List MarkRef) (st : Standing) (l : Logged) (after : Standing) (n : Next marks st l after)
    → ProgramReads st → PutsBody n → PutsInBody n

-- So such a step in a function keeps which marked functions lie on a cycle.
abbrev pub StepsToBodiesKeepCycles : Type 0
StepsToBodiesKeepCycles =
    (marks : List MarkRef) (st : Standing) (l : Logged) (after : Standing) (n : Next marks st l after)
    → Linked st.packages → ProgramReads st → SettlesFile n → StandsInFunction n → PutsBody n
    → (m : MarkRef) → is_recursive st.packages marks m ≡ is_recursive after.packages marks m

-- So it is of a step that puts a block or a tail which binds the arguments first.
abbrev pub BoundBlocksArePut : Type 0
BoundBlocksArePut =
    (marks : List MarkRef) (st : Standing) (l : Logged) (after : Standing) (n : Next marks st l after)
    → ProgramReads st → PutsBlock n → PutsInBody n

-- So such a step in a function keeps which marked functions lie on a cycle.
abbrev pub StepsToBoundBlocksKeepCycles : Type 0
StepsToBoundBlocksKeepCycles =
    (marks : List MarkRef) (st : Standing) (l : Logged) (after : Standing) (n : Next marks st l after)
    → Linked st.packages → ProgramReads st → SettlesFile n → StandsInFunction n → PutsBlock n
    → (m : MarkRef) → is_recursive st.packages marks m ≡ is_recursive after.packages marks m

-- And so it is of a step that puts an expression with arguments in the places of parameters, where what they call is
-- called still.
abbrev pub ExpressionsArePut : Type 0
ExpressionsArePut =
    (marks : List MarkRef) (st : Standing) (l : Logged) (after : Standing) (n : Next marks st l after)
    → ProgramReads st → PutsExpression n → PutsInBody n

-- So such a step in a function keeps which marked functions lie on a cycle.
abbrev pub StepsToExpressionsKeepCycles : Type 0
StepsToExpressionsKeepCycles =
    (marks : List MarkRef) (st : Standing) (l : Logged) (after : Standing) (n : Next marks st l after)
    → Linked st.packages → ProgramReads st → SettlesFile n → StandsInFunction n → PutsExpression n
    → (m : MarkRef) → is_recursive st.packages marks m ≡ is_recursive after.packages marks m
