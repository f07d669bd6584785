-- The laws of bodies in well-typed packages. Each is the contract of a function of this crate (Go specification, Calls;
-- Declarations and scope; Function literals).
use Rattle.std.specs.Prelude.{◌≡◌, ℕ, Bool, List}
use Rattle.pkg_graph.specs.Package.{Package}
use Rattle.run_rules.specs.Cycles.{is_recursive}
use Rattle.run_rules.specs.FormTrees.{FormKind}
use Rattle.run_rules.specs.Run.{Standing, Logged, Next}
use Rattle.run_rules.specs.Sites.{MarkRef, Site}
use Rattle.run_rules.specs.Steps.{At, same_here}
use Rattle.splice_laws.specs.RunLaws.Reading.{ProgramReads}
use Rattle.order_runs.specs.CycleRuns.Linked.{Linked, SettlesFile}
use Rattle.literal_cycles.specs.FormCycles.Bodies.{StandsInFunction}
use Rattle.literal_cycles.specs.BodyForms.Uses.{CalledUse, LinkedUse}
use Rattle.argument_cycles.specs.Callees.{BodyMeant}
use Rattle.argument_cycles.specs.FreeSteps.{PutsFreeBlock, PutsFreeLiteral}
use Rattle.argument_cycles.specs.TypedBodies.Served.{CalleesServed}
use Rattle.argument_cycles.specs.TypedBodies.Steps.{PutsTypedBlock, PutsTypedLiteral}

-- In well-typed packages what a body calls by a name alone is declared outside the function, wherever it stands in the
-- body, and literals of functions have types, also where the parameters that are chosen mean their arguments: a body
-- declares variables and constants alone, which nothing calls.
abbrev pub TypedBodiesAreMeant : Type 0
TypedBodiesAreMeant =
    (commented : ℕ → ℕ → At → Bool) (rs : List (Package At)) (marks : List MarkRef) (x : Site At)
    (u : CalledUse same_here commented rs marks x) (k : FormKind) → LinkedUse same_here commented rs marks x u
    → CalleesServed commented rs marks x u k → BodyMeant commented rs marks x u k

-- ---- steps

-- So a step over a call in such packages puts statements whose callees are known by their names.
abbrev pub TypedBlocksAreFree : Type 0
TypedBlocksAreFree =
    (marks : List MarkRef) (st : Standing) (l : Logged) (after : Standing) (n : Next marks st l after)
    → PutsTypedBlock n → PutsFreeBlock n

-- So it is of a literal.
abbrev pub TypedLiteralsAreFree : Type 0
TypedLiteralsAreFree =
    (marks : List MarkRef) (st : Standing) (l : Logged) (after : Standing) (n : Next marks st l after)
    → PutsTypedLiteral n → PutsFreeLiteral n

-- So such a step in a function keeps which marked functions lie on a cycle.
abbrev pub TypedBlockStepsKeepCycles : Type 0
TypedBlockStepsKeepCycles =
    (marks : List MarkRef) (st : Standing) (l : Logged) (after : Standing) (n : Next marks st l after)
    → Linked st.packages → ProgramReads st → SettlesFile n → StandsInFunction n → PutsTypedBlock n
    → (m : MarkRef) → is_recursive st.packages marks m ≡ is_recursive after.packages marks m

-- And so it is of a literal.
abbrev pub TypedLiteralStepsKeepCycles : Type 0
TypedLiteralStepsKeepCycles =
    (marks : List MarkRef) (st : Standing) (l : Logged) (after : Standing) (n : Next marks st l after)
    → Linked st.packages → ProgramReads st → SettlesFile n → StandsInFunction n → PutsTypedLiteral n
    → (m : MarkRef) → is_recursive st.packages marks m ≡ is_recursive after.packages marks m
