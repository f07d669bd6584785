-- The laws of methods by the types of what stands before their dots. Each is the contract of a function of this crate
-- (Go specification, Calls; Selectors; Method declarations; Method sets).
use Rattle.std.specs.Prelude.{◌≡◌, ℕ, ◌⊎◌, Bool, true, List}
use Rattle.go_tree.specs.declared.exprs.Rest.{Rest}
use Rattle.go_tree.specs.Tree.{NameAt, Expr, selector, call, Exprs, Stmt, inner}
use Rattle.pkg_graph.specs.Package.{Package}
use Rattle.run_rules.specs.Cycles.{LeadsTo, is_recursive}
use Rattle.run_rules.specs.FormTrees.{FormKind}
use Rattle.run_rules.specs.Places.{expr_seen, stmt_seen}
use Rattle.run_rules.specs.Run.{Standing, Logged, Next}
use Rattle.run_rules.specs.Sites.{MarkRef, is_among_marks, Site}
use Rattle.run_rules.specs.Steps.{At, same_here}
use Rattle.run_rules.specs.Surroundings.{Use, other, Place, seen}
use Rattle.splice_laws.specs.RunLaws.Reading.{ProgramReads}
use Rattle.order_runs.specs.CycleLaws.PutCalls.{called_among}
use Rattle.order_runs.specs.CycleRuns.Linked.{Linked, SettlesFile}
use Rattle.literal_cycles.specs.FormCycles.Blocks.{Holds}
use Rattle.literal_cycles.specs.FormCycles.Bodies.{StandsInFunction}
use Rattle.literal_cycles.specs.FormCycles.Puts.{PutsInBody}
use Rattle.literal_cycles.specs.BodyForms.Uses.{CalledUse, LinkedUse}
use Rattle.argument_cycles.specs.Braces.{IsWithin, written_there, CalleeAmong}
use Rattle.argument_cycles.specs.Callees.{BodyMeantAmong, NoPackage, called_place, base_place}
use Rattle.argument_cycles.specs.TypedBodies.Served.{CalleesServedAmong}
use Rattle.argument_cycles.specs.TypedMethods.Methods.{LedOrMethod, TypedMethodsBlock, TypedMethodsLiteral}
use Rattle.argument_cycles.specs.TypedMethods.Methods.{PutsTypedMethodsBlock, PutsTypedMethodsLiteral}

-- What is called behind a dot before which no package stands, in the body or, as it is written, within, has a receiver
-- at each place within: so of methods nothing else is asked of the body.
abbrev pub MethodsAreApart : Type 0
MethodsAreApart =
    (commented : ℕ → ℕ → At → Bool) (rs : List (Package At)) (marks : List MarkRef) (x : Site At)
    (u : CalledUse same_here commented rs marks x) (k : FormKind) (p : Place At) (w : Use) (s z : At) (d : Expr At)
    (n : NameAt At) (xs : Exprs At) (r : Rest)
    → NoPackage commented rs marks x u k u.home p d
    → ((q : Place At) → IsWithin commented rs marks x u q
    → NoPackage commented rs marks x u k x.at q
    (written_there commented rs marks x u k
    (base_place commented rs marks x u k (called_place commented rs marks x u k p (call s (selector z d n) xs r))
    (selector z d n)) other d))
    → CalleeAmong commented rs marks x u k (LedOrMethod commented rs marks x u)
    (seen p w (call s (selector z d n) xs r))

-- So in well-typed packages it is so of what the body calls, where packages whose members it calls have names at the
-- call, and its methods have receivers.
abbrev pub TypedBodiesAreApart : Type 0
TypedBodiesAreApart =
    (commented : ℕ → ℕ → At → Bool) (rs : List (Package At)) (marks : List MarkRef) (x : Site At)
    (u : CalledUse same_here commented rs marks x) (k : FormKind) → LinkedUse same_here commented rs marks x u
    → CalleesServedAmong commented rs marks x u k (LedOrMethod commented rs marks x u)
    → BodyMeantAmong commented rs marks x u k (LedOrMethod commented rs marks x u)

-- Statements in braces whose methods are such, put for a statement that is the call or returns it, call only what that
-- did or what the function leads to.
abbrev pub TypedMethodsBlocksCome : Type 0
TypedMethodsBlocksCome =
    (commented : ℕ → ℕ → At → Bool) (rs : List (Package At)) (marks : List MarkRef) (x : Site At)
    (u : CalledUse same_here commented rs marks x) (kind : FormKind)
    (k : TypedMethodsBlock commented rs marks x u kind) (z : At) (s : Stmt At) → Holds u.tree s → (b : MarkRef)
    → is_among_marks (called_among rs marks x.at x.decl (stmt_seen x.place true (inner z k.statements))) b ≡ true
    → (is_among_marks (called_among rs marks x.at x.decl (stmt_seen x.place true s)) b ≡ true)
    ⊎ LeadsTo rs marks x.mark b

-- So it is of a literal.
abbrev pub TypedMethodsLiteralsCome : Type 0
TypedMethodsLiteralsCome =
    (commented : ℕ → ℕ → At → Bool) (rs : List (Package At)) (marks : List MarkRef) (x : Site At)
    (u : CalledUse same_here commented rs marks x) (k : TypedMethodsLiteral commented rs marks x u) (b : MarkRef)
    → is_among_marks (called_among rs marks x.at x.decl (expr_seen x.place other k.literal)) b ≡ true
    → (is_among_marks (called_among rs marks x.at x.decl (expr_seen x.place other u.tree)) b ≡ true)
    ⊎ LeadsTo rs marks x.mark b

-- ---- steps

-- A step that puts such statements, where the files of the program read from their texts, puts in the function around
-- it what calls through.
abbrev pub TypedMethodsBlocksArePut : Type 0
TypedMethodsBlocksArePut =
    (marks : List MarkRef) (st : Standing) (l : Logged) (after : Standing) (n : Next marks st l after)
    → ProgramReads st → PutsTypedMethodsBlock n → PutsInBody n

-- So it is of a literal.
abbrev pub TypedMethodsLiteralsArePut : Type 0
TypedMethodsLiteralsArePut =
    (marks : List MarkRef) (st : Standing) (l : Logged) (after : Standing) (n : Next marks st l after)
    → ProgramReads st → PutsTypedMethodsLiteral n → PutsInBody n

-- So such a step in a function keeps which marked functions lie on a cycle.
abbrev pub TypedMethodsBlockStepsKeepCycles : Type 0
TypedMethodsBlockStepsKeepCycles =
    (marks : List MarkRef) (st : Standing) (l : Logged) (after : Standing) (n : Next marks st l after)
    → Linked st.packages → ProgramReads st → SettlesFile n → StandsInFunction n → PutsTypedMethodsBlock n
    → (m : MarkRef) → is_recursive st.packages marks m ≡ is_recursive after.packages marks m

-- And so it is of a literal.
abbrev pub TypedMethodsLiteralStepsKeepCycles : Type 0
TypedMethodsLiteralStepsKeepCycles =
    (marks : List MarkRef) (st : Standing) (l : Logged) (after : Standing) (n : Next marks st l after)
    → Linked st.packages → ProgramReads st → SettlesFile n → StandsInFunction n → PutsTypedMethodsLiteral n
    → (m : MarkRef) → is_recursive st.packages marks m ≡ is_recursive after.packages marks m
