-- The laws of calls where a walk puts something. Each is the contract of a function of this crate (Go specification,
-- Calls; Selectors).
use Rattle.std.specs.Prelude.{◌≡◌, ℕ, Bool, true, List, Some}
use Rattle.go_tree.specs.Tree.{NameAt, Expr, ident, selector, Stmts}
use Rattle.go_tree.specs.File.{Decl, File}
use Rattle.pkg_graph.specs.Package.{Package}
use Rattle.constant_steps.specs.StepLaws.Stands.{ExprStands, StmtsStands}
use Rattle.constant_steps.specs.StepLaws.DeclStands.{DeclStands}
use Rattle.run_rules.specs.Surroundings.{Use, Place}
use Rattle.run_rules.specs.Programs.{top_place, body_place, decl_seen}
use Rattle.run_rules.specs.Places.{expr_seen, stmts_seen}
use Rattle.run_rules.specs.Rewriting.{Changes, new_expr, new_stmts}
use Rattle.run_rules.specs.Sites.{MarkRef, Where, expr_mark}
use Rattle.run_rules.specs.Steps.{At, new_decl}
use Rattle.run_rules.specs.Cycles.{GivesWay, LeadsTo, is_recursive}
use Rattle.run_rules.specs.Run.{Standing, Logged, Next}
use Rattle.order_runs.specs.CycleLaws.PutCalls.{GivesWayAmong, mark_there, called_among, CallsAlike, AllPutCallAlike}
use Rattle.order_runs.specs.CycleLaws.NamesNoFunction.{NamesNoFunction}
use Rattle.order_runs.specs.CycleLaws.NamesStay.{NamesStay}
use Rattle.order_runs.specs.CycleLaws.PutSteps.{KeepsStatements, ReadCallsAlike, PutsAlike}

-- Where all that the walk puts has the same facts and calls what stood there, but that m gives way to what m leads to,
-- so with what it makes of an expression.
abbrev pub ExpressionsCallAlike : Type 0
ExpressionsCallAlike =
    (ps : List (Package At)) (marks : List MarkRef) (w : Where At) (at : ℕ) (m : MarkRef) (c : Changes At)
    → KeepsStatements c
    → (around : List (List ℕ)) (p : Place At) (u : Use) (x : Expr At) → ExprStands c around p.env p u x
    → AllPutCallAlike ps marks w at m c (expr_seen p u x)
    → GivesWayAmong ps marks (mark_there w at) m
    (called_among ps marks w at (expr_seen p u (new_expr c p u x)))
    (called_among ps marks w at (expr_seen p u x))

-- So with a body.
abbrev pub BodiesCallAlike : Type 0
BodiesCallAlike =
    (ps : List (Package At)) (marks : List MarkRef) (w : Where At) (at : ℕ) (m : MarkRef) (c : Changes At)
    → KeepsStatements c
    → (around : List (List ℕ)) (p : Place At) (b : Stmts At) → StmtsStands c around p.env p b
    → AllPutCallAlike ps marks w at m c (stmts_seen p b)
    → GivesWayAmong ps marks (mark_there w at) m
    (called_among ps marks w at (stmts_seen p (new_stmts c p b)))
    (called_among ps marks w at (stmts_seen p b))

-- ---- names of constants and aliases

-- a use of a constant or an alias by its name names no function
abbrev pub NamesNameNoFunction : Type 0
NamesNameNoFunction =
    (ps : List (Package At)) (marks : List MarkRef) (w : Where At) (at : ℕ) (p : Place At) (s : At) (n : List ℕ)
    (m : MarkRef) → expr_mark ps marks w p (ident s n) ≡ Some m → NamesNoFunction ps marks w at p (ident s n)

-- so does one with a package before it
abbrev pub QualifiedNameNoFunction : Type 0
QualifiedNameNoFunction =
    (ps : List (Package At)) (marks : List MarkRef) (w : Where At) (at : ℕ) (p : Place At) (s z : At) (q : List ℕ)
    (n : NameAt At) (m : MarkRef) → expr_mark ps marks w p (selector s (ident z q) n) ≡ Some m
    → NamesNoFunction ps marks w at p (selector s (ident z q) n)

-- two expressions that name no function call alike
abbrev pub NamesCallAlike : Type 0
NamesCallAlike =
    (ps : List (Package At)) (marks : List MarkRef) (w : Where At) (at : ℕ) (p : Place At) (x y : Expr At)
    → NamesNoFunction ps marks w at p x → NamesNoFunction ps marks w at p y → (m : MarkRef)
    → CallsAlike ps marks w at m p x y

-- ---- declarations

-- So with a declaration.
abbrev pub DeclarationsCallAlike : Type 0
DeclarationsCallAlike =
    (ps : List (Package At)) (marks : List MarkRef) (w : Where At) (at : ℕ) (m : MarkRef)
    (same : At → At → Bool) (c : Changes At)
    → KeepsStatements c → (k : ℕ) (pk : Package At) (file : File At) (d : Decl At)
    → DeclStands same ps c (λ t u. Unit {0}) (λ i. record (top_place ps k pk file).env { iota = i })
    (λ f. (body_place ps k pk file f).env) (top_place ps k pk file) (λ f. body_place ps k pk file f) d
    → AllPutCallAlike ps marks w at m c (decl_seen ps k pk file d)
    → GivesWayAmong ps marks (mark_there w at) m
    (called_among ps marks w at (decl_seen ps k pk file (new_decl same ps c k pk file d)))
    (called_among ps marks w at (decl_seen ps k pk file d))

-- ---- programs

-- Two programs that declare the same, and in whose files names mean the same, read calls alike, wherever nodes stand.
abbrev pub SameNamesReadAlike : Type 0
SameNamesReadAlike =
    (marks : List MarkRef) (before after : List (Package At)) → NamesStay marks before after
    → ReadCallsAlike marks before after

-- ---- steps

-- A step that puts in a use's place what has the same facts and calls what stood there, but that what was used gives
-- way to what it leads to, meets what keeps cycles, if the program after reads calls as the one before.
abbrev pub StepsGiveWay : Type 0
StepsGiveWay =
    (marks : List MarkRef) (st : Standing) (l : Logged) (after : Standing) (n : Next marks st l after)
    → PutsAlike marks st.packages n.found.site n.found.form → ReadCallsAlike marks st.packages after.packages
    → GivesWay (LeadsTo st.packages marks) (LeadsTo after.packages marks) n.found.site.mark

-- So the same marked functions lie on cycles, if what was used doesn't lie on one.
abbrev pub StepsKeepMarksOnCycles : Type 0
StepsKeepMarksOnCycles =
    (marks : List MarkRef) (st : Standing) (l : Logged) (after : Standing) (n : Next marks st l after)
    → PutsAlike marks st.packages n.found.site n.found.form → ReadCallsAlike marks st.packages after.packages
    → (is_recursive st.packages marks n.found.site.mark ≡ true → ⊥) → (x : MarkRef)
    → is_recursive st.packages marks x ≡ is_recursive after.packages marks x
