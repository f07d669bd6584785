-- The laws of names that are told apart from keys of composite literals. Each is the contract of a function of this
-- crate (Go specification, Composite literals; Declarations and scope; Import declarations).
use Rattle.std.specs.Prelude.{◌≡◌, ℕ, Bool, true, false, List, [], Some, None, slice_get}
use Rattle.std.specs.List.{list_any}
use Rattle.go_kernel.specs.Kernel.{ImportPath}
use Rattle.go_tree.specs.declared.spans.Span.{Span}
use Rattle.go_tree.specs.ScopeNames.Means.{Environment}
use Rattle.go_tree.specs.File.{Func}
use Rattle.go_tree.specs.Tree.{Expr, Exprs, Stmts}
use Rattle.go_tree.specs.GoTypes.Agreement.{Agrees, with_names}
use Rattle.go_tree.specs.GoTypes.Entities.{Entity, Env, World}
use Rattle.go_tree.specs.GoTypes.Programs.{Headed, a_func}
use Rattle.go_tree.specs.GoTypes.Statements.{Ctx}
use Rattle.go_tree.specs.GoTypes.Typing.{parts, all_parts, used_stmts, stmts}
use Rattle.go_translation.specs.Agreement.{AgreesHere, at_names}
use Rattle.go_translation.specs.Here.{Here, Location}
use Rattle.go_translation.specs.Packages.{func_code}
use Rattle.go_translation.specs.Translation.{stmts_term}
use Rattle.go_tree.specs.GoTypes.Collect.{DeclaredTypes, env_of}
use Rattle.go_tree.specs.GoTypes.MethodDeclarations.{MethodName}
use Rattle.go_tree.specs.GoTypes.WellTyped.{body_env, function_ok, header_ok}
use Rattle.order_runs.specs.CycleRuns.ImportCycles.LookedUp.{names_around}
use Rattle.typed_in_place.specs.ImportsMoved.{under_imports, file_names, Moved}
use Rattle.go_tree.specs.File.{ImportSpec, Decl}
use Rattle.go_tree.specs.ScopeNames.Means.{is_blank}
use Rattle.go_translation.specs.SameMeaning.{WellTyped}
use Rattle.constant_steps.specs.FormImports.ImportLaws.Steps.{used_after, removed_specs}
use Rattle.order_runs.specs.CycleRuns.OrderCycles.Orders.{AllOrdered}
use Rattle.order_runs.specs.ImportSteps.ImportingSteps.{MayBeDeclared}
use Rattle.order_runs.specs.RunSteps.RunPackages.{packages_of}
use Rattle.pkg_graph.specs.Package.{Package, import_specs}
use Rattle.pkg_graph.specs.Members.{import_name}
use Rattle.put_nodes.specs.Swapped.{FormedDecl}
use Rattle.run_rules.specs.Respanned.{decl_with}
use Rattle.run_rules.specs.ImportRules.Removed.{same_span}
use Rattle.run_rules.specs.Run.{Standing, Logged, Next, here_of}
use Rattle.run_rules.specs.Sites.{MarkRef, Where}
use Rattle.run_rules.specs.Steps.{At, is_import_used}
use Rattle.splice_laws.specs.RunLaws.Reading.{ProgramReads}
use Rattle.constant_modules.specs.CountedUses.Typed.{IsFileOf}
use Rattle.constant_modules.specs.NamesAndKeys.Marked.{OnMarked, HereMarked, marked_expr, marked_exprs, marked_stmts}

-- Where the names that an expression uses mean the same in another environment, and its keys the same or no value, it
-- is typed alike there.
abbrev pub OperandsAreAlike : Type 0
OperandsAreAlike =
    (a : Env) (e : Expr Span) (m : Environment Entity) (around : List (List ℕ)) → Agrees around a m
    → OnMarked (marked_expr around e) a m → parts a e ≡ parts (with_names a m) e

-- So are expressions,
abbrev pub ListsAreAlike : Type 0
ListsAreAlike =
    (a : Env) (es : Exprs Span) (m : Environment Entity) (around : List (List ℕ)) → Agrees around a m
    → OnMarked (marked_exprs around es) a m → all_parts a es ≡ all_parts (with_names a m) es

-- and statements,
abbrev pub BodiesAreAlike : Type 0
BodiesAreAlike =
    (c : Ctx) (a : Env) (before : Bool) (b : Stmts Span) (m : Environment Entity) (around : List (List ℕ))
    → Agrees around a m → OnMarked (marked_stmts around b) a m → stmts c a before b ≡ stmts c (with_names a m) before b

-- which use the same names.
abbrev pub UsesAreAlike : Type 0
UsesAreAlike =
    (a : Env) (b : Stmts Span) (m : Environment Entity) (around : List (List ℕ)) → Agrees around a m
    → OnMarked (marked_stmts around b) a m → used_stmts a b ≡ used_stmts (with_names a m) b

-- And they are the same term, where besides variables of these names are at the same locations.
abbrev pub TermsAreAlike : Type 0
TermsAreAlike =
    (h : Here) (b : Stmts Span) (m : Environment Entity) (l : Environment Location) (around : List (List ℕ))
    → AgreesHere around h m l → HereMarked (marked_stmts around b) h m l
    → stmts_term h b ≡ stmts_term (at_names h m l) b

-- ---- functions under other imports of their file

-- The names that the body of the function uses mean under these imports what they meant, and its keys the same or no
-- value.
abbrev pub BodyMarked : World → Environment Entity → Headed Span → Func Span → Type 0
BodyMarked w is h f = OnMarked (marked_stmts [] f.body) (body_env w h f) (body_env w (under_imports is h) f).names

-- Where besides the names of its receiver, its parameters and its results mean the same (typed_in_place's `Moved`), a
-- function is as well typed,
abbrev pub FunctionsStayTyped : Type 0
FunctionsStayTyped =
    (w : World) (is : Environment Entity) (h : Headed Span) (f : Func Span) → h.header ≡ a_func f → Moved w is h
    → BodyMarked w is h f → function_ok w h f ≡ function_ok w (under_imports is h) f

-- uses the same names,
abbrev pub FunctionsUseTheSame : Type 0
FunctionsUseTheSame =
    (w : World) (is : Environment Entity) (h : Headed Span) (f : Func Span) → h.header ≡ a_func f → Moved w is h
    → BodyMarked w is h f
    → used_stmts (body_env w h f) f.body ≡ used_stmts (body_env w (under_imports is h) f) f.body

-- and has the same code.
abbrev pub FunctionsKeepTheirCode : Type 0
FunctionsKeepTheirCode =
    (paths : List (ℕ × ImportPath)) (w : World) (is : Environment Entity) (h : Headed Span) (f : Func Span)
    → h.header ≡ a_func f → Moved w is h → BodyMarked w is h f
    → func_code paths w h f ≡ func_code paths w (under_imports is h) f

-- So they do where those of the names that its body uses which the function doesn't declare around it mean at the top
-- of the file what they meant, and its keys the same or no value: in a header that declares something, or is a method
-- that may stand there.
abbrev pub NamesAtTheTop : Type 0
NamesAtTheTop =
    (w : World) (is : Environment Entity) (h : Headed Span) (f : Func Span) → h.header ≡ a_func f → Moved w is h
    → (ds : DeclaredTypes) (before : List MethodName) → header_ok ds w before h ≡ true
    → OnMarked (marked_stmts (names_around f) f.body) (env_of w h None) (file_names w h is) → BodyMarked w is h f

-- ---- names that typing counts as used

-- In a well-typed program each of whose packages stands in the dependency order, each import of a file but `_` is used
-- there as run_rules has it, where its imports may be declared, and its declarations are formed as files that read are:
-- whatever has its name as a key. look_ups asks that its name isn't one that stands beside.
abbrev pub TypedImportsStand : Type 0
TypedImportsStand =
    (ps : List (Package At)) → AllOrdered ps → WellTyped (packages_of ps []) → (w : Where At) → IsFileOf ps w
    → MayBeDeclared ps w
    → ((i : ℕ) (d : Decl At) → slice_get w.source.tree.decls i ≡ Some d → FormedDecl (decl_with here_of d))
    → (k : ℕ) (s : ImportSpec At) → slice_get (import_specs w.source.tree) k ≡ Some s
    → is_blank (import_name ps s) ≡ false → is_import_used ps w w.source.tree.decls k ≡ true

-- So each that stays is used with the form of a step in its place, whatever the step becomes.
abbrev pub ImportsThatStayStand : Type 0
ImportsThatStayStand =
    (marks : List MarkRef) (st : Standing) (l : Logged) (after : Standing) (n : Next marks st l after) → ProgramReads st
    → AllOrdered st.packages → WellTyped (packages_of st.packages []) → MayBeDeclared st.packages n.found.site.at
    → (k : ℕ) (s : ImportSpec At) → slice_get (import_specs n.found.site.at.source.tree) k ≡ Some s
    → is_blank (import_name st.packages s) ≡ false
    → list_any (same_span (here_of s.span)) (removed_specs marks st n.found) ≡ false
    → used_after marks st n.found k ≡ true
