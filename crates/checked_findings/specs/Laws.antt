-- The laws of what is found. Each is the contract of a function of this crate.
use Rattle.std.specs.Prelude.{◌≡◌, ℕ, ◌+◌, Bool, true, List, [], ◌∷◌, Some, None}
use Rattle.std.specs.List.{list_all}
use Rattle.go_tree.specs.declared.spans.Span.{Span}
use Rattle.go_tree.specs.declared.tokens.Token.{Token}
use Rattle.go_tree.specs.declared.tokens.Comment.{Comment}
use Rattle.go_tree.specs.Tree.{Expr, Stmts}
use Rattle.go_tree.specs.File.{Decl, File}
use Rattle.go_tree.specs.Bare.{bare_expr, bare_stmts}
use Rattle.go_tree.specs.ScopeNames.Means.{Environment}
use Rattle.go_tree.specs.ScopeNames.FreeNames.{free_expr, free_stmts}
use Rattle.go_tree.specs.GoTypes.Answers.{meets}
use Rattle.go_tree.specs.GoTypes.Types.{GoType}
use Rattle.go_tree.specs.GoTypes.Entities.{Entity, World, Env}
use Rattle.go_tree.specs.GoTypes.Programs.{Import, file_env}
use Rattle.go_tree.specs.GoTypes.Agreement.{with_names, On, Agrees}
use Rattle.go_tree.specs.GoWords.Tokens.{TokensOf}
use Rattle.go_read.specs.SpellsFiles.{SpellsFile}
use Rattle.expression_spans.specs.Spans.{decl_span}
use Rattle.expression_spans.specs.Order.{ascends}
use Rattle.run_rules.specs.Respanned.{expr_with, stmts_with, decl_with}
use Rattle.checked_findings.specs.Facts.{Asked, Fact, Facts}
use Rattle.checked_findings.specs.Found.{found, found_stmts}
use Rattle.checked_findings.specs.Packages.{names_around, declaration_found, file_found}
use Rattle.checked_findings.specs.LookUp.{fact_at, places_of, places_distinct, all_facts, from_start, as_written}
use Rattle.checked_findings.specs.LookUp.{moved_by, moved}

-- a place of which nothing is told
abbrev pub nowhere : {S : Type 0} → S → Unit {0}
nowhere s = tt

-- a finding stands among others
pub data Among (f : Fact Span) : List (Fact Span) → Type 0 where
  first : {fs : List (Fact Span)} → Among f (f ∷ fs)
  later : {g : Fact Span} {fs : List (Fact Span)} → Among f fs → Among f (g ∷ fs)

-- ---- spans: a tree and the same tree without its spans give the same, but for places

-- of an expression
abbrev pub ExpressionsNeedNoSpans : Type 0
ExpressionsNeedNoSpans =
    (a : Env) (x : Asked) (e : Expr Span) → found nowhere a x (bare_expr e) ≡ found nowhere a x e

-- of statements
abbrev pub StatementsNeedNoSpans : Type 0
StatementsNeedNoSpans =
    (rs : List GoType) (a : Env) (b : Stmts Span) → found_stmts nowhere rs a (bare_stmts b) ≡ found_stmts nowhere rs a b

-- statements that are the same without their spans give the same types and constants in the same order
abbrev pub MovedStatementsAlike : Type 0
MovedStatementsAlike =
    (rs : List GoType) (a : Env) (b c : Stmts Span) → bare_stmts b ≡ bare_stmts c →
    found_stmts nowhere rs a b ≡ found_stmts nowhere rs a c

-- ---- places: what is found in a tree with other spans is what is found in the tree, at the places that these have

-- in an expression
abbrev pub ExpressionsMove : Type 0
ExpressionsMove =
    (at to : Span → Span) (a : Env) (x : Asked) (e : Expr Span) →
    found at a x (expr_with to e) ≡ found (moved at to) a x e

-- in statements
abbrev pub StatementsMove : Type 0
StatementsMove =
    (at to : Span → Span) (rs : List GoType) (a : Env) (b : Stmts Span) →
    found_stmts at rs a (stmts_with to b) ≡ found_stmts (moved at to) rs a b

-- in a declaration
abbrev pub DeclarationsMove : Type 0
DeclarationsMove =
    (at to : Span → Span) (w : World) (home : ℕ) (imports : Environment Entity) (d : Decl Span) →
    declaration_found at w home imports (decl_with to d) ≡ declaration_found (moved at to) w home imports d

-- a declaration that stands further on gives the same findings, counted from where it starts
abbrev pub CountedFromStart : Type 0
CountedFromStart =
    (start by : ℕ) (w : World) (home : ℕ) (imports : Environment Entity) (d : Decl Span) →
    declaration_found (from_start (start + by)) w home imports (decl_with (moved_by by) d)
    ≡ declaration_found (from_start start) w home imports d

-- ---- names: what is found is the same with other names around that agree (Declarations and scope)

-- of an expression, where its free names mean what they meant
abbrev pub ExpressionsFoundAlike : Type 0
ExpressionsFoundAlike =
    (at : Span → Span) (a : Env) (x : Asked) (e : Expr Span) (m : Environment Entity) (around : List (List ℕ)) →
    Agrees around a m → On (free_expr around e) a m → found at a x e ≡ found at (with_names a m) x e

-- of statements, where their free names mean what they meant
abbrev pub StatementsFoundAlike : Type 0
StatementsFoundAlike =
    (at : Span → Span) (rs : List GoType) (a : Env) (b : Stmts Span) (m : Environment Entity) (around : List (List ℕ)) →
    Agrees around a m → On (free_stmts around b) a m → found_stmts at rs a b ≡ found_stmts at rs (with_names a m) b

-- of a declaration beside other imports of its file, where the names that it takes from around it mean what they meant
abbrev pub DeclarationsFoundAlike : Type 0
DeclarationsFoundAlike =
    (at : Span → Span) (w : World) (home : ℕ) (imports more : Environment Entity) (d : Decl Span) →
    Agrees [] (file_env w home imports None) (file_env w home more None).names →
    On (names_around w home imports d) (file_env w home imports None) (file_env w home more None).names →
    declaration_found at w home imports d ≡ declaration_found at w home more d

-- ---- look-ups

-- where no two findings have one place, each is found at its place
abbrev pub EachIsFound : Type 0
EachIsFound = (fs : Facts Span) (f : Fact Span) → places_distinct fs ≡ true → Among f fs → fact_at f.at fs ≡ Some f

-- ---- files that are read from their tokens, in a package with these names, beside any imports: each expression is
-- found once, and those that end first come first

-- what is found in declarations
abbrev pub found_in : World → ℕ → List (List ℕ) → List (Import Span) → List (Decl Span) → Facts Span
found_in w home members imports ds =
    all_facts (file_found as_written w home members (record { imports = imports; decls = ds }))

-- what is found in a declaration, counted from where it starts, ascends
abbrev pub ascend_counted : World → ℕ → Environment Entity → Decl Span → Bool
ascend_counted w home imports d =
    meets (decl_span d) (λ s. ascends (places_of (declaration_found (from_start s.start) w home imports d)))

-- the places where something is found ascend
abbrev pub FindingsAscend : Type 0
FindingsAscend =
    (text : List ℕ) (tokens : List Token) (comments : List Comment) (f : File Span) → TokensOf text tokens comments →
    SpellsFile tokens f → (w : World) (home : ℕ) (members : List (List ℕ)) (imports : List (Import Span)) →
    ascends (places_of (found_in w home members imports f.decls)) ≡ true

-- so no two are the same
abbrev pub FindingsDistinct : Type 0
FindingsDistinct =
    (text : List ℕ) (tokens : List Token) (comments : List Comment) (f : File Span) → TokensOf text tokens comments →
    SpellsFile tokens f → (w : World) (home : ℕ) (members : List (List ℕ)) (imports : List (Import Span)) →
    places_distinct (found_in w home members imports f.decls) ≡ true

-- and each finding is found at its place
abbrev pub FindingsFound : Type 0
FindingsFound =
    (text : List ℕ) (tokens : List Token) (comments : List Comment) (f : File Span) → TokensOf text tokens comments →
    SpellsFile tokens f → (w : World) (home : ℕ) (members : List (List ℕ)) (imports : List (Import Span))
    (g : Fact Span) → Among g (found_in w home members imports f.decls) →
    fact_at g.at (found_in w home members imports f.decls) ≡ Some g

-- those of a declaration ascend too where they are counted from its start
abbrev pub CountedAscend : Type 0
CountedAscend =
    (text : List ℕ) (tokens : List Token) (comments : List Comment) (f : File Span) → TokensOf text tokens comments →
    SpellsFile tokens f → (w : World) (home : ℕ) (imports : Environment Entity) →
    list_all (ascend_counted w home imports) f.decls ≡ true
