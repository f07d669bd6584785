-- Parts of statements that no goal of the reader is for.
use Rattle.std.specs.Prelude.{Bool, true, false, List, map, ◌∷◌, Option, Some, None, option_and_then}
use Rattle.go_tree.specs.declared.spans.Span.{Span}
use Rattle.go_tree.specs.Tree.{NameAt, TypeExpr, Expr, Exprs, ExprOption, Stmt, Stmts, StmtOption, BlockOption}
use Rattle.go_tree.specs.Tree.{RangeLeft, Arms, arm, Cases, case, ValueSpecs, spec, define, call, expr_and}
use Rattle.go_tree.specs.Tree.{no_exprs}
use Rattle.go_tree.specs.File.{Decl, values}
use Rattle.go_tree.specs.Lists.{specs_from}
use Rattle.go_tree.specs.View.{var_spec_of}
use Rattle.go_tree.specs.Parts.{evaluated}
use Rattle.go_statements.specs.declared.decls.Group.{Group}
use Rattle.go_tree.specs.GoWords.Terminals.{lex, assign, colon, key_case, key_default, key_range}
use Rattle.go_read.specs.SpellsSpans.{span_to}
use Rattle.go_read.specs.SpellsTypes.{Lexemes}
use Rattle.go_read.specs.Goals.{range_clause, read_names, read_exprs, read_clause, read_arm, read_spec, read_stmts}
use Rattle.go_read.specs.Programs.{ask, run}
use Rattle.go_read.specs.ReadStmts.{arm_body, arm_test, for_body, for_post, for_test, for_plain, for_after, switch_body}
use Rattle.go_read.specs.ReadStmts.{switch_tag, switch_after}
use Rattle.go_read.specs.Reading.{at}
use Rattle.go_tree.specs.declared.go_words.terminals.Terminal.{Terminal}
use Rattle.go_tree.specs.declared.go_words.terminals.Terminal.TheVariants as code
use Rattle.go_productions.specs.Terminals.{first_of, rest_of}
use Rattle.go_productions.specs.Parts.{skipped}

-- ---- simple statements

-- `:=`
abbrev pub is_short : Terminal → Bool
is_short code.Define = true
is_short _ = false

-- whether `:=` stands behind names that were read
abbrev pub short_after : Option Lexemes → Bool
short_after None = false
short_after (Some ts) = is_short (first_of ts)

-- whether names and `:=` stand first
abbrev pub defines_here : Lexemes → Bool
defines_here ts = short_after (skipped ts)

-- names, `:=` and the values that they are declared with
unfoldable pub define_at : Bool → Lexemes → Option (Stmt Span × Lexemes)
define_at header ts =
    option_and_then
    (λ ns. option_and_then (λ ys. Some (define (span_to ts ys.1) ns.0 ys.0, ys.1))
    (at span_to (read_exprs header) (rest_of ns.1))) (at span_to read_names ts)

-- the one expression of these, where there is one alone
abbrev pub only : Exprs Span → Option (Expr Span)
only (expr_and e no_exprs) = Some e
only _ = None

-- a call without parentheses around it
abbrev pub is_bare_call : Expr Span → Bool → Bool
is_bare_call (call s f xs rest) true = true
is_bare_call _ _ = false

-- ---- `for`

-- `=` and `range`
abbrev pub range_here : Lexemes → Bool
range_here (lex s (assign None) ∷ lex c key_range ∷ ts) = true
range_here _ = false

-- the block of a `for` with a header, as it is read from these tokens
unfoldable pub for_body_at : Lexemes → StmtOption Span → ExprOption Span → StmtOption Span → Lexemes →
    Option (Stmt Span × Lexemes)
for_body_at whole i t p ts = run (at span_to) (for_body span_to whole i t p ts)

-- the last clause of a `for` and its block, as they are read from these tokens
unfoldable pub for_post_at : Lexemes → StmtOption Span → ExprOption Span → Lexemes → Option (Stmt Span × Lexemes)
for_post_at whole i t ts = run (at span_to) (for_post span_to whole i t ts)

-- what stands behind the first semicolon of a `for`, as it is read from these tokens
unfoldable pub for_test_at : Lexemes → StmtOption Span → Lexemes → Option (Stmt Span × Lexemes)
for_test_at whole i ts = run (at span_to) (for_test span_to whole i ts)

-- what stands behind a simple statement in the header of a `for`, as it is read from these tokens
unfoldable pub for_plain_at : Lexemes → Stmt Span → Lexemes → Option (Stmt Span × Lexemes)
for_plain_at whole x ts = run (at span_to) (for_plain span_to whole x ts)

-- what stands behind `range`, as it is read from these tokens
unfoldable pub range_at : Lexemes → RangeLeft Span → Lexemes → Option (Stmt Span × Lexemes)
range_at whole left ts = run (at span_to) (for_after span_to whole (range_clause left) ts)

-- a `for` statement from its first clause on, as it is read from these tokens
unfoldable pub for_clause_at : Lexemes → Lexemes → Option (Stmt Span × Lexemes)
for_clause_at whole ts = run (at span_to) (ask read_clause ts (λ c r. for_after span_to whole c r))

-- ---- `if`

-- an arm with its span
abbrev pub arm_seen : Lexemes → (StmtOption Span × Expr Span × Span × Stmts Span) × Lexemes →
    (Span × StmtOption Span × Expr Span × (Span × Stmts Span)) × Lexemes
arm_seen ts a = ((span_to ts a.1, a.0.0, a.0.1, (a.0.2, a.0.3)), a.1)

-- an arm of an `if`, as it is read from these tokens, with its span
unfoldable pub arm_at : Lexemes → Option ((Span × StmtOption Span × Expr Span × (Span × Stmts Span)) × Lexemes)
arm_at ts = option_and_then (λ a. Some (arm_seen ts a)) (at span_to read_arm ts)

-- the block of an arm with its test, as it is read from these tokens
unfoldable pub arm_body_at : Lexemes → StmtOption Span → Expr Span → Lexemes →
    Option ((Span × StmtOption Span × Expr Span × (Span × Stmts Span)) × Lexemes)
arm_body_at whole i e ts = option_and_then (λ a. Some (arm_seen whole a)) (run (at span_to) (arm_body span_to i e ts))

-- the test of an arm behind its first statement, as it is read from these tokens
unfoldable pub arm_test_at : Lexemes → StmtOption Span → Lexemes →
    Option ((Span × StmtOption Span × Expr Span × (Span × Stmts Span)) × Lexemes)
arm_test_at whole i ts = option_and_then (λ a. Some (arm_seen whole a)) (run (at span_to) (arm_test span_to i ts))

-- an arm in front of arms and the last block
abbrev pub arm_and : Span × StmtOption Span × Expr Span × (Span × Stmts Span) → Arms Span × BlockOption Span →
    Arms Span × BlockOption Span
arm_and x l = (arm x.0 x.1 x.2 x.3.0 x.3.1 l.0, l.1)

-- ---- `switch`

-- the clauses of a `switch`, as they are read from these tokens
unfoldable pub switch_body_at : Lexemes → StmtOption Span → ExprOption Span → Lexemes → Option (Stmt Span × Lexemes)
switch_body_at whole i t ts = run (at span_to) (switch_body span_to whole i t ts)

-- the tag of a `switch` behind its first statement, as it is read from these tokens
unfoldable pub switch_tag_at : Lexemes → StmtOption Span → Lexemes → Option (Stmt Span × Lexemes)
switch_tag_at whole i ts = run (at span_to) (switch_tag span_to whole i ts)

-- what follows the statement behind `switch`, as it is read from these tokens
unfoldable pub switch_after_at : Lexemes → Stmt Span → Lexemes → Option (Stmt Span × Lexemes)
switch_after_at whole x ts = run (at span_to) (switch_after span_to whole x ts)

-- whether a clause of a `switch` begins here
abbrev pub case_here : Lexemes → Bool
case_here (lex s key_case ∷ ts) = true
case_here (lex s key_default ∷ lex c colon ∷ ts) = true
case_here _ = false

-- the statements of a clause, with its span
unfoldable pub case_body_at : Lexemes → Exprs Span → Lexemes → Option ((Span × Exprs Span × Stmts Span) × Lexemes)
case_body_at whole xs ts = option_and_then (λ b. Some ((span_to whole b.1, xs, b.0), b.1)) (at span_to read_stmts ts)

-- the statements of a clause, where its colon stands
abbrev pub case_colon : Lexemes → Exprs Span → Lexemes → Option ((Span × Exprs Span × Stmts Span) × Lexemes)
case_colon whole xs (lex c colon ∷ ts) = case_body_at whole xs ts
case_colon whole xs _ = None

-- a clause of a `switch` with its span
unfoldable pub case_at : Lexemes → Option ((Span × Exprs Span × Stmts Span) × Lexemes)
case_at (lex s key_case ∷ ts) =
    option_and_then (λ xs. case_colon (lex s key_case ∷ ts) xs.0 xs.1) (at span_to (read_exprs false) ts)
case_at (lex s key_default ∷ lex c colon ∷ ts) = case_body_at (lex s key_default ∷ lex c colon ∷ ts) no_exprs ts
case_at _ = None

-- a clause in front of clauses
abbrev pub case_and : Span × Exprs Span × Stmts Span → Cases Span → Cases Span
case_and x cs = case x.0 x.1 x.2 cs

-- ---- declarations

-- the declaration of the package block that a statement is
abbrev pub valued : Option (Stmt Span × Lexemes) → Option (Decl Span × Lexemes)
valued o = option_and_then (λ x. Some (values x.0, x.1)) o

-- specs, and whether they are a group
abbrev pub group_of : Group → Bool × ValueSpecs Span
group_of x = (x.grouped, specs_from (map var_spec_of x.specs.items))

-- a spec with its span
unfoldable pub spec_at : Bool → Lexemes →
    Option ((Span × List (NameAt Span) × Option (TypeExpr Span) × Exprs Span) × Lexemes)
spec_at constant ts =
    option_and_then (λ x. Some ((span_to ts x.1, x.0.0, x.0.1, x.0.2), x.1)) (at span_to (read_spec constant) ts)

-- a spec in front of specs
abbrev pub spec_and : Span × List (NameAt Span) × Option (TypeExpr Span) × Exprs Span → ValueSpecs Span →
    ValueSpecs Span
spec_and x ss = spec x.0 x.1 x.2 x.3 ss

-- `=`
abbrev pub is_equals : Terminal → Bool
is_equals (code.Assign None) = true
is_equals _ = false

-- whether constants of a group end here, which have the values of those before them
abbrev pub repeats : Bool → Terminal → Bool
repeats true code.Semicolon = true
repeats true code.EndParen = true
repeats true code.EndBrace = true
repeats _ _ = false

-- statements end before a closing brace, `case` and `default`
abbrev pub ends_stmts : Terminal → Bool
ends_stmts code.EndBrace = true
ends_stmts code.Case = true
ends_stmts code.Default = true
ends_stmts _ = false

-- a `return` has no values before a semicolon and a closing brace
abbrev pub closes : Terminal → Bool
closes code.Semicolon = true
closes code.EndBrace = true
closes _ = false
