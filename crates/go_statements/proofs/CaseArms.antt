-- What the reader gives for the clauses of a `switch`.
use Rattle.std.proofs.Common.{◌≡◌, ◌≢◌, true, false, List, [], ◌∷◌, ◌++◌, map, Option, Some, None, refl, sym, ap, ◌∙◌, ◌<◌, length, arith}
use Rattle.std.specs.Prelude.{option_and_then}
use Rattle.go_tree.specs.declared.spans.Span.{Span}
use Rattle.go_tree.specs.declared.stmts.Case as source
use Rattle.go_tree.specs.View.{case_of}
use Rattle.go_tree.specs.Lists.{cases_from}
use Rattle.go_tree.specs.Tree.{Exprs, no_exprs, Stmts, Cases, no_cases, case}
use Rattle.go_tree.specs.GoWords.Terminals.{lex, colon, key_case, key_default}
use Rattle.go_read.specs.SpellsSpans.{span_to}
use Rattle.go_read.specs.SpellsTypes.{Lexemes}
use Rattle.go_read.specs.Goals.{read_exprs, read_stmts, read_cases}
use Rattle.go_read.specs.Programs.{run, after_colon}
use Rattle.go_read.specs.ReadStmts.{cases_step, case_body}
use Rattle.go_read.specs.Reading.{at}
use Rattle.go_read.proofs.Finds.{gives, finish}
use Rattle.go_tree.specs.declared.go_words.terminals.Terminal.{Terminal}
use Rattle.go_tree.specs.declared.go_words.terminals.Terminal.TheVariants as code
use Rattle.go_productions.specs.Terminals.{first_of, rest_of}
use Rattle.go_productions.specs.Parts.{onto, in_front}
use Rattle.go_statements.specs.StmtParts.{case_here, case_at, case_colon, case_body_at, case_and}
use Rattle.go_productions.proofs.Fronts.{front_none, front_some, front_push}

-- ---- one clause

pub case_body_none : (w ts : Lexemes) (xs : Exprs Span) → at span_to read_stmts ts ≡ None → case_body_at w xs ts ≡ None
unfolding case_body_at
case_body_none w ts xs a = ap (option_and_then (λ b. Some ((span_to w b.1, xs, b.0), b.1))) a

pub case_body_some : (w ts r : Lexemes) (xs : Exprs Span) (b : Stmts Span) → at span_to read_stmts ts ≡ Some (b, r) → case_body_at w xs ts ≡ Some ((span_to w r, xs, b), r)
unfolding case_body_at
case_body_some w ts r xs b a = ap (option_and_then (λ b. Some ((span_to w b.1, xs, b.0), b.1))) a

pub default_on : (ts us : Lexemes) (k : Terminal) → case_here ts ≡ true → first_of ts ≡ k → k ≢ code.Case → us ≡ rest_of (rest_of ts) → case_at ts ≡ case_body_at ts no_exprs us
unfolding case_at
default_on (lex s key_case ∷ ts) us k h f n u = absurd (n (sym f))
default_on (lex s key_default ∷ lex c colon ∷ ts) us k h f n u = ap (case_body_at (lex s key_default ∷ lex c colon ∷ ts) no_exprs) (sym u)
default_on _ us k h f n u = absurd cc

pub case_none : (ts us : Lexemes) → first_of ts ≡ code.Case → us ≡ rest_of ts → at span_to (read_exprs false) us ≡ None → case_at ts ≡ None
unfolding case_at
case_none (lex s key_case ∷ ts) us f u a = ap (option_and_then (λ xs. case_colon (lex s key_case ∷ ts) xs.0 xs.1)) (ap (at span_to (read_exprs false)) (sym u) ∙ a)
case_none _ us f u a = absurd cc

no_colon : (w r : Lexemes) (xs : Exprs Span) (k : Terminal) → first_of r ≡ k → k ≢ code.Colon → case_colon w xs r ≡ None
no_colon w (lex c colon ∷ r) xs k f n = absurd (n (sym f))
no_colon w r xs k f n = refl

pub case_open : (ts us r : Lexemes) (xs : Exprs Span) (k : Terminal) → first_of ts ≡ code.Case → us ≡ rest_of ts → at span_to (read_exprs false) us ≡ Some (xs, r) → first_of r ≡ k → k ≢ code.Colon → case_at ts ≡ None
unfolding case_at
case_open (lex s key_case ∷ ts) us r xs k f u a g n =
    ap (option_and_then (λ xs. case_colon (lex s key_case ∷ ts) xs.0 xs.1)) (ap (at span_to (read_exprs false)) (sym u) ∙ a) ∙ no_colon (lex s key_case ∷ ts) r xs k g n
case_open _ us r xs k f u a g n = absurd cc

on_colon : (w r vs : Lexemes) (xs : Exprs Span) → first_of r ≡ code.Colon → vs ≡ rest_of r → case_colon w xs r ≡ case_body_at w xs vs
on_colon w (lex c colon ∷ r) vs xs f u = ap (case_body_at w xs) (sym u)
on_colon w _ vs xs f u = absurd cc

pub case_on : (ts us r vs : Lexemes) (xs : Exprs Span) → first_of ts ≡ code.Case → us ≡ rest_of ts → at span_to (read_exprs false) us ≡ Some (xs, r) → first_of r ≡ code.Colon → vs ≡ rest_of r → case_at ts ≡ case_body_at ts xs vs
unfolding case_at
case_on (lex s key_case ∷ ts) us r vs xs f u a g v =
    ap (option_and_then (λ xs. case_colon (lex s key_case ∷ ts) xs.0 xs.1)) (ap (at span_to (read_exprs false)) (sym u) ∙ a) ∙ on_colon (lex s key_case ∷ ts) r vs xs g v
case_on _ us r vs xs f u a g v = absurd cc

-- ---- clauses

abbrev behind : (Span × Exprs Span × Stmts Span) × Lexemes → Option (Cases Span × Lexemes)
behind x = in_front case_and (x.0 ∷ []) (at span_to read_cases x.1)

others : (x : Span × Exprs Span × Stmts Span) (o : Option (Cases Span × Lexemes)) → option_and_then {U = Cases Span × Lexemes} (λ cs. Some (case x.0 x.1 x.2 cs.0, cs.1)) o ≡ in_front case_and (x ∷ []) o
others x None = refl
others x (Some y) = refl

body_behind : (w : Lexemes) (xs : Exprs Span) (o : Option (Stmts Span × Lexemes))
    → option_and_then (λ b. option_and_then {U = Cases Span × Lexemes} (λ cs. Some (case (span_to w b.1) xs b.0 cs.0, cs.1)) (at span_to read_cases b.1)) o ≡ option_and_then behind (option_and_then (λ b. Some ((span_to w b.1, xs, b.0), b.1)) o)
body_behind w xs None = refl
body_behind w xs (Some b) = others (span_to w b.1, xs, b.0) (at span_to read_cases b.1)

values_behind : (w : Lexemes) (o : Option (Exprs Span × Lexemes)) → option_and_then (λ xs. run (at span_to) (after_colon xs.1 (λ r. case_body span_to w xs.0 r))) o ≡ option_and_then behind (option_and_then (λ xs. case_colon w xs.0 xs.1) o)
unfolding case_body_at
values_behind w None = refl
values_behind w (Some (xs, lex c colon ∷ r)) = body_behind w xs (at span_to read_stmts r)
values_behind w (Some (xs, r)) = refl

cases_is : (ts : Lexemes) → case_here ts ≡ true → at span_to read_cases ts ≡ option_and_then behind (case_at ts)
unfolding cases_step case_at case_body_at
cases_is (lex s key_case ∷ ts) h = finish span_to read_cases (lex s key_case ∷ ts) (record { is = refl }) ∙ values_behind (lex s key_case ∷ ts) (at span_to (read_exprs false) ts)
cases_is (lex s key_default ∷ lex c colon ∷ ts) h =
    finish span_to read_cases (lex s key_default ∷ lex c colon ∷ ts) (record { is = refl }) ∙ body_behind (lex s key_default ∷ lex c colon ∷ ts) no_exprs (at span_to read_stmts ts)
cases_is _ h = absurd cc

onto_cases : (xs : List (Span × Exprs Span × Stmts Span)) → onto case_and xs no_cases ≡ cases_from xs
onto_cases [] = refl
onto_cases (x ∷ xs) = ap (case x.0 x.1 x.2) (onto_cases xs)

no_case : (ts : Lexemes) → case_here ts ≡ false → at span_to read_cases ts ≡ Some (no_cases, ts)
unfolding cases_step
no_case (lex s key_case ∷ ts) h = absurd cc
no_case (lex s key_default ∷ lex c colon ∷ ts) h = absurd cc
no_case ts h = finish span_to read_cases ts (gives span_to)

pub cases_end : (front : List (Span × Exprs Span × Stmts Span)) (ts : Lexemes) (ws : Lexemes) → in_front case_and front (at span_to read_cases ts) ≡ at span_to read_cases ws → case_here ts ≡ false → at span_to read_cases ws ≡ Some (cases_from front, ts)
cases_end front ts ws i h = front_some case_and front (at span_to read_cases ts) (at span_to read_cases ws) no_cases ts i (no_case ts h) ∙ ap (λ (cs : Cases Span). Some (cs, ts)) (onto_cases front)

pub cases_lost : (front : List (Span × Exprs Span × Stmts Span)) (ts : Lexemes) (ws : Lexemes) → in_front case_and front (at span_to read_cases ts) ≡ at span_to read_cases ws → case_here ts ≡ true → case_at ts ≡ None → at span_to read_cases ws ≡ None
cases_lost front ts ws i h a = front_none case_and front (at span_to read_cases ts) (at span_to read_cases ws) i (cases_is ts h ∙ ap (option_and_then behind) a)

pub cases_more : (xs ys : List source.Case) (x : source.Case) (ts r : Lexemes) (ws : Lexemes) → in_front case_and (map case_of xs) (at span_to read_cases ts) ≡ at span_to read_cases ws → ys ≡ xs ++ x ∷ [] → case_here ts ≡ true → case_at ts ≡ Some (case_of x, r) → in_front case_and (map case_of ys) (at span_to read_cases r) ≡ at span_to read_cases ws
cases_more xs ys x ts r ws i p h a = front_push case_and case_of xs ys x (at span_to read_cases ts) (at span_to read_cases r) (at span_to read_cases ws) p i (cases_is ts h ∙ ap (option_and_then behind) a)

-- ---- the tokens that are left

pub case_begun : (ts : Lexemes) → case_here ts ≡ true → 0 < length ts
case_begun [] e = absurd cc
case_begun (t ∷ ts) e = omega arith
