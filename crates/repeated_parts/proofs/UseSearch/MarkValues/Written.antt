-- A constant that is declared as a name, or as a name behind another, is declared by a name that a program can have,
-- where its file reads from its text.
use Rattle.std.proofs.Common.{◌≡◌, refl, sym, subst, ◌∙◌, ℕ, zero, suc, ◌+◌, ◌≤◌, ◌<◌, ◌/◌, ◌%◌, Bool, true, false, cond, ◌&&◌, nat_lt, List, [], ◌∷◌, ◌++◌, Some, None, arith, encode_utf8, encode_utf8_all}
use Rattle.std.specs.Prelude.{slice_get}
use Rattle.std.specs.Str.{chars}
use Rattle.std.proofs.lemmas.Bool.Decides.{nat_tests}
use Rattle.std.proofs.lemmas.Option.{same_Some}
use Rattle.std.proofs.lemmas.Str.{encodes-chars}
use Rattle.go_tree.specs.declared.spans.Span.{Span}
use Rattle.go_tree.specs.Tree.{Expr, ident, selector, const_decl}
use Rattle.go_tree.specs.File.{Decl, values, types, func, File}
use Rattle.go_tree.specs.GoWords.Tokens.Characters.{is_letter, is_word, each}
use Rattle.go_tree.specs.GoWords.Tokens.Pieces.{is_identifier}
use Rattle.go_tree.specs.GoWords.Terminals.{lex}
use Rattle.go_scan.proofs.LetterLemmas.{letter_ascii}
use Rattle.go_read.specs.SpellsTypes.{Lexemes}
use Rattle.go_read.specs.SpellsSpans.{span_to}
use Rattle.go_read.specs.Spells.{const_rule}
use Rattle.go_read.specs.SpellsFiles.{SpellsTop, SpellsTops, SpellsFront, top_const_rule, top_var_rule, top_type_rule, top_type_group_rule, top_func_rule, top_method_rule, no_tops_rule, more_tops_rule, front_rule}
use Rattle.go_read.proofs.Suffixes.{Suffix, whole, after, imports_suffix, top_suffix}
use Rattle.go_layout.specs.LayoutLaws.Formed.{IsName, FormedExpr, FormedSpecs}
use Rattle.go_layout.specs.LayoutLaws.Real.{AreReal}
use Rattle.go_layout.proofs.LayoutLaws.FormedTrees.{stmt_formed}
use Rattle.go_layout.proofs.LayoutLaws.RealTokens.{tokens_real}
use Rattle.run_rules.specs.Respanned.{expr_with, decl_with, decls_with, file_with}
use Rattle.run_rules.specs.Naming.{unnamed_package}
use Rattle.run_rules.specs.Texts.{FileText}
use Rattle.run_rules.specs.Steps.{At}
use Rattle.run_rules.specs.Run.{here_of}
use Rattle.run_rules.specs.Inlining.{ReadsAs}

-- ---- an identifier begins with no byte 0

both : (a b : Bool) → a && b ≡ true → (a ≡ true) × (b ≡ true)
both true true h = (refl, refl)
both true false h = absurd cc
both false b h = absurd cc

big : (k : ℕ) (rest : List ℕ) → 1 ≤ k → unnamed_package (k ∷ rest) ≡ None
big zero rest h = absurd (omega (arith, h))
big (suc k) [] h = refl
big (suc k) (x ∷ []) h = refl
big (suc k) (x ∷ y ∷ rest) h = refl

small : (c : ℕ) → c < 128 → is_letter c ≡ true → 1 ≤ c
small c s l = by (nat_lt c 1) refl
  where
    by : (b : Bool) → nat_lt c 1 ≡ b → 1 ≤ c
    by false e = grind (arith, nat_tests, e)
    by true e = absurd (grind (arith, nat_tests, e, sym (letter_ascii c s) ∙ l))

over : (n k : ℕ) → 1 ≤ n → 1 ≤ n + k
over n k h = omega (arith, h)

letter_unnamed : (c : ℕ) (rest : List ℕ) → is_letter c ≡ true → unnamed_package (encode_utf8 c ++ rest) ≡ None
unfolding lib.Utf8.encode
letter_unnamed c rest l = by (nat_lt c 128) (nat_lt c 2048) (nat_lt c 65536) refl
  where
    by : (x y z : Bool) → nat_lt c 128 ≡ x
        → unnamed_package (cond x (c ∷ []) (cond y ((192 + c / 64) ∷ (128 + c % 64) ∷ []) (cond z ((224 + c / 4096) ∷ (128 + (c / 64) % 64) ∷ (128 + c % 64) ∷ []) ((240 + c / 262144) ∷ (128 + (c / 4096) % 64) ∷ (128 + (c / 64) % 64) ∷ (128 + c % 64) ∷ []))) ++ rest) ≡ None
    by true y z e = big c rest (small c (grind (arith, nat_tests, e)) l)
    by false true z e = big (192 + c / 64) ((128 + c % 64) ∷ rest) (over 192 (c / 64) (omega arith))
    by false false true e = big (224 + c / 4096) ((128 + (c / 64) % 64) ∷ (128 + c % 64) ∷ rest) (over 224 (c / 4096) (omega arith))
    by false false false e = big (240 + c / 262144) ((128 + (c / 4096) % 64) ∷ (128 + (c / 64) % 64) ∷ (128 + c % 64) ∷ rest) (over 240 (c / 262144) (omega arith))

word_unnamed : (w : List ℕ) → is_identifier w ≡ true → unnamed_package (encode_utf8_all w) ≡ None
word_unnamed [] h = absurd cc
word_unnamed (c ∷ cs) h = letter_unnamed c (encode_utf8_all cs) (both (is_letter c) (each is_word cs) h).0

name_unnamed : (n : List ℕ) → IsName n → unnamed_package n ≡ None
name_unnamed n q = subst (λ (x : List ℕ). unnamed_package x ≡ None) (encodes-chars n q.0) (word_unnamed (chars n) q.1.0)

-- the name that an expression is, or the one behind its dot
abbrev pub IsWritten : Expr At → Type 0
IsWritten (ident s n) = unnamed_package n ≡ None
IsWritten (selector s b n) = unnamed_package n.name ≡ None
IsWritten e = Unit {0}

pub expr_written : (e : Expr At) → FormedExpr (expr_with here_of e) → IsWritten e
expr_written (ident s n) f = name_unnamed n f
expr_written (selector s b n) f = name_unnamed n.name f.2
expr_written e f = tt

-- ---- a file

-- what is known of a declaration that tokens spell
abbrev pub FormedTop : Decl Span → Type 0
FormedTop (values (const_decl _ g ss)) = FormedSpecs true ss
FormedTop (values s) = Unit {0}
FormedTop (types _ _ ts) = Unit {0}
FormedTop (func f) = Unit {0}

along : {r ts : Lexemes} → Suffix r ts → AreReal ts → AreReal r
along whole g = g
along (after {x = lex s t} k) g = along k g.1

top_formed : {d : Decl Span} {ts r : Lexemes} → SpellsTop span_to d ts r → AreReal ts → FormedTop d
top_formed (top_const_rule {s = s} a) g = (stmt_formed span_to (const_rule {s = s} a) g).0.1
top_formed (top_var_rule a) g = tt
top_formed (top_type_rule a) g = tt
top_formed (top_type_group_rule a) g = tt
top_formed (top_func_rule a b) g = tt
top_formed (top_method_rule v a b) g = tt

abbrev AllFormed : List (Decl Span) → Type 0
AllFormed [] = Unit {0}
AllFormed (d ∷ ds) = FormedTop d × AllFormed ds

tops_formed : {ds : List (Decl Span)} {ts r : Lexemes} → SpellsTops span_to ds ts r → AreReal ts → AllFormed ds
tops_formed no_tops_rule g = tt
tops_formed (more_tops_rule a b) g = (top_formed a g, tops_formed b (along (top_suffix span_to a) g).1)

front_formed : {f : File Span} {ts r : Lexemes} → SpellsFront span_to f ts r → AreReal ts → AllFormed f.decls
front_formed (front_rule q i t) g = tops_formed t (along (imports_suffix span_to i) g.1.1.1)

nth_formed : (ds : List (Decl At)) (i : ℕ) (d : Decl At) → slice_get ds i ≡ Some d → AllFormed (decls_with here_of ds) → FormedTop (decl_with here_of d)
nth_formed [] i d h k = cc
nth_formed (x ∷ ds) zero d h k = subst (λ (y : Decl At). FormedTop (decl_with here_of y)) (same_Some x d h) k.0
nth_formed (x ∷ ds) (suc i) d h k = nth_formed ds i d h k.1

pub decl_formed : (text : FileText) (f : File At) (i : ℕ) (d : Decl At) → ReadsAs text (file_with here_of f) → slice_get f.decls i ≡ Some d → FormedTop (decl_with here_of d)
decl_formed text f i d r h =
    nth_formed f.decls i d h (front_formed r.spells (tokens_real text.text text.tokens text.comments r.scans))
