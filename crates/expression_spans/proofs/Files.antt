-- The spans of the expressions of a file that tokens spell stand in their order, and those of each declaration in it.
use Rattle.std.proofs.Common.{◌≡◌, ◌≤◌, ℕ, true, nat_le, List, [], ◌∷◌, Option, Some}
use Rattle.std.proofs.Common.{refl, sym, subst, arith}
use Rattle.std.specs.List.{list_all}
use Rattle.std.proofs.lemmas.Bool.Decides.{nat_tests}
use Rattle.go_tree.specs.declared.spans.Span.{Span}
use Rattle.go_tree.specs.File.{Decl, File}
use Rattle.go_tree.specs.GoTypes.Answers.{meets, answers_of}
use Rattle.go_tree.specs.GoTypes.Answers.{both as both_of}
use Rattle.go_tree.specs.GoWords.Terminals.{lex, semicolon}
use Rattle.go_read.specs.SpellsTypes.{Lexemes}
use Rattle.go_read.specs.SpellsSpans.{start_of, span_to}
use Rattle.go_read.specs.SpellsFiles.{SpellsTop, SpellsTops, SpellsFront, top_const_rule, top_var_rule, top_type_rule}
use Rattle.go_read.specs.SpellsFiles.{top_type_group_rule, top_func_rule, top_method_rule, no_tops_rule}
use Rattle.go_read.specs.SpellsFiles.{more_tops_rule, front_rule}
use Rattle.go_read.proofs.Suffixes.{whole, after, sig_suffix, receiver_suffix, type_spec_suffix}
use Rattle.go_read.proofs.Suffixes.{type_specs_suffix, top_suffix, imports_suffix}
use Rattle.expression_spans.specs.Spans.{decl_spans, decls_spans, decl_span}
use Rattle.expression_spans.specs.Order.{ascends, lies_in, holds_its_own, stand_apart, decls_stand_apart}
use Rattle.expression_spans.proofs.TokensLie.{Lie, rest-of, Full, full, more, onto, skip, lie-on, full-more}
use Rattle.expression_spans.proofs.TokensLie.{le-le, itself, ends-by}
use Rattle.expression_spans.proofs.Ascents.{place, Stand, empty, both, lower, stand-up, ascends-so, lie-so, and_intro}
use Rattle.expression_spans.proofs.Parts.{Ends, ends-to, ends-on, closed-ends, closed-on, no-ends, gap}
use Rattle.expression_spans.proofs.Spelled.{decl_ends, block_closed}

-- a declaration has the span of its tokens, and its expressions end by its end
record Top (d : Decl Span) (ts r : Lexemes) : Type 0 where
  span : decl_span d ≡ Some (span_to ts r)
  ends : Ends (decl_spans d) ts r

top : {d : Decl Span} {ts r : Lexemes} → SpellsTop span_to d ts r → Lie ts → Top d ts r
top (top_const_rule d) g = record { span = refl; ends = ends-on (after whole) g (decl_ends d (rest-of g)) }
top (top_var_rule d) g = record { span = refl; ends = ends-on (after whole) g (decl_ends d (rest-of g)) }
top (top_type_rule d) g = record { span = refl; ends = no-ends (more (type_spec_suffix span_to d)) g }
top (top_type_group_rule d) g =
    record { span = refl; ends = no-ends (more (after (skip (type_specs_suffix span_to d)))) g }
top (top_func_rule d b) g =
    let a = after (after (sig_suffix span_to d)) in
    record { span = refl; ends = closed-ends g (closed-on a g (block_closed b (lie-on a g))) }
top (top_method_rule v d b) g =
    let a = after (after (onto (sig_suffix span_to d) (skip (skip (receiver_suffix span_to v))))) in
    record { span = refl; ends = closed-ends g (closed-on a g (block_closed b (lie-on a g))) }

-- ---- the expressions of all declarations

-- behind this place, if there are tokens
abbrev From : ℕ → Lexemes → Type 0
From n ts = Full ts → n ≤ start_of ts

-- expressions stand from a place on
record Standing (n : ℕ) (xs : List Span) : Type 0 where
  upto : ℕ
  stand : Stand n xs (place upto)

tops_stand : {ds : List (Decl Span)} {ts r : Lexemes} (n : ℕ) → SpellsTops span_to ds ts r → Lie ts → From n ts →
    Standing n (decls_spans ds)
tops_stand n no_tops_rule g from = record { upto = n; stand = empty {lo = n} {hi = n} itself }
tops_stand n (more_tops_rule {c = c} d k) g from =
    let a = top_suffix span_to d in
    let t = top d g in
    let rest = tops_stand c.start k (lie-on (skip a) g) (λ f. gap c a g f) in
    record {
      upto = rest.upto;
      stand = both {m = c.start} {n = c.start} itself
          (lower (from (full-more t.ends.has)) (ends-to g full t.ends)) rest.stand;
    }

-- ---- each in its declaration

tops_hold : {ds : List (Decl Span)} {ts r : Lexemes} → SpellsTops span_to ds ts r → Lie ts →
    list_all holds_its_own ds ≡ true
tops_hold no_tops_rule g = refl
tops_hold (more_tops_rule {c = c} {d = d} {ds = ds} {ts = ts} {mid = mid} d1 k) g =
    let t = top d1 g in
    let w : Span = span_to ts (lex c semicolon ∷ mid) in
    and_intro (holds_its_own d) (list_all holds_its_own ds)
    (subst (λ (o : Option Span). meets o (λ v. list_all (lies_in v) (decl_spans d)) ≡ true) (sym t.span)
    (lie-so w (decl_spans d) t.ends.stand)) (tops_hold k (lie-on (skip (top_suffix span_to d1)) g))

-- ---- declarations one behind the other

-- spans stand one behind the other from a place on
abbrev Apart : ℕ → List Span → Type 0
Apart n [] = Unit {0}
Apart n (s ∷ ss) = (n ≤ s.start) × (s.start ≤ s.end) × Apart s.end ss

-- so do those of declarations
record Spans (n : ℕ) (ds : List (Decl Span)) : Type 0 where
  spans : List Span
  are : answers_of decl_span ds ≡ Some spans
  apart : Apart n spans

tops_apart : {ds : List (Decl Span)} {ts r : Lexemes} (n : ℕ) → SpellsTops span_to ds ts r → Lie ts → From n ts →
    Spans n ds
tops_apart n no_tops_rule g from = record { spans = []; are = refl; apart = tt }
tops_apart n (more_tops_rule {c = c} {d = d} {ds = ds} {ts = ts} {mid = mid} d1 k) g from =
    let a = top_suffix span_to d1 in
    let t = top d1 g in
    let w : Span = span_to ts (lex c semicolon ∷ mid) in
    let rest = tops_apart w.end k (lie-on (skip a) g) (λ f. le-le (ends-by t.ends.has g full) (gap c a g f)) in
    record {
      spans = w ∷ rest.spans;
      are = λ z. both_of (t.span z) (rest.are z) (λ y ys. Some (y ∷ ys));
      apart = (from (full-more t.ends.has), stand-up t.ends.stand, rest.apart);
    }

at_least : (m n : ℕ) (ss : List Span) → m ≤ n → Apart n ss → list_all (λ t. nat_le m t.start) ss ≡ true
at_least m n [] h a = refl
at_least m n (s ∷ ss) h a =
    let b = a.0 in
    let c = a.1 in
    and_intro (nat_le m s.start) (list_all (λ t. nat_le m t.start) ss) (grind (arith, nat_tests, h, b))
    (at_least m s.end ss (omega (arith, h, b, c)) a.2)

apart-so : (n : ℕ) (ss : List Span) → Apart n ss → stand_apart ss ≡ true
apart-so n [] a = refl
apart-so n (s ∷ ss) a =
    and_intro (list_all (λ t. nat_le s.end t.start) ss) (stand_apart ss) (at_least s.end s.end ss (omega arith) a.2)
    (apart-so s.end ss a.2)

-- ---- files

pub front_ascends : {f : File Span} {ts r : Lexemes} → SpellsFront span_to f ts r → Lie ts → ascends (decls_spans f.decls) ≡ true
front_ascends {f = f} (front_rule b is ds) g =
    let a = after (after (after (imports_suffix span_to is))) in
    let all = tops_stand 0 ds (lie-on a g) (λ f. omega arith) in
    ascends-so (place 0) (place all.upto) (decls_spans f.decls) all.stand.ascent

pub front_holds : {f : File Span} {ts r : Lexemes} → SpellsFront span_to f ts r → Lie ts → list_all holds_its_own f.decls ≡ true
front_holds (front_rule b is ds) g = tops_hold ds (lie-on (after (after (after (imports_suffix span_to is)))) g)

pub front_apart : {f : File Span} {ts r : Lexemes} → SpellsFront span_to f ts r → Lie ts → decls_stand_apart f.decls ≡ true
front_apart (front_rule b is ds) g =
    let all = tops_apart 0 ds (lie-on (after (after (after (imports_suffix span_to is)))) g) (λ f. omega arith) in
    subst (λ (o : Option (List Span)). meets o stand_apart ≡ true) (sym all.are) (apart-so 0 all.spans all.apart)
