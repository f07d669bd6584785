-- The declarations of a file that reads stand one behind the other, and so do the names in them.
use Rattle.std.proofs.Common.{◌≡◌, ◌∙◌, ◌<◌, ◌≤◌, ℕ, zero, suc, List, [], ◌∷◌, ◌++◌, Option, Some, None, sym, ap, subst, arith}
use Rattle.std.specs.Prelude.{slice_get}
use Rattle.std.proofs.lemmas.Option.{same_Some}
use Rattle.go_tree.specs.declared.spans.Span.{Span}
use Rattle.go_tree.specs.Tree.{Expr}
use Rattle.go_tree.specs.File.{Decl, File}
use Rattle.go_tree.specs.GoWords.Terminals.{Lexeme, lex, semicolon}
use Rattle.go_read.specs.SpellsTypes.{Lexemes}
use Rattle.go_read.specs.SpellsSpans.{start_of, span_to}
use Rattle.go_read.specs.SpellsFiles.{SpellsTops, SpellsFront, no_tops_rule, more_tops_rule, front_rule}
use Rattle.run_rules.specs.Sites.{an_expr}
use Rattle.splice_laws.proofs.Grafts.{Within, here, later}
use Rattle.splice_laws.proofs.Pasts.{imports_past, top_past}
use Rattle.splice_laws.proofs.ImportSplices.ImportPlaces.ImportsStand.{end_is}
use Rattle.member_uses.specs.PossibleUses.Candidates.{Candidate}
use Rattle.member_uses.specs.PossibleUses.Parts.{parts_of}
use Rattle.repeated_parts.specs.ImportsUnused.Uses.{all_parts}
use Rattle.splice_laws.proofs.RunLaws.NodeSpans.{AllDecl}
use Rattle.splice_laws.proofs.RunLaws.SpelledSpans.{top_all}
use Rattle.order_runs.proofs.RunSteps.TokenPlaces.{Rises, Full, full, rises-within, starts-up, ends-by, within-more, le-le, itself, full-within}
use Rattle.order_runs.proofs.RunSteps.TokenPlaces as places
use Rattle.order_runs.proofs.RunSteps.SpanPlaces.{DeclIn}
use Rattle.order_runs.proofs.RunSteps.SeatedUses.{later}
use Rattle.printed_constants.specs.TypedParts.StandingUses.LoneUses.Alone.{IsElsewhere, AreElsewhere, StandsAlone, span_named}
use Rattle.printed_constants.specs.TypedParts.StandingUses.LoneUses.Alone as alone
use Rattle.printed_constants.proofs.TypedParts.StandingUses.LoneUses.Grown.{C, Of, All, Alone, Apart, at, all_else, else_both}
use Rattle.printed_constants.proofs.TypedParts.StandingUses.LoneUses.Walk.{decl_grows}
use Rattle.printed_constants.proofs.TypedParts.StandingUses.LoneUses.Held.{decl_held}

-- a span between two places
abbrev pub Between : ℕ → ℕ → Span → Type 0
Between lo hi s = (lo ≤ s.start) × (s.end ≤ hi)

-- Declarations stand one behind the other from an offset on.
pub data Follow : ℕ → List (Decl Span) → Type 0 where
  no_decls : {lo : ℕ} → Follow lo []
  more_decls : {lo hi : ℕ} {d : Decl Span} {ds : List (Decl Span)} → lo ≤ hi → AllDecl (Between lo hi) d → Follow hi ds → Follow lo (d ∷ ds)
  from_later : {lo a : ℕ} {ds : List (Decl Span)} → lo ≤ a → Follow a ds → Follow lo ds

tops_follow : {ds : List (Decl Span)} {ts r : Lexemes} → SpellsTops span_to ds ts r → Rises ts → Follow (start_of ts) ds
tops_follow no_tops_rule g = no_decls
tops_follow {ts = ts} (more_tops_rule {c = c} {mid = mid} d k) g =
    more_decls (starts-up past g full) (top_all span_to ts (lex c semicolon ∷ mid) (Between (start_of ts) c.start) part d here here) (rest mid k (rises-within past g) (tops_follow k (places.rest-of (rises-within past g))))
  where
    past : Within (lex c semicolon ∷ mid) ts
    past = top_past span_to ts d here

    rest : (us : Lexemes) {ds : List (Decl Span)} {r : Lexemes} → SpellsTops span_to ds us r → Rises (lex c semicolon ∷ us) → Follow (start_of us) ds → Follow c.start ds
    rest [] no_tops_rule g f = no_decls
    rest [] (more_tops_rule d k) g f = absurd (none (top_past span_to [] d here))
      where
        none : {t : Lexeme} {us : Lexemes} → Within (t ∷ us) [] → ⊥
        none w = elim w [ ]
    rest (u ∷ us) k g f = from_later (starts-up (later here) g full) f

    part : (vs q : Lexemes) → Within vs ts → Within q vs → Within (lex c semicolon ∷ mid) q → Between (start_of ts) c.start (span_to vs q)
    part vs q v w x =
        let gv : Rises vs = rises-within v g in
        let gq : Rises q = rises-within w gv in
        let fq : Full q = full-within x full in
        (starts-up v g (full-within w fq), le-le (ends w gv fq) (starts-up x gq full))
      where
        ends : {q vs : Lexemes} → Within q vs → Rises vs → Full q → (span_to vs q).end ≤ start_of q
        ends {q = q} here g f = subst (λ (n : ℕ). n ≤ start_of q) (sym (end_is {r = q} (start_of q) here)) itself
        ends (later w) g f = ends-by (places.more w) g f

pub front_follows : {f : File Span} {ts r : Lexemes} → SpellsFront span_to f ts r → Rises ts → Follow 0 f.decls
front_follows (front_rule {ts = us} {mid = mid} b is ds) g =
    from_later (omega arith) (tops_follow ds (rises-within (later (later (later (imports_past span_to _ is here)))) g))

-- ---- parts of declarations

-- no name of them stands at a span with a byte that ends before they begin
none_behind : (z : Span) (lo : ℕ) (ds : List (Decl Span)) → z.start < z.end → z.end ≤ lo → Follow lo ds → AreElsewhere z (all_parts ds)
none_behind z lo [] some front f = tt
none_behind z lo (d ∷ ds) some front (more_decls {hi = hi} up a f) =
    else_both z (parts_of d) (all_parts ds) (all_else z apart (parts_of d) (decl_held (Between lo hi) d [] a tt)) (none_behind z hi ds some (le-le front up) f)
  where
    apart : (s : Span) → Between lo hi s → z ≡ s → ⊥
    apart s h same = let e : z.start ≡ s.start = ap (λ (v : Span). v.start) same in omega (arith, some, front, h.0, e)
none_behind z lo (d ∷ ds) some front (from_later {a = a} x f) = none_behind z a (d ∷ ds) some (le-le front x) f

held_at : {z : Span} {e : Expr Span} {cs : List C} (P : Span → Type 0) → StandsAlone z e cs → All P cs → P z
held_at {z = z} P (alone.here {c = c} part is others) h = subst (Of P) (ap span_named part ∙ is) h.0
held_at P (alone.later other s) h = held_at P s h.1

with_others : {z : Span} {e : Expr Span} {xs : List C} (ys : List C) → StandsAlone z e xs → AreElsewhere z ys → StandsAlone z e (xs ++ ys)
with_others {z = z} ys (alone.here {cs = cs} part is others) k = alone.here part is (else_both z cs ys others k)
with_others ys (alone.later other s) k = alone.later other (with_others ys s k)

past_others : {z : Span} {e : Expr Span} {ys : List C} (xs : List C) → AreElsewhere z xs → StandsAlone z e ys → StandsAlone z e (xs ++ ys)
past_others [] h s = s
past_others (x ∷ xs) h s = alone.later h.0 (past_others xs h.1 s)

-- what stands alone in a declaration does so in the file
pub alone_in_all : (z : Span) (e : Expr Span) (lo : ℕ) (ds : List (Decl Span)) (i : ℕ) (d : Decl Span) → z.start < z.end → slice_get ds i ≡ Some d → Follow lo ds → StandsAlone z e (parts_of d)
    → StandsAlone z e (all_parts ds) × (lo ≤ z.start)
alone_in_all z e lo [] i d some there f s = absurd cc
alone_in_all z e lo (x ∷ ds) zero d some there (more_decls {hi = hi} up a f) s =
    let own : StandsAlone z e (parts_of x) = subst (λ (y : Decl Span). StandsAlone z e (parts_of y)) (sym (same_Some x d there)) s in
    let h : Between lo hi z = held_at (Between lo hi) own (decl_held (Between lo hi) x [] a tt) in
    (with_others (all_parts ds) own (none_behind z hi ds some h.1 f), h.0)
alone_in_all z e lo (x ∷ ds) (suc i) d some there (more_decls {hi = hi} up a f) s =
    let k = alone_in_all z e hi ds i d some there f s in
    (past_others (parts_of x) (all_else z (λ v h same. differ v h same k.1) (parts_of x) (decl_held (Between lo hi) x [] a tt)) k.0, le-le up k.1)
  where
    differ : (v : Span) → Between lo hi v → z ≡ v → hi ≤ z.start → ⊥
    differ v h same le = let q : z.end ≡ v.end = ap (λ (y : Span). y.end) same in omega (arith, some, h.1, le, q)
alone_in_all z e lo (x ∷ ds) i d some there (from_later {a = a} up f) s =
    let k = alone_in_all z e a (x ∷ ds) i d some there f s in (k.0, le-le up k.1)

-- ---- in a declaration

-- the expression is a part
pub data Has {S : Type 0} (e : Expr S) : List (Candidate S) → Type 0 where
  has_here : {c : Candidate S} {cs : List (Candidate S)} → c.part ≡ an_expr e → Has e (c ∷ cs)
  has_later : {c : Candidate S} {cs : List (Candidate S)} → Has e cs → Has e (c ∷ cs)

apart_at : {z s : Span} {e : Expr Span} {cs : List C} → span_named (an_expr e) ≡ Some z → Has e cs → AreElsewhere s cs → z ≡ s → ⊥
apart_at {s = s} is (has_here part) h same = subst (IsElsewhere s) (ap span_named part ∙ is) h.0 (sym same)
apart_at is (has_later m) h same = apart_at is m h.1 same

alone_of : (z : Span) (e : Expr Span) (cs : List C) → span_named (an_expr e) ≡ Some z → Has e cs → Apart cs → StandsAlone z e cs
alone_of z e [] is m a = elim m [ ]
alone_of z e (c ∷ cs) is (has_here part) a = alone.here part is (one (at c) (ap span_named part ∙ is) a.0)
  where
    one : (o : Option Span) → o ≡ Some z → Alone o cs → AreElsewhere z cs
    one None q h = absurd cc
    one (Some s) q h = subst (λ (y : Span). AreElsewhere y cs) (same_Some s z q) h
alone_of z e (c ∷ cs) is (has_later m) a = alone.later (one (at c) a.0) (alone_of z e cs is m a.1)
  where
    one : (o : Option Span) → Alone o cs → IsElsewhere z o
    one None h = tt
    one (Some s) h = apart_at is m h

pub alone_in_one : (z : Span) (e : Expr Span) (d : Decl Span) (lo hi : ℕ) → DeclIn lo hi d → span_named (an_expr e) ≡ Some z → Has e (parts_of d) → StandsAlone z e (parts_of d)
alone_in_one z e d lo hi h is m = let g = decl_grows d [] h in alone_of z e (parts_of d) is m (subst Apart (sym g.is) g.apart)
