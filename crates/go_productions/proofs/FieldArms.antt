-- What the reader gives for fields and for names that share a type.
use Rattle.std.proofs.Common.{◌≡◌, ◌≢◌, List, [], ◌∷◌, ◌++◌, map, Option, Some, None, refl, sym, ap, ◌∙◌}
use Rattle.std.specs.Prelude.{option_and_then}
use Rattle.go_tree.specs.declared.spans.Span.{Span}
use Rattle.go_tree.specs.Tree.{NameAt, TypeExpr, Fields, no_fields, field}
use Rattle.std.proofs.lemmas.List.{map_push}
use Rattle.go_tree.specs.declared.types.FieldSpec.{FieldSpec}
use Rattle.go_tree.specs.View.{field_of, name_at_of, type_of}
use Rattle.go_tree.specs.Lists.{fields_from}
use Rattle.go_tree.specs.GoWords.Terminals.{lex, ident, comma, semicolon, end_brace}
use Rattle.go_read.specs.SpellsSpans.{span_to}
use Rattle.go_read.specs.SpellsTypes.{Lexemes, fields_of}
use Rattle.go_read.specs.Goals.{read_type, read_entries, read_fields}
use Rattle.go_read.specs.Programs.{run}
use Rattle.go_read.specs.ReadTypes.{entries_step, fields_step, fields_after}
use Rattle.go_read.specs.Reading.{at}
use Rattle.go_read.proofs.Finds.{gives, asks, finish}
use Rattle.go_tree.specs.declared.go_words.terminals.Terminal.{Terminal}
use Rattle.go_tree.specs.declared.go_words.terminals.Terminal.TheVariants as code
use Rattle.go_productions.specs.Terminals.{first_of, rest_of, name_of}
use Rattle.go_productions.specs.Parts.{onto, in_front, field_and, skipped, shared, shared_read, shared_onto}
use Rattle.go_productions.proofs.Fronts.{onto_append, then_some, then_none}
use Rattle.go_productions.proofs.Steps.{fails, lacks}

-- ---- names that share a type

entries_lost : (ts : Lexemes) → skipped ts ≡ None → at span_to read_entries ts ≡ None
unfolding entries_step
entries_lost (lex s (ident n) ∷ lex c comma ∷ ts) h = finish span_to read_entries (lex s (ident n) ∷ lex c comma ∷ ts) (lacks (entries_lost ts h))
entries_lost (lex s (ident n) ∷ ts) h = absurd cc
entries_lost ts h = finish span_to read_entries ts fails

entries_untyped : (ts us : Lexemes) → skipped ts ≡ Some us → at span_to read_type us ≡ None → at span_to read_entries ts ≡ None
unfolding entries_step
entries_untyped (lex s (ident n) ∷ lex c comma ∷ ts) us h e = finish span_to read_entries (lex s (ident n) ∷ lex c comma ∷ ts) (lacks (entries_untyped ts us h e))
entries_untyped (lex s (ident n) ∷ ts) us h e = finish span_to read_entries (lex s (ident n) ∷ ts) (lacks (ap (at span_to read_type) (let z : ts ≡ us = cc in z) ∙ e))
entries_untyped _ us h e = absurd cc

entries_typed : (ts us r : Lexemes) (t : TypeExpr Span) → skipped ts ≡ Some us → at span_to read_type us ≡ Some (t, r) → (es : List (Span × NameAt Span)) × (at span_to read_entries ts ≡ Some ((t, es), r))
unfolding entries_step
entries_typed (lex s (ident n) ∷ lex c comma ∷ ts) us r t h e =
    let q = entries_typed ts us r t h e in
    ((span_to (lex s (ident n) ∷ lex c comma ∷ ts) r, name_of (lex s (ident n) ∷ lex c comma ∷ ts)) ∷ q.0, finish span_to read_entries (lex s (ident n) ∷ lex c comma ∷ ts) (asks span_to q.1 (gives span_to)))
entries_typed (lex s (ident n) ∷ ts) us r t h e =
    ((span_to (lex s (ident n) ∷ ts) r, name_of (lex s (ident n) ∷ ts)) ∷ [], finish span_to read_entries (lex s (ident n) ∷ ts) (asks span_to (ap (at span_to read_type) (let z : ts ≡ us = cc in z) ∙ e) (gives span_to)))
entries_typed _ us r t h e = absurd cc

pub shared_lost : (front : List (Span × NameAt Span × TypeExpr Span)) (ts : Lexemes) → skipped ts ≡ None → shared_onto front ts ≡ None
shared_lost front ts h = ap (option_and_then (λ x. Some (shared_read front x))) (entries_lost ts h)

pub shared_untyped : (front : List (Span × NameAt Span × TypeExpr Span)) (ts us : Lexemes) → skipped ts ≡ Some us → at span_to read_type us ≡ None → shared_onto front ts ≡ None
shared_untyped front ts us h e = ap (option_and_then (λ x. Some (shared_read front x))) (entries_untyped ts us h e)

pub shared_last : (front : List (Span × NameAt Span × TypeExpr Span)) (ts us r vs : Lexemes) (t : TypeExpr Span) (k : Terminal) → skipped ts ≡ Some us → at span_to read_type us ≡ Some (t, r) → vs ≡ rest_of ts → first_of vs ≡ k → k ≢ code.Comma
    → shared_onto front ts ≡ Some (front ++ (span_to ts r, name_of ts, t) ∷ [], r)
unfolding entries_step
shared_last front (lex s (ident w) ∷ lex c comma ∷ ts) us r vs t k h e v f n = absurd (n (sym f ∙ ap first_of v))
shared_last front (lex s (ident w) ∷ ts) us r vs t k h e v f n =
    ap (option_and_then (λ x. Some (shared_read front x))) (finish span_to read_entries (lex s (ident w) ∷ ts) (asks span_to (ap (at span_to read_type) (let z : ts ≡ us = cc in z) ∙ e) (gives span_to)))
shared_last front _ us r vs t k h e v f n = absurd cc

append_one : (front : List (Span × NameAt Span × TypeExpr Span)) (x : Span × NameAt Span × TypeExpr Span) (ys : List (Span × NameAt Span × TypeExpr Span)) → (front ++ x ∷ []) ++ ys ≡ front ++ x ∷ ys
append_one [] x ys = refl
append_one (y ∷ front) x ys = ap (λ (zs : List (Span × NameAt Span × TypeExpr Span)). y ∷ zs) (append_one front x ys)

pub shared_more : (front : List (Span × NameAt Span × TypeExpr Span)) (ts us r vs ws : Lexemes) (t : TypeExpr Span) → skipped ts ≡ Some us → at span_to read_type us ≡ Some (t, r) → vs ≡ rest_of ts → first_of vs ≡ code.Comma → ws ≡ rest_of vs
    → (shared_onto (front ++ (span_to ts r, name_of ts, t) ∷ []) ws ≡ shared_onto front ts) × (skipped ws ≡ Some us)
unfolding entries_step
shared_more front (lex s (ident n) ∷ lex c comma ∷ ts) us r vs ws t h e v f w =
    let q = entries_typed ts us r t h e in
    let p : ws ≡ ts = w ∙ ap rest_of v in
    let x : Span × NameAt Span × TypeExpr Span = (span_to (lex s (ident n) ∷ lex c comma ∷ ts) r, name_of (lex s (ident n) ∷ lex c comma ∷ ts), t) in (
      ap (shared_onto (front ++ x ∷ [])) p ∙ ap (option_and_then (λ y. Some (shared_read (front ++ x ∷ []) y))) q.1
          ∙ ap (λ (zs : List (Span × NameAt Span × TypeExpr Span)). Some (zs, r)) (append_one front x (shared t q.0))
          ∙ sym (ap (option_and_then (λ y. Some (shared_read front y))) (finish span_to read_entries (lex s (ident n) ∷ lex c comma ∷ ts) (asks span_to q.1 (gives span_to)))),
      ap skipped p ∙ h,
    )
shared_more front (lex s (ident n) ∷ ts) us r vs ws t h e v f w = let z = sym f ∙ ap first_of v in absurd cc
shared_more front _ us r vs ws t h e v f w = absurd cc

-- ---- fields

fields_onto : (t : TypeExpr Span) (es : List (Span × NameAt Span)) (fs : Fields Span) → onto field_and (shared t es) fs ≡ fields_of es t fs
fields_onto t [] fs = refl
fields_onto t (e ∷ es) fs = ap (field e.0 e.1 t) (fields_onto t es fs)

pub onto_fields : (xs : List (Span × NameAt Span × TypeExpr Span)) → onto field_and xs no_fields ≡ fields_from xs
onto_fields [] = refl
onto_fields (x ∷ xs) = ap (field x.0 x.1 x.2) (onto_fields xs)

-- where no brace closes the fields
open_fields : (ts : Lexemes) (k : Terminal) → first_of ts ≡ k → k ≢ code.EndBrace → at span_to read_fields ts ≡ option_and_then (λ x. run (at span_to) (fields_after span_to x.0 x.1)) (at span_to read_entries ts)
unfolding fields_step
open_fields (lex c end_brace ∷ ts) k h n = absurd (n (sym h))
open_fields ts k h n = finish span_to read_fields ts (record { is = refl })

pub fields_end : (front : List (Span × NameAt Span × TypeExpr Span)) (ts : Lexemes) (g : Option (Fields Span × Lexemes)) → in_front field_and front (at span_to read_fields ts) ≡ g → first_of ts ≡ code.EndBrace → g ≡ Some (fields_from front, ts)
unfolding fields_step
fields_end front (lex c end_brace ∷ ts) g i h =
    sym i ∙ ap (in_front field_and front) (finish span_to read_fields (lex c end_brace ∷ ts) (gives span_to)) ∙ ap (λ (fs : Fields Span). Some (fs, lex c end_brace ∷ ts)) (onto_fields front)
fields_end front _ g i h = absurd cc

pub fields_lost : (front : List (Span × NameAt Span × TypeExpr Span)) (ts : Lexemes) (k : Terminal) (g : Option (Fields Span × Lexemes)) → in_front field_and front (at span_to read_fields ts) ≡ g → first_of ts ≡ k → k ≢ code.EndBrace → shared_onto front ts ≡ None → g ≡ None
fields_lost front ts k g i h n e =
    sym i ∙ ap (in_front field_and front) (open_fields ts k h n ∙ ap (option_and_then (λ x. run (at span_to) (fields_after span_to x.0 x.1))) (then_none (shared_read front) (at span_to read_entries ts) e))

-- what follows names and their type
after_shared : (front next : List (Span × NameAt Span × TypeExpr Span)) (ts r : Lexemes) (k : Terminal) (g : Option (Fields Span × Lexemes)) → in_front field_and front (at span_to read_fields ts) ≡ g → first_of ts ≡ k → k ≢ code.EndBrace → shared_onto front ts ≡ Some (next, r)
    → (x : TypeExpr Span × List (Span × NameAt Span)) × (next ≡ front ++ shared x.0 x.1) × (g ≡ in_front field_and front (run (at span_to) (fields_after span_to x r)))
after_shared front next ts r k g i h n e =
    let q = then_some (shared_read front) (at span_to read_entries ts) (next, r) e in (
      q.0.0,
      ap (λ (y : List (Span × NameAt Span × TypeExpr Span) × Lexemes). y.0) (sym q.2),
      sym i ∙ ap (in_front field_and front) (open_fields ts k h n ∙ ap (option_and_then (λ x. run (at span_to) (fields_after span_to x.0 x.1))) q.1 ∙ ap (λ (us : Lexemes). run (at span_to) (fields_after span_to q.0.0 us)) (ap (λ (y : List (Span × NameAt Span × TypeExpr Span) × Lexemes). y.1) q.2)),
    )

behind : (front : List (Span × NameAt Span × TypeExpr Span)) (x : TypeExpr Span × List (Span × NameAt Span)) (o : Option (Fields Span × Lexemes)) → in_front field_and front (option_and_then (λ y. Some (fields_of x.1 x.0 y.0, y.1)) o) ≡ in_front field_and (front ++ shared x.0 x.1) o
behind front x None = refl
behind front x (Some y) = ap (λ (fs : Fields Span). Some (fs, y.1)) (ap (onto field_and front) (sym (fields_onto x.0 x.1 y.0)) ∙ sym (onto_append field_and front (shared x.0 x.1) y.0))

pub fields_more : (front next : List (Span × NameAt Span × TypeExpr Span)) (ts r us : Lexemes) (k : Terminal) (g : Option (Fields Span × Lexemes)) → in_front field_and front (at span_to read_fields ts) ≡ g → first_of ts ≡ k → k ≢ code.EndBrace → shared_onto front ts ≡ Some (next, r)
    → first_of r ≡ code.Semicolon → us ≡ rest_of r → in_front field_and next (at span_to read_fields us) ≡ g
fields_more front next ts (lex c semicolon ∷ r) us k g i h n e f u =
    let q = after_shared front next ts (lex c semicolon ∷ r) k g i h n e in
    ap (λ (vs : Lexemes). in_front field_and next (at span_to read_fields vs)) u ∙ ap (λ (xs : List (Span × NameAt Span × TypeExpr Span)). in_front field_and xs (at span_to read_fields r)) q.1
    ∙ sym (behind front q.0 (at span_to read_fields r)) ∙ sym q.2
fields_more front next ts _ us k g i h n e f u = absurd cc

pub fields_last : (front next : List (Span × NameAt Span × TypeExpr Span)) (ts r : Lexemes) (k : Terminal) (g : Option (Fields Span × Lexemes)) → in_front field_and front (at span_to read_fields ts) ≡ g → first_of ts ≡ k → k ≢ code.EndBrace → shared_onto front ts ≡ Some (next, r)
    → first_of r ≡ code.EndBrace → in_front field_and next (at span_to read_fields r) ≡ g
unfolding fields_step
fields_last front next ts (lex c end_brace ∷ r) k g i h n e f =
    let q = after_shared front next ts (lex c end_brace ∷ r) k g i h n e in
    ap (λ (xs : List (Span × NameAt Span × TypeExpr Span)). in_front field_and xs (at span_to read_fields (lex c end_brace ∷ r))) q.1
    ∙ ap (in_front field_and (front ++ shared q.0.0 q.0.1)) (finish span_to read_fields (lex c end_brace ∷ r) (gives span_to))
    ∙ sym (behind front q.0 (Some (no_fields, lex c end_brace ∷ r))) ∙ sym q.2
fields_last front next ts _ k g i h n e f = absurd cc

pub fields_stop : (front next : List (Span × NameAt Span × TypeExpr Span)) (ts r : Lexemes) (k l : Terminal) (g : Option (Fields Span × Lexemes)) → in_front field_and front (at span_to read_fields ts) ≡ g → first_of ts ≡ k → k ≢ code.EndBrace → shared_onto front ts ≡ Some (next, r)
    → first_of r ≡ l → l ≢ code.Semicolon → l ≢ code.EndBrace → g ≡ None
fields_stop front next ts (lex c semicolon ∷ r) k l g i h n e f a b = absurd (a (sym f))
fields_stop front next ts (lex c end_brace ∷ r) k l g i h n e f a b = absurd (b (sym f))
fields_stop front next ts r k l g i h n e f a b = let q = after_shared front next ts r k g i h n e in q.2

pub field_pushed : (xs ys : List FieldSpec) (x : FieldSpec) (s : Span) (n : NameAt Span) (t : TypeExpr Span) → ys ≡ xs ++ x ∷ [] → x.span ≡ s → name_at_of x.name ≡ n → type_of x.of ≡ t → map field_of ys ≡ map field_of xs ++ (s, n, t) ∷ []
field_pushed xs ys x s n t e p q r =
    ap (map field_of) e ∙ map_push field_of xs x
    ∙ ap (λ (z : Span). map field_of xs ++ (z, name_at_of x.name, type_of x.of) ∷ []) p
    ∙ ap (λ (z : NameAt Span). map field_of xs ++ (s, z, type_of x.of) ∷ []) q
    ∙ ap (λ (z : TypeExpr Span). map field_of xs ++ (s, n, z) ∷ []) r
