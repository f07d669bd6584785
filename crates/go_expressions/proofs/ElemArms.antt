-- What the reader gives for the elements of a composite literal.
use Rattle.std.proofs.Common.{◌≡◌, ◌≢◌, false, List, [], ◌∷◌, ◌++◌, map, Some, None, refl, sym, ap, ◌∙◌}
use Rattle.std.specs.Prelude.{option_and_then}
use Rattle.go_tree.specs.declared.spans.Span.{Span}
use Rattle.go_tree.specs.declared.exprs.Elem as source
use Rattle.go_tree.specs.View.{elem_of}
use Rattle.go_tree.specs.Lists.{elems_from}
use Rattle.go_tree.specs.Tree.{Expr, Elems, ValueOption, Value, no_elems, elem, plain, braced, no_value, some_value}
use Rattle.go_tree.specs.GoWords.Terminals.{lex, comma, colon, brace, end_brace}
use Rattle.go_read.specs.SpellsSpans.{span_to}
use Rattle.go_read.specs.SpellsTypes.{Lexemes}
use Rattle.go_read.specs.Goals.{read_operand, read_elems, read_elem, read_value}
use Rattle.go_read.specs.Programs.{ask, run}
use Rattle.go_read.specs.ReadExprs.{elems_step, elems_after, elem_step, value_step}
use Rattle.go_read.specs.Reading.{at}
use Rattle.go_read.proofs.Finds.{gives, asks, finish}
use Rattle.go_tree.specs.declared.go_words.terminals.Terminal.{Terminal}
use Rattle.go_tree.specs.declared.go_words.terminals.Terminal.TheVariants as code
use Rattle.go_productions.specs.Terminals.{first_of, rest_of}
use Rattle.go_productions.specs.Parts.{onto, in_front}
use Rattle.go_expressions.specs.ExprParts.{elem_at, elem_and}
use Rattle.go_productions.proofs.Fronts.{front_none, front_some, front_push, front_last, then_some, then_none}
use Rattle.go_productions.proofs.Steps.{lacks, no_end_brace, on_end_brace, goes_on}

-- ---- a key or a value

pub value_none : (ts : Lexemes) (k : Terminal) → first_of ts ≡ k → k ≢ code.Brace → at span_to (read_operand false) ts ≡ None → at span_to read_value ts ≡ None
unfolding value_step
value_none (lex s brace ∷ ts) k h n a = absurd (n (sym h))
value_none ts k h n a = finish span_to read_value ts (lacks a)

pub value_plain : (ts r : Lexemes) (x : Expr Span) (k : Terminal) → first_of ts ≡ k → k ≢ code.Brace → at span_to (read_operand false) ts ≡ Some (x, r) → at span_to read_value ts ≡ Some (plain x, r)
unfolding value_step
value_plain (lex s brace ∷ ts) r x k h n a = absurd (n (sym h))
value_plain ts r x k h n a = finish span_to read_value ts (asks span_to a (gives span_to))

pub braced_none : (ts us : Lexemes) → first_of ts ≡ code.Brace → us ≡ rest_of ts → at span_to read_elems us ≡ None → at span_to read_value ts ≡ None
unfolding value_step
braced_none (lex s brace ∷ ts) us h u a = finish span_to read_value (lex s brace ∷ ts) (lacks (ap (at span_to read_elems) (sym u) ∙ a))
braced_none _ us h u a = absurd cc

pub braced_end : (ts us r : Lexemes) (es : Elems Span) (k : Terminal) → first_of ts ≡ code.Brace → us ≡ rest_of ts → at span_to read_elems us ≡ Some (es, r) → first_of r ≡ k → k ≢ code.EndBrace → at span_to read_value ts ≡ None
unfolding value_step
braced_end (lex s brace ∷ ts) us r es k h u a f n = finish span_to read_value (lex s brace ∷ ts) (asks span_to (ap (at span_to read_elems) (sym u) ∙ a) (no_end_brace r k _ f n))
braced_end _ us r es k h u a f n = absurd cc

pub braced_some : (ts us r vs : Lexemes) (es : Elems Span) → first_of ts ≡ code.Brace → us ≡ rest_of ts → at span_to read_elems us ≡ Some (es, r) → first_of r ≡ code.EndBrace → vs ≡ rest_of r → at span_to read_value ts ≡ Some (braced (span_to ts vs) es, vs)
unfolding value_step
braced_some (lex s brace ∷ ts) us r vs es h u a f v = finish span_to read_value (lex s brace ∷ ts) (asks span_to (ap (at span_to read_elems) (sym u) ∙ a) (on_end_brace r vs _ f v (gives span_to)))
braced_some _ us r vs es h u a f v = absurd cc

-- ---- an element

abbrev seen : Lexemes → (ValueOption Span × Value Span) × Lexemes → (Span × ValueOption Span × Value Span) × Lexemes
seen ts x = ((span_to ts x.1, x.0.0, x.0.1), x.1)

pub elem_none : (ts : Lexemes) → at span_to read_value ts ≡ None → elem_at ts ≡ None
unfolding elem_step elem_at
elem_none ts a = ap (option_and_then (λ x. Some (seen ts x))) (finish span_to read_elem ts (lacks a))

elem_alone : (ts r : Lexemes) (v : Value Span) (k : Terminal) → at span_to read_value ts ≡ Some (v, r) → first_of r ≡ k → k ≢ code.Colon → at span_to read_elem ts ≡ Some ((no_value, v), r)
unfolding elem_step
elem_alone ts (lex c colon ∷ r) v k a f n = absurd (n (sym f))
elem_alone ts r v k a f n = finish span_to read_elem ts (asks span_to a (gives span_to))

pub elem_plain : (ts r : Lexemes) (v : Value Span) (k : Terminal) → at span_to read_value ts ≡ Some (v, r) → first_of r ≡ k → k ≢ code.Colon → elem_at ts ≡ Some ((span_to ts r, no_value, v), r)
unfolding elem_at
elem_plain ts r v k a f n = ap (option_and_then (λ x. Some (seen ts x))) (elem_alone ts r v k a f n)

elem_lost : (ts r us : Lexemes) (v : Value Span) → at span_to read_value ts ≡ Some (v, r) → first_of r ≡ code.Colon → us ≡ rest_of r → at span_to read_value us ≡ None → at span_to read_elem ts ≡ None
unfolding elem_step
elem_lost ts (lex c colon ∷ r) us v a f u b = finish span_to read_elem ts (asks span_to a (lacks (ap (at span_to read_value) (sym u) ∙ b)))
elem_lost ts _ us v a f u b = absurd cc

pub elem_open : (ts r us : Lexemes) (v : Value Span) → at span_to read_value ts ≡ Some (v, r) → first_of r ≡ code.Colon → us ≡ rest_of r → at span_to read_value us ≡ None → elem_at ts ≡ None
unfolding elem_at
elem_open ts r us v a f u b = ap (option_and_then (λ x. Some (seen ts x))) (elem_lost ts r us v a f u b)

elem_both : (ts r us q : Lexemes) (v w : Value Span) → at span_to read_value ts ≡ Some (v, r) → first_of r ≡ code.Colon → us ≡ rest_of r → at span_to read_value us ≡ Some (w, q) → at span_to read_elem ts ≡ Some ((some_value v, w), q)
unfolding elem_step
elem_both ts (lex c colon ∷ r) us q v w a f u b = finish span_to read_elem ts (asks span_to a (asks span_to (ap (at span_to read_value) (sym u) ∙ b) (gives span_to)))
elem_both ts _ us q v w a f u b = absurd cc

pub elem_keyed : (ts r us q : Lexemes) (v w : Value Span) → at span_to read_value ts ≡ Some (v, r) → first_of r ≡ code.Colon → us ≡ rest_of r → at span_to read_value us ≡ Some (w, q) → elem_at ts ≡ Some ((span_to ts q, some_value v, w), q)
unfolding elem_at
elem_keyed ts r us q v w a f u b = ap (option_and_then (λ x. Some (seen ts x))) (elem_both ts r us q v w a f u b)

-- ---- elements

pub onto_elems : (xs : List (Span × ValueOption Span × Value Span)) → onto elem_and xs no_elems ≡ elems_from xs
onto_elems [] = refl
onto_elems (x ∷ xs) = ap (elem x.0 x.1 x.2) (onto_elems xs)

open_elems : (ts : Lexemes) (k : Terminal) → first_of ts ≡ k → k ≢ code.EndBrace → at span_to read_elems ts ≡ run (at span_to) (ask read_elem ts (λ x r. elems_after span_to ts x r))
unfolding elems_step
open_elems (lex c end_brace ∷ ts) k h n = absurd (n (sym h))
open_elems ts k h n = finish span_to read_elems ts (record { is = refl })

pub elems_end : (front : List (Span × ValueOption Span × Value Span)) (ts : Lexemes) (ws : Lexemes) → in_front elem_and front (at span_to read_elems ts) ≡ at span_to read_elems ws → first_of ts ≡ code.EndBrace → at span_to read_elems ws ≡ Some (elems_from front, ts)
unfolding elems_step
elems_end front (lex c end_brace ∷ ts) ws i h =
    front_some elem_and front (at span_to read_elems (lex c end_brace ∷ ts)) (at span_to read_elems ws) no_elems (lex c end_brace ∷ ts) i (finish span_to read_elems (lex c end_brace ∷ ts) (gives span_to))
    ∙ ap (λ (es : Elems Span). Some (es, lex c end_brace ∷ ts)) (onto_elems front)
elems_end front _ ws i h = absurd cc

pub elems_lost : (front : List (Span × ValueOption Span × Value Span)) (ts : Lexemes) (k : Terminal) (ws : Lexemes) → in_front elem_and front (at span_to read_elems ts) ≡ at span_to read_elems ws → first_of ts ≡ k → k ≢ code.EndBrace → elem_at ts ≡ None → at span_to read_elems ws ≡ None
unfolding elem_at
elems_lost front ts k ws i h n a =
    front_none elem_and front (at span_to read_elems ts) (at span_to read_elems ws) i (open_elems ts k h n ∙ (lacks {k = λ x r. elems_after span_to ts x r} (then_none (seen ts) (at span_to read_elem ts) a)).is)

alone_list : (ts r : Lexemes) (y : ValueOption Span × Value Span) (k l : Terminal) → first_of ts ≡ k → k ≢ code.EndBrace → at span_to read_elem ts ≡ Some (y, r) → first_of r ≡ l → l ≢ code.Comma → at span_to read_elems ts ≡ Some (elem_and (span_to ts r, y.0, y.1) no_elems, r)
alone_list ts (lex c comma ∷ r) y k l h n a f m = absurd (m (sym f))
alone_list ts r y k l h n a f m = open_elems ts k h n ∙ (asks span_to {k = λ x r. elems_after span_to ts x r} a (gives span_to)).is

longer_list : (ts r us : Lexemes) (y : ValueOption Span × Value Span) (k : Terminal) → first_of ts ≡ k → k ≢ code.EndBrace → at span_to read_elem ts ≡ Some (y, r) → first_of r ≡ code.Comma → us ≡ rest_of r → at span_to read_elems ts ≡ in_front elem_and ((span_to ts r, y.0, y.1) ∷ []) (at span_to read_elems us)
longer_list ts (lex c comma ∷ r) us y k h n a f u =
    open_elems ts k h n ∙ (asks span_to {k = λ x r. elems_after span_to ts x r} a (goes_on {g = read_elems} {ts = r} elem_and (span_to ts (lex c comma ∷ r), y.0, y.1))).is
    ∙ ap (λ (vs : Lexemes). in_front elem_and ((span_to ts (lex c comma ∷ r), y.0, y.1) ∷ []) (at span_to read_elems vs)) (sym u)
longer_list ts _ us y k h n a f u = absurd cc

elems_one : (ts r : Lexemes) (x : Span × ValueOption Span × Value Span) (k l : Terminal) → first_of ts ≡ k → k ≢ code.EndBrace → elem_at ts ≡ Some (x, r) → first_of r ≡ l → l ≢ code.Comma → at span_to read_elems ts ≡ Some (elem_and x no_elems, r)
unfolding elem_at
elems_one ts r x k l h n a f m =
    let q = then_some (seen ts) (at span_to read_elem ts) (x, r) a in
    alone_list ts q.0.1 q.0.0 k l h n q.1 (ap (λ (y : (Span × ValueOption Span × Value Span) × Lexemes). first_of y.1) q.2 ∙ f) m
    ∙ ap (λ (y : (Span × ValueOption Span × Value Span) × Lexemes). Some (elem_and y.0 no_elems, y.1)) q.2

elems_and : (ts r us : Lexemes) (x : Span × ValueOption Span × Value Span) (k : Terminal) → first_of ts ≡ k → k ≢ code.EndBrace → elem_at ts ≡ Some (x, r) → first_of r ≡ code.Comma → us ≡ rest_of r → at span_to read_elems ts ≡ in_front elem_and (x ∷ []) (at span_to read_elems us)
unfolding elem_at
elems_and ts r us x k h n a f u =
    let q = then_some (seen ts) (at span_to read_elem ts) (x, r) a in
    longer_list ts q.0.1 us q.0.0 k h n q.1 (ap (λ (y : (Span × ValueOption Span × Value Span) × Lexemes). first_of y.1) q.2 ∙ f) (u ∙ ap (λ (y : (Span × ValueOption Span × Value Span) × Lexemes). rest_of y.1) (sym q.2))
    ∙ ap (λ (y : (Span × ValueOption Span × Value Span) × Lexemes). in_front elem_and (y.0 ∷ []) (at span_to read_elems us)) q.2

pub elems_last : (xs ys : List source.Elem) (x : source.Elem) (ts r : Lexemes) (k l : Terminal) (ws : Lexemes) → in_front elem_and (map elem_of xs) (at span_to read_elems ts) ≡ at span_to read_elems ws → ys ≡ xs ++ x ∷ [] → first_of ts ≡ k → k ≢ code.EndBrace → elem_at ts ≡ Some (elem_of x, r) → first_of r ≡ l → l ≢ code.Comma
    → at span_to read_elems ws ≡ Some (elems_from (map elem_of ys), r)
elems_last xs ys x ts r k l ws i p h n a f m =
    front_last elem_and elem_of xs ys x no_elems r (at span_to read_elems ts) (at span_to read_elems ws) p i (elems_one ts r (elem_of x) k l h n a f m) ∙ ap (λ (es : Elems Span). Some (es, r)) (onto_elems (map elem_of ys))

pub elems_more : (xs ys : List source.Elem) (x : source.Elem) (ts r us : Lexemes) (k : Terminal) (ws : Lexemes) → in_front elem_and (map elem_of xs) (at span_to read_elems ts) ≡ at span_to read_elems ws → ys ≡ xs ++ x ∷ [] → first_of ts ≡ k → k ≢ code.EndBrace → elem_at ts ≡ Some (elem_of x, r) → first_of r ≡ code.Comma → us ≡ rest_of r
    → in_front elem_and (map elem_of ys) (at span_to read_elems us) ≡ at span_to read_elems ws
elems_more xs ys x ts r us k ws i p h n a f u = front_push elem_and elem_of xs ys x (at span_to read_elems ts) (at span_to read_elems us) (at span_to read_elems ws) p i (elems_and ts r us (elem_of x) k h n a f u)
