-- What the reader gives for a type, by its first tokens.
use Rattle.std.proofs.Common.{◌≡◌, ◌≢◌, ◌∷◌, Some, None, true, false, sym, ap, ◌∙◌}
use Rattle.go_tree.specs.declared.spans.Span.{Span}
use Rattle.go_tree.specs.declared.operators.BinOp.{BinOp}
use Rattle.go_tree.specs.declared.operators.BinOp.TheVariants.{Mul}
use Rattle.go_tree.specs.Tree.{TypeExpr, Fields, named, pointer, slice_type, map_type, struct_type}
use Rattle.go_tree.specs.GoWords.Terminals.{lex, ident, binary_op, dot, paren, bracket, end_bracket, brace, key_map, key_struct}
use Rattle.go_read.specs.SpellsSpans.{span_to}
use Rattle.go_read.specs.SpellsTypes.{Lexemes}
use Rattle.go_read.specs.Goals.{read_type, read_fields}
use Rattle.go_read.specs.ReadTypes.{type_step}
use Rattle.go_read.specs.Reading.{at}
use Rattle.go_read.proofs.Finds.{gives, asks, finish}
use Rattle.go_tree.specs.declared.go_words.terminals.Terminal.{Terminal}
use Rattle.go_tree.specs.declared.go_words.terminals.Terminal.TheVariants as code
use Rattle.go_productions.specs.Terminals.{first_of, rest_of, name_of}
use Rattle.go_productions.specs.Parts.{is_qualified}
use Rattle.go_productions.proofs.Steps.{fails, lacks, no_end_bracket, on_end_bracket, no_end_brace, on_end_brace, no_end_paren, on_end_paren}

pub type_none : (ts : Lexemes) (k : Terminal) → first_of ts ≡ k → k ≢ code.Ident → ((op : BinOp) → k ≢ code.Binary op) → k ≢ code.Bracket → k ≢ code.Map → k ≢ code.Struct → k ≢ code.Paren → at span_to read_type ts ≡ None
unfolding type_step
type_none (lex s (ident n) ∷ ts) k h a b c d e f = absurd (a (sym h))
type_none (lex s (binary_op op) ∷ ts) k h a b c d e f = absurd (b op (sym h))
type_none (lex s bracket ∷ ts) k h a b c d e f = absurd (c (sym h))
type_none (lex s key_map ∷ ts) k h a b c d e f = absurd (d (sym h))
type_none (lex s key_struct ∷ ts) k h a b c d e f = absurd (e (sym h))
type_none (lex s paren ∷ ts) k h a b c d e f = absurd (f (sym h))
type_none ts k h a b c d e f = finish span_to read_type ts (fails)

pub named_some : (ts us : Lexemes) → first_of ts ≡ code.Ident → is_qualified ts ≡ false → us ≡ rest_of ts → at span_to read_type ts ≡ Some (named (span_to ts us) None (name_of ts), us)
unfolding type_step
named_some (lex s (ident p) ∷ lex d dot ∷ lex s2 (ident n) ∷ ts) us h q u = absurd cc
named_some (lex s (ident p) ∷ ts) us h q u = finish span_to read_type (lex s (ident p) ∷ ts) (gives span_to) ∙ ap (λ (vs : Lexemes). Some (named (span_to (lex s (ident p) ∷ ts) vs) None (name_of (lex s (ident p) ∷ ts)), vs)) (sym u)
named_some _ us h q u = absurd cc

pub qualified_some : (ts us vs : Lexemes) → is_qualified ts ≡ true → us ≡ rest_of (rest_of ts) → vs ≡ rest_of us → at span_to read_type ts ≡ Some (named (span_to ts vs) (Some (name_of ts)) (name_of us), vs)
unfolding type_step
qualified_some (lex s (ident p) ∷ lex d dot ∷ lex s2 (ident n) ∷ ts) us vs q u v =
    finish span_to read_type (lex s (ident p) ∷ lex d dot ∷ lex s2 (ident n) ∷ ts) (gives span_to)
    ∙ ap (λ (ws : Lexemes). Some (named (span_to (lex s (ident p) ∷ lex d dot ∷ lex s2 (ident n) ∷ ts) (rest_of ws)) (Some (name_of (lex s (ident p) ∷ lex d dot ∷ lex s2 (ident n) ∷ ts))) (name_of ws), rest_of ws)) (sym u)
    ∙ ap (λ (ws : Lexemes). Some (named (span_to (lex s (ident p) ∷ lex d dot ∷ lex s2 (ident n) ∷ ts) ws) (Some (name_of (lex s (ident p) ∷ lex d dot ∷ lex s2 (ident n) ∷ ts))) (name_of us), ws)) (sym v)
qualified_some _ us vs q u v = absurd cc

-- the name after the dot
pub qualified_word : (ts vs us : Lexemes) → is_qualified ts ≡ true → vs ≡ rest_of ts → us ≡ rest_of vs → first_of us ≡ code.Ident
qualified_word (lex s (ident p) ∷ lex d dot ∷ lex s2 (ident n) ∷ ts) vs us q v u = ap first_of (u ∙ ap rest_of v)
qualified_word _ vs us q v u = absurd cc

pub pointer_other : (ts : Lexemes) (op : BinOp) → first_of ts ≡ code.Binary op → op ≢ Mul → at span_to read_type ts ≡ None
unfolding type_step
pointer_other (lex s (binary_op Mul) ∷ ts) op h n = absurd (n cc)
pointer_other (lex s (binary_op o) ∷ ts) op h n = finish span_to read_type (lex s (binary_op o) ∷ ts) fails
pointer_other _ op h n = absurd cc

pub pointer_some : (ts us r : Lexemes) (t : TypeExpr Span) → first_of ts ≡ code.Binary Mul → us ≡ rest_of ts → at span_to read_type us ≡ Some (t, r) → at span_to read_type ts ≡ Some (pointer (span_to ts r) t, r)
unfolding type_step
pointer_some (lex s (binary_op Mul) ∷ ts) us r t h u e = finish span_to read_type (lex s (binary_op Mul) ∷ ts) (asks span_to (ap (at span_to read_type) (sym u) ∙ e) (gives span_to))
pointer_some _ us r t h u e = absurd cc

pub pointer_none : (ts us : Lexemes) → first_of ts ≡ code.Binary Mul → us ≡ rest_of ts → at span_to read_type us ≡ None → at span_to read_type ts ≡ None
unfolding type_step
pointer_none (lex s (binary_op Mul) ∷ ts) us h u e = finish span_to read_type (lex s (binary_op Mul) ∷ ts) (lacks (ap (at span_to read_type) (sym u) ∙ e))
pointer_none _ us h u e = absurd cc

pub slice_open : (ts us : Lexemes) (k : Terminal) → first_of ts ≡ code.Bracket → us ≡ rest_of ts → first_of us ≡ k → k ≢ code.EndBracket → at span_to read_type ts ≡ None
unfolding type_step
slice_open (lex s bracket ∷ lex e end_bracket ∷ ts) us k h u f n = absurd (n (sym f ∙ ap first_of u))
slice_open (lex s bracket ∷ ts) us k h u f n = finish span_to read_type (lex s bracket ∷ ts) fails
slice_open _ us k h u f n = absurd cc

pub slice_some : (ts us vs r : Lexemes) (t : TypeExpr Span) → first_of ts ≡ code.Bracket → us ≡ rest_of ts → first_of us ≡ code.EndBracket → vs ≡ rest_of us → at span_to read_type vs ≡ Some (t, r) → at span_to read_type ts ≡ Some (slice_type (span_to ts r) t, r)
unfolding type_step
slice_some (lex s bracket ∷ lex e end_bracket ∷ ts) us vs r t h u f v x =
    finish span_to read_type (lex s bracket ∷ lex e end_bracket ∷ ts) (asks span_to (ap (at span_to read_type) (sym (v ∙ ap rest_of u)) ∙ x) (gives span_to))
slice_some (lex s bracket ∷ ts) us vs r t h u f v x = let z = sym f ∙ ap first_of u in absurd cc
slice_some _ us vs r t h u f v x = absurd cc

pub slice_none : (ts us vs : Lexemes) → first_of ts ≡ code.Bracket → us ≡ rest_of ts → first_of us ≡ code.EndBracket → vs ≡ rest_of us → at span_to read_type vs ≡ None → at span_to read_type ts ≡ None
unfolding type_step
slice_none (lex s bracket ∷ lex e end_bracket ∷ ts) us vs h u f v x =
    finish span_to read_type (lex s bracket ∷ lex e end_bracket ∷ ts) (lacks (ap (at span_to read_type) (sym (v ∙ ap rest_of u)) ∙ x))
slice_none (lex s bracket ∷ ts) us vs h u f v x = let z = sym f ∙ ap first_of u in absurd cc
slice_none _ us vs h u f v x = absurd cc

pub map_open : (ts us : Lexemes) (k : Terminal) → first_of ts ≡ code.Map → us ≡ rest_of ts → first_of us ≡ k → k ≢ code.Bracket → at span_to read_type ts ≡ None
unfolding type_step
map_open (lex s key_map ∷ lex e bracket ∷ ts) us k h u f n = absurd (n (sym f ∙ ap first_of u))
map_open (lex s key_map ∷ ts) us k h u f n = finish span_to read_type (lex s key_map ∷ ts) fails
map_open _ us k h u f n = absurd cc

pub map_key : (ts us vs : Lexemes) → first_of ts ≡ code.Map → us ≡ rest_of ts → first_of us ≡ code.Bracket → vs ≡ rest_of us → at span_to read_type vs ≡ None → at span_to read_type ts ≡ None
unfolding type_step
map_key (lex s key_map ∷ lex e bracket ∷ ts) us vs h u f v x =
    finish span_to read_type (lex s key_map ∷ lex e bracket ∷ ts) (lacks (ap (at span_to read_type) (sym (v ∙ ap rest_of u)) ∙ x))
map_key (lex s key_map ∷ ts) us vs h u f v x = let z = sym f ∙ ap first_of u in absurd cc
map_key _ us vs h u f v x = absurd cc

pub map_end : (ts us vs mid : Lexemes) (k : TypeExpr Span) (t : Terminal) → first_of ts ≡ code.Map → us ≡ rest_of ts → first_of us ≡ code.Bracket → vs ≡ rest_of us → at span_to read_type vs ≡ Some (k, mid) → first_of mid ≡ t → t ≢ code.EndBracket → at span_to read_type ts ≡ None
unfolding type_step
map_end (lex s key_map ∷ lex e bracket ∷ ts) us vs mid k t h u f v x m n =
    finish span_to read_type (lex s key_map ∷ lex e bracket ∷ ts) (asks span_to (ap (at span_to read_type) (sym (v ∙ ap rest_of u)) ∙ x) (no_end_bracket mid t _ m n))
map_end (lex s key_map ∷ ts) us vs mid k t h u f v x m n = let z = sym f ∙ ap first_of u in absurd cc
map_end _ us vs mid k t h u f v x m n = absurd cc

pub map_none : (ts us vs mid ws : Lexemes) (k : TypeExpr Span) → first_of ts ≡ code.Map → us ≡ rest_of ts → first_of us ≡ code.Bracket → vs ≡ rest_of us → at span_to read_type vs ≡ Some (k, mid) → first_of mid ≡ code.EndBracket → ws ≡ rest_of mid → at span_to read_type ws ≡ None → at span_to read_type ts ≡ None
unfolding type_step
map_none (lex s key_map ∷ lex e bracket ∷ ts) us vs mid ws k h u f v x m w y =
    finish span_to read_type (lex s key_map ∷ lex e bracket ∷ ts) (asks span_to (ap (at span_to read_type) (sym (v ∙ ap rest_of u)) ∙ x) (on_end_bracket mid ws _ m w (lacks y)))
map_none (lex s key_map ∷ ts) us vs mid ws k h u f v x m w y = let z = sym f ∙ ap first_of u in absurd cc
map_none _ us vs mid ws k h u f v x m w y = absurd cc

pub map_some : (ts us vs mid ws r : Lexemes) (k t : TypeExpr Span) → first_of ts ≡ code.Map → us ≡ rest_of ts → first_of us ≡ code.Bracket → vs ≡ rest_of us → at span_to read_type vs ≡ Some (k, mid) → first_of mid ≡ code.EndBracket → ws ≡ rest_of mid → at span_to read_type ws ≡ Some (t, r) → at span_to read_type ts ≡ Some (map_type (span_to ts r) k t, r)
unfolding type_step
map_some (lex s key_map ∷ lex e bracket ∷ ts) us vs mid ws r k t h u f v x m w y =
    finish span_to read_type (lex s key_map ∷ lex e bracket ∷ ts) (asks span_to (ap (at span_to read_type) (sym (v ∙ ap rest_of u)) ∙ x) (on_end_bracket mid ws _ m w (asks span_to y (gives span_to))))
map_some (lex s key_map ∷ ts) us vs mid ws r k t h u f v x m w y = let z = sym f ∙ ap first_of u in absurd cc
map_some _ us vs mid ws r k t h u f v x m w y = absurd cc

pub struct_open : (ts us : Lexemes) (k : Terminal) → first_of ts ≡ code.Struct → us ≡ rest_of ts → first_of us ≡ k → k ≢ code.Brace → at span_to read_type ts ≡ None
unfolding type_step
struct_open (lex s key_struct ∷ lex e brace ∷ ts) us k h u f n = absurd (n (sym f ∙ ap first_of u))
struct_open (lex s key_struct ∷ ts) us k h u f n = finish span_to read_type (lex s key_struct ∷ ts) fails
struct_open _ us k h u f n = absurd cc

pub struct_none : (ts us vs : Lexemes) → first_of ts ≡ code.Struct → us ≡ rest_of ts → first_of us ≡ code.Brace → vs ≡ rest_of us → at span_to read_fields vs ≡ None → at span_to read_type ts ≡ None
unfolding type_step
struct_none (lex s key_struct ∷ lex e brace ∷ ts) us vs h u f v x =
    finish span_to read_type (lex s key_struct ∷ lex e brace ∷ ts) (lacks (ap (at span_to read_fields) (sym (v ∙ ap rest_of u)) ∙ x))
struct_none (lex s key_struct ∷ ts) us vs h u f v x = let z = sym f ∙ ap first_of u in absurd cc
struct_none _ us vs h u f v x = absurd cc

pub struct_end : (ts us vs mid : Lexemes) (fs : Fields Span) (t : Terminal) → first_of ts ≡ code.Struct → us ≡ rest_of ts → first_of us ≡ code.Brace → vs ≡ rest_of us → at span_to read_fields vs ≡ Some (fs, mid) → first_of mid ≡ t → t ≢ code.EndBrace → at span_to read_type ts ≡ None
unfolding type_step
struct_end (lex s key_struct ∷ lex e brace ∷ ts) us vs mid fs t h u f v x m n =
    finish span_to read_type (lex s key_struct ∷ lex e brace ∷ ts) (asks span_to (ap (at span_to read_fields) (sym (v ∙ ap rest_of u)) ∙ x) (no_end_brace mid t _ m n))
struct_end (lex s key_struct ∷ ts) us vs mid fs t h u f v x m n = let z = sym f ∙ ap first_of u in absurd cc
struct_end _ us vs mid fs t h u f v x m n = absurd cc

pub struct_some : (ts us vs mid ws : Lexemes) (fs : Fields Span) → first_of ts ≡ code.Struct → us ≡ rest_of ts → first_of us ≡ code.Brace → vs ≡ rest_of us → at span_to read_fields vs ≡ Some (fs, mid) → first_of mid ≡ code.EndBrace → ws ≡ rest_of mid → at span_to read_type ts ≡ Some (struct_type (span_to ts ws) fs, ws)
unfolding type_step
struct_some (lex s key_struct ∷ lex e brace ∷ ts) us vs mid ws fs h u f v x m w =
    finish span_to read_type (lex s key_struct ∷ lex e brace ∷ ts) (asks span_to (ap (at span_to read_fields) (sym (v ∙ ap rest_of u)) ∙ x) (on_end_brace mid ws _ m w (gives span_to)))
struct_some (lex s key_struct ∷ ts) us vs mid ws fs h u f v x m w = let z = sym f ∙ ap first_of u in absurd cc
struct_some _ us vs mid ws fs h u f v x m w = absurd cc

pub parens_none : (ts us : Lexemes) → first_of ts ≡ code.Paren → us ≡ rest_of ts → at span_to read_type us ≡ None → at span_to read_type ts ≡ None
unfolding type_step
parens_none (lex s paren ∷ ts) us h u x = finish span_to read_type (lex s paren ∷ ts) (lacks (ap (at span_to read_type) (sym u) ∙ x))
parens_none _ us h u x = absurd cc

pub parens_end : (ts us mid : Lexemes) (e : TypeExpr Span) (t : Terminal) → first_of ts ≡ code.Paren → us ≡ rest_of ts → at span_to read_type us ≡ Some (e, mid) → first_of mid ≡ t → t ≢ code.EndParen → at span_to read_type ts ≡ None
unfolding type_step
parens_end (lex s paren ∷ ts) us mid e t h u x m n = finish span_to read_type (lex s paren ∷ ts) (asks span_to (ap (at span_to read_type) (sym u) ∙ x) (no_end_paren mid t _ m n))
parens_end _ us mid e t h u x m n = absurd cc

pub parens_some : (ts us mid ws : Lexemes) (e : TypeExpr Span) → first_of ts ≡ code.Paren → us ≡ rest_of ts → at span_to read_type us ≡ Some (e, mid) → first_of mid ≡ code.EndParen → ws ≡ rest_of mid → at span_to read_type ts ≡ Some (e, ws)
unfolding type_step
parens_some (lex s paren ∷ ts) us mid ws e h u x m w = finish span_to read_type (lex s paren ∷ ts) (asks span_to (ap (at span_to read_type) (sym u) ∙ x) (on_end_paren mid ws _ m w (gives span_to)))
parens_some _ us mid ws e h u x m w = absurd cc
