-- What reading a receiver and a function gives, by the tokens that stand first.
use Rattle.std.proofs.Common.{◌≡◌, ◌≢◌, ℕ, Bool, true, false, List, [], ◌∷◌, Option, Some, None, refl, sym, ap, ◌∙◌}
use Rattle.std.specs.Prelude.{option_and_then}
use Rattle.go_tree.specs.declared.operators.BinOp.TheVariants.{Mul}
use Rattle.go_tree.specs.declared.spans.Span.{Span}
use Rattle.go_tree.specs.Tree.{NameAt, Sig, Stmts}
use Rattle.go_tree.specs.File.{Receiver, Decl, func}
use Rattle.go_tree.specs.GoWords.Terminals.{lex, ident, binary_op, paren}
use Rattle.go_read.specs.SpellsSpans.{span_to}
use Rattle.go_read.specs.SpellsTypes.{Lexemes}
use Rattle.go_read.specs.Goals.{read_sig, read_block, read_receiver}
use Rattle.go_read.specs.ReadFiles.{receiver_step, may_be_variadic}
use Rattle.go_read.specs.Reading.{at}
use Rattle.go_read.proofs.Sound.{at_is}
use Rattle.go_tree.specs.declared.go_words.terminals.Terminal.{Terminal}
use Rattle.go_tree.specs.declared.go_words.terminals.Terminal.TheVariants as code
use Rattle.go_productions.specs.Terminals.{first_of, rest_of, name_of}
use Rattle.go_parse.specs.Parts.{PartsOfFunc, closed, receiver_here, func_at, func_parts_at, method_at, func_decl_at}
use Rattle.go_parse.proofs.Firsts.{by_first, apart}
use Rattle.go_parse.proofs.Lists.{closed_some, closed_none}

-- ---- receivers

pub here_is : (whole : Lexemes) (n : Option (NameAt Span)) (pointer : Bool) (of : Lexemes) (s : Span) (m : NameAt Span) (r : Lexemes) → r ≡ rest_of of → s ≡ span_to whole r → m ≡ name_of of
    → receiver_here whole n pointer of ≡ Some (record { span = s; name = n; pointer = pointer; of = m }, r)
unfolding receiver_here
here_is whole n pointer of s m r er es em =
    ap (λ (r : Lexemes). Some (record { span = span_to whole r; name = n; pointer = pointer; of = name_of of }, r)) (sym er)
    ∙ ap (λ (s : Span). Some (record { span = s; name = n; pointer = pointer; of = name_of of }, r)) (sym es)
    ∙ ap (λ (m : NameAt Span). Some (record { span = s; name = n; pointer = pointer; of = m }, r)) (sym em)

named_on : (ts : Lexemes) → first_of ts ≡ code.Ident → first_of (rest_of ts) ≡ code.Ident → at span_to read_receiver ts ≡ receiver_here ts (Some (name_of ts)) false (rest_of ts)
unfolding receiver_step receiver_here
named_on ts e f = by_first (λ ts. first_of (rest_of ts) ≡ code.Ident → at span_to read_receiver ts ≡ receiver_here ts (Some (name_of ts)) false (rest_of ts)) code.Ident ts e refl
    (λ s w r g. by_first (λ r. at span_to read_receiver (lex s (ident w) ∷ r) ≡ receiver_here (lex s (ident w) ∷ r) (Some (name_of (lex s (ident w) ∷ r))) false r) code.Ident r g refl
    (λ c v us. at_is span_to read_receiver (lex s (ident w) ∷ lex c (ident v) ∷ us))) f

named_pointer_on : (ts : Lexemes) → first_of ts ≡ code.Ident → first_of (rest_of ts) ≡ code.Binary Mul → first_of (rest_of (rest_of ts)) ≡ code.Ident
    → at span_to read_receiver ts ≡ receiver_here ts (Some (name_of ts)) true (rest_of (rest_of ts))
unfolding receiver_step receiver_here
named_pointer_on ts e f g = by_first (λ ts. first_of (rest_of ts) ≡ code.Binary Mul → first_of (rest_of (rest_of ts)) ≡ code.Ident → at span_to read_receiver ts ≡ receiver_here ts (Some (name_of ts)) true (rest_of (rest_of ts))) code.Ident ts e refl
    (λ s w r f g. by_first (λ r. first_of (rest_of r) ≡ code.Ident → at span_to read_receiver (lex s (ident w) ∷ r) ≡ receiver_here (lex s (ident w) ∷ r) (Some (name_of (lex s (ident w) ∷ r))) true (rest_of r)) (code.Binary Mul) r f refl
    (λ c v us g. by_first (λ us. at span_to read_receiver (lex s (ident w) ∷ lex c (binary_op Mul) ∷ us) ≡ receiver_here (lex s (ident w) ∷ lex c (binary_op Mul) ∷ us) (Some (name_of (lex s (ident w) ∷ lex c (binary_op Mul) ∷ us))) true us) code.Ident us g refl
    (λ d z vs. at_is span_to read_receiver (lex s (ident w) ∷ lex c (binary_op Mul) ∷ lex d (ident z) ∷ vs))) g) f g

pointer_on : (ts : Lexemes) → first_of ts ≡ code.Binary Mul → first_of (rest_of ts) ≡ code.Ident → at span_to read_receiver ts ≡ receiver_here ts None true (rest_of ts)
unfolding receiver_step receiver_here
pointer_on ts e f = by_first (λ ts. first_of (rest_of ts) ≡ code.Ident → at span_to read_receiver ts ≡ receiver_here ts None true (rest_of ts)) (code.Binary Mul) ts e refl
    (λ s w r g. by_first (λ r. at span_to read_receiver (lex s (binary_op Mul) ∷ r) ≡ receiver_here (lex s (binary_op Mul) ∷ r) None true r) code.Ident r g refl
    (λ c v us. at_is span_to read_receiver (lex s (binary_op Mul) ∷ lex c (ident v) ∷ us))) f

plain_on : (ts : Lexemes) → first_of ts ≡ code.Ident → first_of (rest_of ts) ≢ code.Ident → (first_of (rest_of ts) ≡ code.Binary Mul → first_of (rest_of (rest_of ts)) ≢ code.Ident)
    → at span_to read_receiver ts ≡ receiver_here ts None false ts
unfolding receiver_step receiver_here
plain_on ts e f g = by_first (λ ts. first_of (rest_of ts) ≢ code.Ident → (first_of (rest_of ts) ≡ code.Binary Mul → first_of (rest_of (rest_of ts)) ≢ code.Ident) → at span_to read_receiver ts ≡ receiver_here ts None false ts) code.Ident ts e refl go f g
  where
    go : (s : Span) (w : List ℕ) (r : Lexemes) → first_of r ≢ code.Ident → (first_of r ≡ code.Binary Mul → first_of (rest_of r) ≢ code.Ident) → at span_to read_receiver (lex s (ident w) ∷ r) ≡ receiver_here (lex s (ident w) ∷ r) None false (lex s (ident w) ∷ r)
    go s w [] f g = at_is span_to read_receiver (lex s (ident w) ∷ [])
    go s w (lex c (ident v) ∷ r) f g = absurd (f refl)
    go s w (lex c (binary_op Mul) ∷ []) f g = at_is span_to read_receiver (lex s (ident w) ∷ lex c (binary_op Mul) ∷ [])
    go s w (lex c (binary_op Mul) ∷ lex d (ident v) ∷ r) f g = absurd (g refl refl)
    go s w (lex c (binary_op Mul) ∷ lex d t ∷ r) f g = at_is span_to read_receiver (lex s (ident w) ∷ lex c (binary_op Mul) ∷ lex d t ∷ r)
    go s w (lex c (binary_op op) ∷ r) f g = at_is span_to read_receiver (lex s (ident w) ∷ lex c (binary_op op) ∷ r)
    go s w (lex c t ∷ r) f g = at_is span_to read_receiver (lex s (ident w) ∷ lex c t ∷ r)

bare_pointer_off : (ts : Lexemes) → first_of ts ≡ code.Binary Mul → first_of (rest_of ts) ≢ code.Ident → at span_to read_receiver ts ≡ None
unfolding receiver_step
bare_pointer_off ts e f = by_first (λ ts. first_of (rest_of ts) ≢ code.Ident → at span_to read_receiver ts ≡ None) (code.Binary Mul) ts e refl go f
  where
    go : (s : Span) (w : List ℕ) (r : Lexemes) → first_of r ≢ code.Ident → at span_to read_receiver (lex s (binary_op Mul) ∷ r) ≡ None
    go s w [] f = at_is span_to read_receiver (lex s (binary_op Mul) ∷ [])
    go s w (lex c (ident v) ∷ r) f = absurd (f refl)
    go s w (lex c t ∷ r) f = at_is span_to read_receiver (lex s (binary_op Mul) ∷ lex c t ∷ r)

receiver_off : (ts : Lexemes) → first_of ts ≢ code.Ident → first_of ts ≢ code.Binary Mul → at span_to read_receiver ts ≡ None
unfolding receiver_step
receiver_off [] f g = at_is span_to read_receiver []
receiver_off (lex c (ident v) ∷ r) f g = absurd (f refl)
receiver_off (lex c (binary_op Mul) ∷ r) f g = absurd (g refl)
receiver_off (lex c (binary_op op) ∷ r) f g = at_is span_to read_receiver (lex c (binary_op op) ∷ r)
receiver_off (lex c t ∷ r) f g = at_is span_to read_receiver (lex c t ∷ r)

pub named_is : (ts : Lexemes) (n : NameAt Span) (r : Lexemes) → first_of ts ≡ code.Ident → r ≡ rest_of ts → first_of r ≡ code.Ident → n ≡ name_of ts → at span_to read_receiver ts ≡ receiver_here ts (Some n) false r
named_is ts n r e er f en =
    named_on ts e (ap first_of (sym er) ∙ f) ∙ ap (λ (n : NameAt Span). receiver_here ts (Some n) false (rest_of ts)) (sym en) ∙ ap (λ (r : Lexemes). receiver_here ts (Some n) false r) (sym er)

pub named_pointer_is : (ts : Lexemes) (n : NameAt Span) (r us : Lexemes) → first_of ts ≡ code.Ident → r ≡ rest_of ts → first_of r ≡ code.Binary Mul → us ≡ rest_of r → first_of us ≡ code.Ident → n ≡ name_of ts
    → at span_to read_receiver ts ≡ receiver_here ts (Some n) true us
named_pointer_is ts n r us e er f eu g en =
    let there : us ≡ rest_of (rest_of ts) = eu ∙ ap rest_of er in
    named_pointer_on ts e (ap first_of (sym er) ∙ f) (ap first_of (sym there) ∙ g) ∙ ap (λ (n : NameAt Span). receiver_here ts (Some n) true (rest_of (rest_of ts))) (sym en)
    ∙ ap (λ (us : Lexemes). receiver_here ts (Some n) true us) (sym there)

pub pointer_is : (ts r : Lexemes) → first_of ts ≡ code.Binary Mul → r ≡ rest_of ts → first_of r ≡ code.Ident → at span_to read_receiver ts ≡ receiver_here ts None true r
pointer_is ts r e er f = pointer_on ts e (ap first_of (sym er) ∙ f) ∙ ap (λ (r : Lexemes). receiver_here ts None true r) (sym er)

-- a name with neither a name nor `*` and a name after it
pub plain_is : (ts r : Lexemes) → first_of ts ≡ code.Ident → r ≡ rest_of ts → first_of r ≢ code.Ident → first_of r ≢ code.Binary Mul → at span_to read_receiver ts ≡ receiver_here ts None false ts
plain_is ts r e er f g = plain_on ts e (λ i. f (ap first_of er ∙ i)) (λ i. absurd (g (ap first_of er ∙ i)))

pub starred_is : (ts r us : Lexemes) (k : Terminal) → first_of ts ≡ code.Ident → r ≡ rest_of ts → first_of r ≡ code.Binary Mul → us ≡ rest_of r → first_of us ≡ k → (k ≡ code.Ident → ⊥) → at span_to read_receiver ts ≡ receiver_here ts None false ts
starred_is ts r us k e er f eu g h =
    plain_on ts e (λ i. clash (sym f ∙ ap first_of er ∙ i)) (λ _ i. apart us k code.Ident g h (ap first_of (eu ∙ ap rest_of er) ∙ i))
  where
    clash : code.Binary Mul ≡ code.Ident → ⊥
    clash i = absurd (cc)

pub pointer_none : (ts r : Lexemes) (k : Terminal) → first_of ts ≡ code.Binary Mul → r ≡ rest_of ts → first_of r ≡ k → (k ≡ code.Ident → ⊥) → at span_to read_receiver ts ≡ None
pointer_none ts r k e er f g = bare_pointer_off ts e (λ i. apart r k code.Ident f g (ap first_of er ∙ i))

pub receiver_none : (ts : Lexemes) → first_of ts ≢ code.Ident → first_of ts ≢ code.Binary Mul → at span_to read_receiver ts ≡ None
receiver_none ts f g = receiver_off ts f g

-- ---- functions

parts_off : (b : Bool) (ts : Lexemes) → first_of ts ≢ code.Ident → func_parts_at b ts ≡ None
unfolding func_parts_at
parts_off b [] off = refl
parts_off b (lex c (ident w) ∷ r) off = absurd (off refl)
parts_off b (lex c _ ∷ r) off = refl

-- what the name, the signature and the body give
parted : NameAt Span → Option (Sig Span × Lexemes) → Option (PartsOfFunc × Lexemes)
parted n o = option_and_then (λ x. option_and_then (λ y. Some ((n, (x.0, y.0)), y.1)) (at span_to read_block x.1)) o

parts_on : (b : Bool) (ts r : Lexemes) → first_of ts ≡ code.Ident → r ≡ rest_of ts → func_parts_at b ts ≡ parted (name_of ts) (at span_to (read_sig b) r)
unfolding func_parts_at parted
parts_on b ts r e er =
    by_first (λ ts. func_parts_at b ts ≡ parted (name_of ts) (at span_to (read_sig b) (rest_of ts))) code.Ident ts e refl (λ s w r. refl)
    ∙ ap (λ (u : Lexemes). parted (name_of ts) (at span_to (read_sig b) u)) (sym er)

pub parts_none : (b : Bool) (ts : Lexemes) (k : Terminal) → first_of ts ≡ k → (k ≡ code.Ident → ⊥) → func_parts_at b ts ≡ None
parts_none b ts k e f = parts_off b ts (apart ts k code.Ident e f)

pub parts_without_sig : (b : Bool) (ts r : Lexemes) → first_of ts ≡ code.Ident → r ≡ rest_of ts → at span_to (read_sig b) r ≡ None → func_parts_at b ts ≡ None
unfolding parted
parts_without_sig b ts r e er none = parts_on b ts r e er ∙ ap (parted (name_of ts)) none

pub parts_without_body : (b : Bool) (ts r : Lexemes) (g : Sig Span) (mid : Lexemes) → first_of ts ≡ code.Ident → r ≡ rest_of ts → at span_to (read_sig b) r ≡ Some (g, mid) → at span_to read_block mid ≡ None
    → func_parts_at b ts ≡ None
unfolding parted
parts_without_body b ts r g mid e er sig none =
    parts_on b ts r e er ∙ ap (parted (name_of ts)) sig
    ∙ ap (λ (o : Option ((Span × Stmts Span) × Lexemes)). option_and_then (λ y. Some ((name_of ts, (g, y.0)), y.1)) o) none

pub parts_some : (b : Bool) (ts r : Lexemes) (n : NameAt Span) (g : Sig Span) (mid : Lexemes) (z : Span × Stmts Span) (us : Lexemes)
    → first_of ts ≡ code.Ident → r ≡ rest_of ts → at span_to (read_sig b) r ≡ Some (g, mid) → at span_to read_block mid ≡ Some (z, us) → n ≡ name_of ts
    → func_parts_at b ts ≡ Some ((n, (g, z)), us)
unfolding parted
parts_some b ts r n g mid z us e er sig body en =
    parts_on b ts r e er ∙ ap (parted (name_of ts)) sig
    ∙ ap (λ (o : Option ((Span × Stmts Span) × Lexemes)). option_and_then (λ y. Some ((name_of ts, (g, y.0)), y.1)) o) body
    ∙ ap (λ (n : NameAt Span). Some ((n, (g, z)), us)) (sym en)

-- the declaration of these parts
func_of_parts : Lexemes → Option (Receiver Span) → Option (PartsOfFunc × Lexemes) → Option (Decl Span × Lexemes)
func_of_parts whole v o = option_and_then (λ x. Some (func (record { span = span_to whole x.1; receiver = v; name = x.0.0; sig = x.0.1.0; body_span = x.0.1.1.0; body = x.0.1.1.1 }), x.1)) o

by_body : (whole : Lexemes) (v : Option (Receiver Span)) (n : NameAt Span) (g : Sig Span) (o : Option ((Span × Stmts Span) × Lexemes))
    → option_and_then (λ y. Some (func (record { span = span_to whole y.1; receiver = v; name = n; sig = g; body_span = y.0.0; body = y.0.1 }), y.1)) o
    ≡ func_of_parts whole v (option_and_then (λ y. Some ((n, (g, y.0)), y.1)) o)
unfolding func_of_parts
by_body whole v n g None = refl
by_body whole v n g (Some y) = refl

by_sig : (whole : Lexemes) (v : Option (Receiver Span)) (n : NameAt Span) (o : Option (Sig Span × Lexemes))
    → option_and_then (λ x. option_and_then (λ y. Some (func (record { span = span_to whole y.1; receiver = v; name = n; sig = x.0; body_span = y.0.0; body = y.0.1 }), y.1)) (at span_to read_block x.1)) o
    ≡ func_of_parts whole v (parted n o)
unfolding func_of_parts parted
by_sig whole v n None = refl
by_sig whole v n (Some x) = by_body whole v n x.0 (at span_to read_block x.1)

func_by_parts : (whole : Lexemes) (v : Option (Receiver Span)) (ts : Lexemes) → func_at whole v ts ≡ func_of_parts whole v (func_parts_at (may_be_variadic span_to v) ts)
unfolding func_at func_parts_at func_of_parts parted
func_by_parts whole v [] = refl
func_by_parts whole v (lex c (ident w) ∷ r) = by_sig whole v (name_of (lex c (ident w) ∷ r)) (at span_to (read_sig (may_be_variadic span_to v)) r)
func_by_parts whole v (lex c _ ∷ r) = refl

pub func_without : (whole : Lexemes) (v : Option (Receiver Span)) (b : Bool) (ts : Lexemes) → b ≡ may_be_variadic span_to v → func_parts_at b ts ≡ None → func_at whole v ts ≡ None
unfolding func_of_parts
func_without whole v b ts m none = func_by_parts whole v ts ∙ ap (λ (c : Bool). func_of_parts whole v (func_parts_at c ts)) (sym m) ∙ ap (func_of_parts whole v) none

pub func_some : (whole : Lexemes) (v : Option (Receiver Span)) (b : Bool) (ts : Lexemes) (p : PartsOfFunc) (us : Lexemes) (s : Span)
    → b ≡ may_be_variadic span_to v → func_parts_at b ts ≡ Some (p, us) → s ≡ span_to whole us
    → func_at whole v ts ≡ Some (func (record { span = s; receiver = v; name = p.0; sig = p.1.0; body_span = p.1.1.0; body = p.1.1.1 }), us)
unfolding func_of_parts
func_some whole v b ts p us s m parts es =
    func_by_parts whole v ts ∙ ap (λ (c : Bool). func_of_parts whole v (func_parts_at c ts)) (sym m) ∙ ap (func_of_parts whole v) parts
    ∙ ap (λ (s : Span). Some (func (record { span = s; receiver = v; name = p.0; sig = p.1.0; body_span = p.1.1.0; body = p.1.1.1 }), us)) (sym es)

-- ---- methods

pub method_is : (whole ts : Lexemes) (v : Receiver Span) (r us : Lexemes) → at span_to read_receiver ts ≡ Some (v, r) → first_of r ≡ code.EndParen → us ≡ rest_of r → method_at whole ts ≡ func_at whole (Some v) us
unfolding method_at
method_is whole ts v r us e f eu =
    ap (option_and_then (λ x. func_at whole (Some x.0) x.1)) (ap closed e ∙ closed_some v r f) ∙ ap (func_at whole (Some v)) (sym eu)

pub method_none : (whole ts : Lexemes) → at span_to read_receiver ts ≡ None → method_at whole ts ≡ None
unfolding method_at
method_none whole ts e = ap (option_and_then (λ x. func_at whole (Some x.0) x.1)) (ap closed e)

pub method_open : (whole ts : Lexemes) (v : Receiver Span) (r : Lexemes) (k : Terminal) → at span_to read_receiver ts ≡ Some (v, r) → first_of r ≡ k → (k ≡ code.EndParen → ⊥) → method_at whole ts ≡ None
unfolding method_at
method_open whole ts v r k e f g = ap (option_and_then (λ x. func_at whole (Some x.0) x.1)) (ap closed e ∙ closed_none v r (apart r k code.EndParen f g))

-- ---- declarations

method_on : (ts : Lexemes) → first_of (rest_of ts) ≡ code.Paren → func_decl_at ts ≡ method_at ts (rest_of (rest_of ts))
unfolding func_decl_at
method_on [] f = absurd (cc)
method_on (x ∷ r) f = by_first (λ r. func_decl_at (x ∷ r) ≡ method_at (x ∷ r) (rest_of r)) code.Paren r f refl (λ b w us. refl)

plain_func_on : (ts : Lexemes) → first_of (rest_of ts) ≢ code.Paren → func_decl_at ts ≡ func_at ts None (rest_of ts)
unfolding func_decl_at
plain_func_on [] f = refl
plain_func_on (x ∷ []) f = refl
plain_func_on (x ∷ lex b paren ∷ us) f = absurd (f refl)
plain_func_on (x ∷ lex b _ ∷ us) f = refl

pub decl_method : (ts r us : Lexemes) → r ≡ rest_of ts → first_of r ≡ code.Paren → us ≡ rest_of r → func_decl_at ts ≡ method_at ts us
decl_method ts r us er f eu = method_on ts (ap first_of (sym er) ∙ f) ∙ ap (λ (us : Lexemes). method_at ts us) (sym (eu ∙ ap rest_of er))

pub decl_func : (ts r : Lexemes) (k : Terminal) → r ≡ rest_of ts → first_of r ≡ k → (k ≡ code.Paren → ⊥) → func_decl_at ts ≡ func_at ts None r
decl_func ts r k er f g = plain_func_on ts (λ h. apart r k code.Paren f g (ap first_of er ∙ h)) ∙ ap (λ (r : Lexemes). func_at ts None r) (sym er)
