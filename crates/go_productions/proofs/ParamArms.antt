-- What the reader gives for parameters, group by group.
use Rattle.std.proofs.Common.{◌≡◌, ◌≢◌, ℕ, Bool, true, false, List, [], ◌∷◌, ◌++◌, map, append_assoc, Option, Some, None, refl, sym, ap, ◌∙◌}
use Rattle.std.specs.Prelude.{option_and_then}
use Rattle.go_tree.specs.declared.spans.Span.{Span}
use Rattle.go_tree.specs.Tree.{NameAt, TypeExpr, Param}
use Rattle.go_tree.specs.GoWords.Terminals.{lex, ident, comma, ellipsis, end_paren}
use Rattle.go_read.specs.SpellsSpans.{span_to}
use Rattle.go_read.specs.SpellsTypes.{Lexemes, params_of, unnamed}
use Rattle.go_read.specs.Goals.{read_type, read_entries, read_named, read_unnamed}
use Rattle.go_read.specs.Programs.{run}
use Rattle.go_read.specs.ReadTypes.{named_step, named_after, unnamed_step, unnamed_after, rest_after}
use Rattle.go_read.specs.Reading.{at}
use Rattle.go_read.proofs.Finds.{finish}
use Rattle.go_tree.specs.declared.go_words.terminals.Terminal.{Terminal}
use Rattle.go_tree.specs.declared.go_words.terminals.Terminal.TheVariants as code
use Rattle.go_productions.specs.Terminals.{first_of, rest_of, name_of}
use Rattle.go_productions.specs.Parts.{onto, in_front, shared, shared_read, shared_onto, param_from, rest_from, rest_here, rest_onto, rest_group, group_onto, params_at}
use Rattle.go_productions.proofs.Fronts.{then_some, then_none}

-- ---- groups

group_read : List (Param Span) → (TypeExpr Span × List (Span × NameAt Span)) × Lexemes → List (Param Span) × Lexemes
group_read front x = (front ++ map param_from (shared x.0.0 x.0.1), x.1)

pub no_named_group : (front : List (Param Span)) (ts : Lexemes) → shared_onto [] ts ≡ None → group_onto false true front ts ≡ None
unfolding group_read
no_named_group front ts e = ap (option_and_then (λ x. Some (group_read front x))) (then_none (shared_read []) (at span_to read_entries ts) e)

pub named_group : (front : List (Param Span)) (ts r : Lexemes) (fs : List (Span × NameAt Span × TypeExpr Span)) → shared_onto [] ts ≡ Some (fs, r) → group_onto false true front ts ≡ Some (front ++ map param_from fs, r)
unfolding group_read
named_group front ts r fs e =
    let q = then_some (shared_read []) (at span_to read_entries ts) (fs, r) e in
    ap (option_and_then (λ x. Some (group_read front x))) q.1 ∙ ap (λ (y : List (Span × NameAt Span × TypeExpr Span) × Lexemes). Some (front ++ map param_from y.0, y.1)) q.2

pub no_unnamed_group : (front : List (Param Span)) (ts : Lexemes) → at span_to read_type ts ≡ None → group_onto false false front ts ≡ None
no_unnamed_group front ts e = ap (option_and_then (λ x. Some (front ++ unnamed x.0 ∷ [], x.1))) e

pub unnamed_group : (front : List (Param Span)) (ts r : Lexemes) (t : TypeExpr Span) → at span_to read_type ts ≡ Some (t, r) → group_onto false false front ts ≡ Some (front ++ unnamed t ∷ [], r)
unnamed_group front ts r t e = ap (option_and_then (λ x. Some (front ++ unnamed x.0 ∷ [], x.1))) e

-- ---- a variadic parameter

pub rest_none : (front : List (Param Span)) (w ts : Lexemes) (n : Option (NameAt Span)) → at span_to read_type ts ≡ None → rest_onto front w n ts ≡ None
rest_none front w ts n e = ap (option_and_then (λ x. Some (front ++ rest_from (span_to w x.1) n x.0 ∷ [], x.1))) e

pub rest_some : (front : List (Param Span)) (w ts r : Lexemes) (n : Option (NameAt Span)) (t : TypeExpr Span) → at span_to read_type ts ≡ Some (t, r) → rest_onto front w n ts ≡ Some (front ++ rest_from (span_to w r) n t ∷ [], r)
rest_some front w ts r n t e = ap (option_and_then (λ x. Some (front ++ rest_from (span_to w x.1) n x.0 ∷ [], x.1))) e

pub rest_dots : (front : List (Param Span)) (ts us : Lexemes) → first_of ts ≡ code.Ellipsis → us ≡ rest_of ts → rest_group front ts ≡ rest_onto front ts None us
rest_dots front (lex d ellipsis ∷ ts) us h u = ap (rest_onto front (lex d ellipsis ∷ ts) None) (sym u)
rest_dots front _ us h u = absurd cc

pub rest_named : (front : List (Param Span)) (ts us vs : Lexemes) → first_of ts ≡ code.Ident → us ≡ rest_of ts → first_of us ≡ code.Ellipsis → vs ≡ rest_of us → rest_group front ts ≡ rest_onto front ts (Some (name_of ts)) vs
rest_named front (lex s (ident n) ∷ lex d ellipsis ∷ ts) us vs h u f v =
    ap (rest_onto front (lex s (ident n) ∷ lex d ellipsis ∷ ts) (Some (name_of (lex s (ident n) ∷ lex d ellipsis ∷ ts)))) (sym (v ∙ ap rest_of u))
rest_named front (lex s (ident n) ∷ ts) us vs h u f v = let z = sym f ∙ ap first_of u in absurd cc
rest_named front _ us vs h u f v = absurd cc

pub rest_absent : (front : List (Param Span)) (ts : Lexemes) (k : Terminal) → first_of ts ≡ k → k ≢ code.Ellipsis → k ≢ code.Ident → rest_group front ts ≡ None
rest_absent front (lex s (ident n) ∷ ts) k h a b = absurd (b (sym h))
rest_absent front (lex d ellipsis ∷ ts) k h a b = absurd (a (sym h))
rest_absent front ts k h a b = refl

pub rest_dotless : (front : List (Param Span)) (ts us : Lexemes) (k : Terminal) → first_of ts ≡ code.Ident → us ≡ rest_of ts → first_of us ≡ k → k ≢ code.Ellipsis → rest_group front ts ≡ None
rest_dotless front (lex s (ident n) ∷ lex d ellipsis ∷ ts) us k h u f m = absurd (m (sym f ∙ ap first_of u))
rest_dotless front (lex s (ident n) ∷ ts) us k h u f m = refl
rest_dotless front _ us k h u f m = absurd cc

-- ---- what follows a group

-- by whether a list may be variadic, whether its parameters have names, and whether the last one was variadic
listed : Bool → Bool → Bool → List (Param Span) → Lexemes → Option (List (Param Span) × Lexemes)
listed v b e ps (lex c end_paren ∷ r) = Some (ps, r)
listed v b e ps (lex c comma ∷ lex d end_paren ∷ r) = Some (ps, r)
listed v b false ps (lex c comma ∷ ts) = option_and_then (λ y. Some (ps ++ y.0, y.1)) (params_at v b ts)
listed v b e ps _ = None

params_shared : (es : List (Span × NameAt Span)) (t : TypeExpr Span) (more : List (Param Span)) → params_of es t more ≡ map param_from (shared t es) ++ more
params_shared [] t more = refl
params_shared (e ∷ es) t more = ap (λ (ps : List (Param Span)). param_from (e.0, e.1, t) ∷ ps) (params_shared es t more)

params_alone : (es : List (Span × NameAt Span)) (t : TypeExpr Span) → params_of es t [] ≡ map param_from (shared t es)
params_alone [] t = refl
params_alone (e ∷ es) t = ap (λ (ps : List (Param Span)). param_from (e.0, e.1, t) ∷ ps) (params_alone es t)

before_shared : (es : List (Span × NameAt Span)) (t : TypeExpr Span) (o : Option (List (Param Span) × Lexemes)) → option_and_then {U = List (Param Span) × Lexemes} (λ y. Some (params_of es t y.0, y.1)) o ≡ option_and_then {U = List (Param Span) × Lexemes} (λ y. Some (map param_from (shared t es) ++ y.0, y.1)) o
before_shared es t None = refl
before_shared es t (Some y) = ap (λ (ps : List (Param Span)). Some (ps, y.1)) (params_shared es t y.0)

named_listed : (v : Bool) (t : TypeExpr Span) (es : List (Span × NameAt Span)) (r : Lexemes) → run (at span_to) (named_after span_to v (t, es) r) ≡ listed v true false (map param_from (shared t es)) r
unfolding listed
named_listed v t es (lex e end_paren ∷ r) = ap (λ (ps : List (Param Span)). Some (ps, r)) (params_alone es t)
named_listed v t es (lex c comma ∷ lex e end_paren ∷ r) = ap (λ (ps : List (Param Span)). Some (ps, r)) (params_alone es t)
named_listed v t es (lex c comma ∷ ts) = before_shared es t (at span_to (read_named v) ts)
named_listed v t es _ = refl

unnamed_listed : (v : Bool) (t : TypeExpr Span) (r : Lexemes) → run (at span_to) (unnamed_after span_to v t r) ≡ listed v false false (unnamed t ∷ []) r
unfolding listed
unnamed_listed v t (lex e end_paren ∷ r) = refl
unnamed_listed v t (lex c comma ∷ lex e end_paren ∷ r) = refl
unnamed_listed v t (lex c comma ∷ ts) = refl
unnamed_listed v t _ = refl

rest_listed : (v b : Bool) (p : Param Span) (r : Lexemes) → run (at span_to) (rest_after span_to p r) ≡ listed v b true (p ∷ []) r
unfolding listed
rest_listed v b p (lex e end_paren ∷ r) = refl
rest_listed v b p (lex c comma ∷ lex e end_paren ∷ r) = refl
rest_listed v b p (lex c comma ∷ ts) = refl
rest_listed v b p _ = refl

-- parameters that aren't variadic
plain_named : (v : Bool) (ts : Lexemes) → rest_here v true ts ≡ false → at span_to (read_named v) ts ≡ option_and_then (λ x. run (at span_to) (named_after span_to v x.0 x.1)) (at span_to read_entries ts)
unfolding named_step
plain_named false ts h = finish span_to (read_named false) ts (record { is = refl })
plain_named true (lex s (ident n) ∷ lex d ellipsis ∷ ts) h = absurd cc
plain_named true ts h = finish span_to (read_named true) ts (record { is = refl })

plain_unnamed : (v : Bool) (ts : Lexemes) → rest_here v false ts ≡ false → at span_to (read_unnamed v) ts ≡ option_and_then (λ x. run (at span_to) (unnamed_after span_to v x.0 x.1)) (at span_to read_type ts)
unfolding unnamed_step
plain_unnamed false ts h = finish span_to (read_unnamed false) ts (record { is = refl })
plain_unnamed true (lex d ellipsis ∷ ts) h = absurd cc
plain_unnamed true ts h = finish span_to (read_unnamed true) ts (record { is = refl })

-- a variadic one, and the end of the list
rest_run : Lexemes → Option (NameAt Span) → Option (TypeExpr Span × Lexemes) → Option (List (Param Span) × Lexemes)
rest_run w n o = option_and_then (λ x. run (at span_to) (rest_after span_to (rest_from (span_to w x.1) n x.0) x.1)) o

rest_seen : List (Param Span) → Lexemes → Option (NameAt Span) → TypeExpr Span × Lexemes → List (Param Span) × Lexemes
rest_seen front w n x = (front ++ rest_from (span_to w x.1) n x.0 ∷ [], x.1)

named_rest : (s d : Span) (n : List ℕ) (ts : Lexemes) → at span_to (read_named true) (lex s (ident n) ∷ lex d ellipsis ∷ ts) ≡ rest_run (lex s (ident n) ∷ lex d ellipsis ∷ ts) (Some (name_of (lex s (ident n) ∷ lex d ellipsis ∷ ts))) (at span_to read_type ts)
unfolding named_step rest_run
named_rest s d n ts = finish span_to (read_named true) (lex s (ident n) ∷ lex d ellipsis ∷ ts) (record { is = refl })

unnamed_rest : (d : Span) (ts : Lexemes) → at span_to (read_unnamed true) (lex d ellipsis ∷ ts) ≡ rest_run (lex d ellipsis ∷ ts) None (at span_to read_type ts)
unfolding unnamed_step rest_run
unnamed_rest d ts = finish span_to (read_unnamed true) (lex d ellipsis ∷ ts) (record { is = refl })

-- parameters in front of the ones that are read
abbrev before : List (Param Span) → Option (List (Param Span) × Lexemes) → Option (List (Param Span) × Lexemes)
before front o = in_front (λ x xs. x ∷ xs) front o

rest_is : (v b : Bool) (front next : List (Param Span)) (w ts r : Lexemes) (n : Option (NameAt Span)) (o g : Option (List (Param Span) × Lexemes)) → o ≡ rest_run w n (at span_to read_type ts) → in_front (λ x xs. x ∷ xs) front o ≡ g → rest_onto front w n ts ≡ Some (next, r)
    → (ps : List (Param Span)) × (next ≡ front ++ ps) × (g ≡ in_front (λ x xs. x ∷ xs) front (listed v b true ps r))
unfolding rest_run rest_seen
rest_is v b front next w ts r n o g f i e =
    let q = then_some (rest_seen front w n) (at span_to read_type ts) (next, r) e in
    let p = rest_from (span_to w q.0.1) n q.0.0 in (
      p ∷ [],
      ap (λ (y : List (Param Span) × Lexemes). y.0) (sym q.2),
      sym i ∙ ap (before front) (f ∙ ap (rest_run w n) q.1 ∙ rest_listed v b p q.0.1 ∙ ap (listed v b true (p ∷ [])) (ap (λ (y : List (Param Span) × Lexemes). y.1) q.2)),
    )

group_is : (v b e : Bool) (front next : List (Param Span)) (ts r : Lexemes) (g : Option (List (Param Span) × Lexemes)) → rest_here v b ts ≡ e → in_front (λ x xs. x ∷ xs) front (params_at v b ts) ≡ g → group_onto e b front ts ≡ Some (next, r)
    → (ps : List (Param Span)) × (next ≡ front ++ ps) × (g ≡ in_front (λ x xs. x ∷ xs) front (listed v b e ps r))
unfolding group_read
group_is v true false front next ts r g h i e =
    let q = then_some (group_read front) (at span_to read_entries ts) (next, r) e in (
      map param_from (shared q.0.0.0 q.0.0.1),
      ap (λ (y : List (Param Span) × Lexemes). y.0) (sym q.2),
      sym i ∙ ap (before front)
          (plain_named v ts h ∙ ap (option_and_then (λ x. run (at span_to) (named_after span_to v x.0 x.1))) q.1
          ∙ named_listed v q.0.0.0 q.0.0.1 q.0.1 ∙ ap (listed v true false (map param_from (shared q.0.0.0 q.0.0.1))) (ap (λ (y : List (Param Span) × Lexemes). y.1) q.2)),
    )
group_is v false false front next ts r g h i e =
    let q = then_some (λ x. (front ++ unnamed x.0 ∷ [], x.1)) (at span_to read_type ts) (next, r) e in (
      unnamed q.0.0 ∷ [],
      ap (λ (y : List (Param Span) × Lexemes). y.0) (sym q.2),
      sym i ∙ ap (before front)
          (plain_unnamed v ts h ∙ ap (option_and_then (λ x. run (at span_to) (unnamed_after span_to v x.0 x.1))) q.1
          ∙ unnamed_listed v q.0.0 q.0.1 ∙ ap (listed v false false (unnamed q.0.0 ∷ [])) (ap (λ (y : List (Param Span) × Lexemes). y.1) q.2)),
    )
group_is true true true front next (lex s (ident n) ∷ lex d ellipsis ∷ ts) r g h i e =
    rest_is true true front next (lex s (ident n) ∷ lex d ellipsis ∷ ts) ts r (Some (name_of (lex s (ident n) ∷ lex d ellipsis ∷ ts))) (at span_to (read_named true) (lex s (ident n) ∷ lex d ellipsis ∷ ts)) g (named_rest s d n ts) i e
group_is true false true front next (lex d ellipsis ∷ ts) r g h i e =
    rest_is true false front next (lex d ellipsis ∷ ts) ts r None (at span_to (read_unnamed true) (lex d ellipsis ∷ ts)) g (unnamed_rest d ts) i e
group_is _ _ true front next _ r g h i e = absurd cc

onto_append_list : (xs l : List (Param Span)) → onto (λ x xs. x ∷ xs) xs l ≡ xs ++ l
onto_append_list [] l = refl
onto_append_list (x ∷ xs) l = ap (λ (ys : List (Param Span)). x ∷ ys) (onto_append_list xs l)

further : (front ps : List (Param Span)) (o : Option (List (Param Span) × Lexemes)) → before front (option_and_then {U = List (Param Span) × Lexemes} (λ y. Some (ps ++ y.0, y.1)) o) ≡ before (front ++ ps) o
further front ps None = refl
further front ps (Some y) = ap (λ (l : List (Param Span)). Some (l, y.1)) (onto_append_list front (ps ++ y.0) ∙ sym (append_assoc front ps y.0) ∙ sym (onto_append_list (front ++ ps) y.0))

pub group_lost : (v b e : Bool) (front : List (Param Span)) (ts : Lexemes) (g : Option (List (Param Span) × Lexemes)) → rest_here v b ts ≡ e → in_front (λ x xs. x ∷ xs) front (params_at v b ts) ≡ g → group_onto e b front ts ≡ None → g ≡ None
unfolding group_read rest_run rest_seen
group_lost v true false front ts g h i e =
    sym i ∙ ap (before front) (plain_named v ts h ∙ ap (option_and_then (λ x. run (at span_to) (named_after span_to v x.0 x.1))) (then_none (group_read front) (at span_to read_entries ts) e))
group_lost v false false front ts g h i e =
    sym i ∙ ap (before front) (plain_unnamed v ts h ∙ ap (option_and_then (λ x. run (at span_to) (unnamed_after span_to v x.0 x.1))) (then_none (λ x. (front ++ unnamed x.0 ∷ [], x.1)) (at span_to read_type ts) e))
group_lost true true true front (lex s (ident n) ∷ lex d ellipsis ∷ ts) g h i e =
    let w = lex s (ident n) ∷ lex d ellipsis ∷ ts in
    sym i ∙ ap (before front) (named_rest s d n ts ∙ ap (rest_run w (Some (name_of w))) (then_none (rest_seen front w (Some (name_of w))) (at span_to read_type ts) e))
group_lost true false true front (lex d ellipsis ∷ ts) g h i e =
    sym i ∙ ap (before front) (unnamed_rest d ts ∙ ap (rest_run (lex d ellipsis ∷ ts) None) (then_none (rest_seen front (lex d ellipsis ∷ ts) None) (at span_to read_type ts) e))
group_lost _ _ true front _ g h i e = absurd cc

pub group_last : (v b e : Bool) (front next : List (Param Span)) (ts r us : Lexemes) (g : Option (List (Param Span) × Lexemes)) → rest_here v b ts ≡ e → in_front (λ x xs. x ∷ xs) front (params_at v b ts) ≡ g → group_onto e b front ts ≡ Some (next, r) → first_of r ≡ code.EndParen → us ≡ rest_of r → g ≡ Some (next, us)
unfolding listed
group_last v b e front next ts (lex c end_paren ∷ r) us g j i h f u =
    let q = group_is v b e front next ts (lex c end_paren ∷ r) g j i h in
    q.2 ∙ ap (λ (ps : List (Param Span)). Some (ps, r)) (onto_append_list front q.0 ∙ sym q.1) ∙ ap (λ (vs : Lexemes). Some (next, vs)) (sym u)
group_last v b e front next ts _ us g j i h f u = absurd cc

pub group_comma : (v b e : Bool) (front next : List (Param Span)) (ts r us vs : Lexemes) (g : Option (List (Param Span) × Lexemes)) → rest_here v b ts ≡ e → in_front (λ x xs. x ∷ xs) front (params_at v b ts) ≡ g → group_onto e b front ts ≡ Some (next, r) → first_of r ≡ code.Comma → us ≡ rest_of r → first_of us ≡ code.EndParen → vs ≡ rest_of us → g ≡ Some (next, vs)
unfolding listed
group_comma v b e front next ts (lex c comma ∷ lex d end_paren ∷ r) us vs g j i h f u m w =
    let q = group_is v b e front next ts (lex c comma ∷ lex d end_paren ∷ r) g j i h in
    q.2 ∙ ap (λ (ps : List (Param Span)). Some (ps, r)) (onto_append_list front q.0 ∙ sym q.1) ∙ ap (λ (ws : Lexemes). Some (next, ws)) (sym (w ∙ ap rest_of u))
group_comma v b e front next ts (lex c comma ∷ r) us vs g j i h f u m w = let z = sym m ∙ ap first_of u in absurd cc
group_comma v b e front next ts _ us vs g j i h f u m w = absurd cc

pub group_more : (v b e : Bool) (front next : List (Param Span)) (ts r us : Lexemes) (k : Terminal) (g : Option (List (Param Span) × Lexemes)) → rest_here v b ts ≡ e → e ≡ false → in_front (λ x xs. x ∷ xs) front (params_at v b ts) ≡ g → group_onto e b front ts ≡ Some (next, r) → first_of r ≡ code.Comma → us ≡ rest_of r → first_of us ≡ k → k ≢ code.EndParen
    → in_front (λ x xs. x ∷ xs) next (params_at v b us) ≡ g
unfolding listed
group_more v b true front next ts r us k g j o i h f u m n = absurd cc
group_more v b false front next ts (lex c comma ∷ lex e end_paren ∷ r) us k g j o i h f u m n = absurd (n (sym m ∙ ap first_of u))
group_more v b false front next ts (lex c comma ∷ r) us k g j o i h f u m n =
    let q = group_is v b false front next ts (lex c comma ∷ r) g j i h in
    ap (λ (vs : Lexemes). before next (params_at v b vs)) u ∙ ap (λ (ps : List (Param Span)). before ps (params_at v b r)) q.1 ∙ sym (further front q.0 (params_at v b r)) ∙ sym q.2
group_more v b false front next ts _ us k g j o i h f u m n = absurd cc

-- nothing follows a variadic one
pub group_past : (v b e : Bool) (front next : List (Param Span)) (ts r us : Lexemes) (k : Terminal) (g : Option (List (Param Span) × Lexemes)) → rest_here v b ts ≡ e → e ≡ true → in_front (λ x xs. x ∷ xs) front (params_at v b ts) ≡ g → group_onto e b front ts ≡ Some (next, r) → first_of r ≡ code.Comma → us ≡ rest_of r → first_of us ≡ k → k ≢ code.EndParen → g ≡ None
unfolding listed
group_past v b false front next ts r us k g j o i h f u m n = absurd cc
group_past v b true front next ts (lex c comma ∷ lex e end_paren ∷ r) us k g j o i h f u m n = absurd (n (sym m ∙ ap first_of u))
group_past v b true front next ts (lex c comma ∷ r) us k g j o i h f u m n = let q = group_is v b true front next ts (lex c comma ∷ r) g j i h in q.2
group_past v b true front next ts _ us k g j o i h f u m n = absurd cc

pub group_stop : (v b e : Bool) (front next : List (Param Span)) (ts r : Lexemes) (k : Terminal) (g : Option (List (Param Span) × Lexemes)) → rest_here v b ts ≡ e → in_front (λ x xs. x ∷ xs) front (params_at v b ts) ≡ g → group_onto e b front ts ≡ Some (next, r) → first_of r ≡ k → k ≢ code.Comma → k ≢ code.EndParen → g ≡ None
unfolding listed
group_stop v b e front next ts (lex c comma ∷ r) k g j i h f m n = absurd (m (sym f))
group_stop v b e front next ts (lex c end_paren ∷ r) k g j i h f m n = absurd (n (sym f))
group_stop v b e front next ts r k g j i h f m n = let q = group_is v b e front next ts r g j i h in q.2
