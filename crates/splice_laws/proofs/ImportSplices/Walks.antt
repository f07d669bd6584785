-- The imports of a file, one after another, and what the text becomes without those that go.
use Rattle.std.proofs.Common.{◌≡◌, inl, inr, ℕ, ◌+◌, Bool, true, false, cond, List, [], ◌∷◌, ◌++◌, map, refl, sym, ap, subst, ◌∙◌}
use Rattle.std.proofs.lemmas.List.{append_assoc, append-nil}
use Rattle.go_tree.specs.declared.spans.Span.{Span}
use Rattle.go_tree.specs.declared.tokens.Token.{Token}
use Rattle.go_tree.specs.declared.tokens.Comment.{Comment}
use Rattle.go_tree.specs.File.{ImportSpec, ImportDecl}
use Rattle.go_tree.specs.FileBare.{bare_import_spec}
use Rattle.go_tree.specs.GoWords.Terminals.{Terminal, lex, ident, str_lit, semicolon, paren, end_paren, key_import}
use Rattle.go_tree.specs.GoWords.Tokens.{pieces_size}
use Rattle.go_tree.specs.GoWords.Tokens.Pieces.{Piece}
use Rattle.go_read.specs.SpellsTypes.{Lexemes}
use Rattle.go_read.specs.SpellsSpans.{span_to, start_of}
use Rattle.go_read.specs.SpellsFiles.{SpellsImportSpec, SpellsImportSpecs, SpellsImport, SpellsImports, path_rule, named_path_rule, no_import_specs_rule, last_import_spec_rule, more_import_specs_rule, import_rule, import_group_rule, no_imports_rule, more_imports_rule}
use Rattle.go_read.specs.Bareness.{nowhere}
use Rattle.text_edits.specs.declared.edit.Edit.{Edit}
use Rattle.run_rules.specs.ImportRules.Removed.{span_at, through_semicolon, widened, goes, goes_whole, spec_range, decl_range, specs_ranges, decl_ranges, ranges}
use Rattle.run_rules.specs.ImportRules.Added.{single_start, front_of}
use Rattle.run_rules.specs.ImportRules.Settled.{removal}
use Rattle.splice_laws.proofs.TokenLists.{end_last}
use Rattle.splice_laws.proofs.Wholes.{span_of_node}
use Rattle.splice_laws.specs.ImportSplices.SettledFile.{left_specs, left_single, left_decl, left_decls}
use Rattle.splice_laws.proofs.ImportSplices.Terms.{newline_in}
use Rattle.splice_laws.proofs.ImportSplices.Nodes.{State}
use Rattle.splice_laws.proofs.ImportSplices.Steps.{Stop, step, opening}
use Rattle.splice_laws.proofs.ImportSplices.Lands.{landed}
use Rattle.splice_laws.proofs.ImportSplices.Outs.{Out, out_map, kept, gone}
use Rattle.splice_laws.proofs.ImportSplices.Closed.{is_close}
use Rattle.splice_laws.specs.Joints.{words_of}
use Rattle.splice_laws.specs.Imports.{IsEnd}
use Rattle.splice_laws.proofs.ImportLists.{begins_end_paren}

-- ---- the lexemes of an import

-- the lexemes of a spec: all but its last one, which is a string
pub record SpecIs (x : ImportSpec Span) (ts r : Lexemes) : Type 0 where
  pub n0 : Lexemes
  pub s : Span
  pub p : List ℕ
  pub is : ts ≡ n0 ++ lex s (str_lit p) ∷ r
  pub span_is : x.span ≡ record { start = start_of ts; end = s.end }
  pub again : (q : Lexemes) → SpellsImportSpec nowhere (bare_import_spec x) ((n0 ++ lex s (str_lit p) ∷ []) ++ q) q

pub spec_is : {x : ImportSpec Span} {ts r : Lexemes} → SpellsImportSpec span_to x ts r → SpecIs x ts r
spec_is (path_rule {s = s} {p = p} {r = r}) = record { n0 = []; s = s; p = p; is = refl; span_is = span_of_node [] r s (str_lit p); again = λ q. path_rule }
spec_is (named_path_rule {s = s} {c = c} {n = n} {p = p} {r = r}) = record { n0 = lex s (ident n) ∷ []; s = c; p = p; is = refl; span_is = span_of_node (lex s (ident n) ∷ []) r c (str_lit p); again = λ q. named_path_rule }

-- those of the specs of a group stand before its `)`
pub specs_front : {xs : List (ImportSpec Span)} {ts r : Lexemes} → SpellsImportSpecs span_to xs ts r → (m : Lexemes) × (ts ≡ m ++ r)
specs_front (no_import_specs_rule {r = r}) = ([], refl)
specs_front (last_import_spec_rule {e = e} {r = r} d) = let x = spec_is d in (x.n0 ++ lex x.s (str_lit x.p) ∷ [], x.is ∙ sym (append_assoc x.n0 (lex x.s (str_lit x.p) ∷ []) (lex e end_paren ∷ r)))
specs_front (more_import_specs_rule {c = c} {r = r} d k) =
    let x = spec_is d in
    let y = specs_front k in
    let own : Lexemes = x.n0 ++ lex x.s (str_lit x.p) ∷ lex c semicolon ∷ [] in
    (own ++ y.0, x.is ∙ ap (λ (us : Lexemes). x.n0 ++ lex x.s (str_lit x.p) ∷ lex c semicolon ∷ us) y.1 ∙ sym (append_assoc x.n0 (lex x.s (str_lit x.p) ∷ lex c semicolon ∷ []) (y.0 ++ r)) ∙ sym (append_assoc own y.0 r))

pub span_same : (s : Span) (a b : ℕ) → s ≡ record { start = a; end = b } → (s.start ≡ a) × (s.end ≡ b)
span_same s a b e = (ap (λ (t : Span). t.start) e, ap (λ (t : Span). t.end) e)

starts_same : (n0 : Lexemes) (s : Span) (x : Terminal) (a b : Lexemes) → start_of ((n0 ++ lex s x ∷ []) ++ a) ≡ start_of (n0 ++ lex s x ∷ b)
starts_same [] s x a b = refl
starts_same (lex t y ∷ n0) s x a b = refl

pub map_both : (xs ys : List Span) → map removal (xs ++ ys) ≡ map removal xs ++ map removal ys
map_both [] ys = refl
map_both (x ∷ xs) ys = ap (λ (es : List Edit). removal x ∷ es) (map_both xs ys)

-- what spells import declarations, and then what is so
abbrev pub ImportsThen : (Lexemes → Type 0) → List (ImportDecl (Unit {0})) → Lexemes → Type 0
ImportsThen P js us = (m : Lexemes) × SpellsImports nowhere js us m × P m

-- the lexemes of declarations stand before what follows
pub import_front : {d : ImportDecl Span} {ts r : Lexemes} → SpellsImport span_to d ts r → (m : Lexemes) × (ts ≡ m ++ r)
import_front (import_rule {s = s} {r = r} a) = let x = spec_is a in (lex s key_import ∷ (x.n0 ++ lex x.s (str_lit x.p) ∷ []), ap (λ (us : Lexemes). lex s key_import ∷ us) (x.is ∙ sym (append_assoc x.n0 (lex x.s (str_lit x.p) ∷ []) r)))
import_front (import_group_rule {s = s} {b = o} {e = e} {r = r} a) = let f = specs_front a in (lex s key_import ∷ lex o paren ∷ (f.0 ++ lex e end_paren ∷ []), ap (λ (us : Lexemes). lex s key_import ∷ lex o paren ∷ us) (f.1 ∙ sym (append_assoc f.0 (lex e end_paren ∷ []) r)))

pub imports_front : {ds : List (ImportDecl Span)} {ts r : Lexemes} → SpellsImports span_to ds ts r → (m : Lexemes) × (ts ≡ m ++ r)
imports_front no_imports_rule = ([], refl)
imports_front (more_imports_rule {c = c} {r = r} a k) =
    let f = import_front a in
    let l = imports_front k in
    (f.0 ++ lex c semicolon ∷ l.0, f.1 ∙ ap (λ (us : Lexemes). f.0 ++ lex c semicolon ∷ us) l.1 ∙ sym (append_assoc f.0 (lex c semicolon ∷ l.0) r))

-- What a text becomes, where the parts that stay in front go up to a place, through the newline that is due.
pub record Led (text : List ℕ) (at : ℕ) (b : Bool) (ps : List Piece) (es : List Edit) (are : Lexemes → Type 0) (place : ℕ) : Type 0 where
  pub out : Out text at b ps es are
  pub up_to : at + pieces_size out.front ≡ place
  pub newline : b ≡ true → newline_in out.front ≡ true

module _ (text : List ℕ) (tokens : List Token) (comments : List Comment) (unused : List Span) where
  -- what is left spells, from a state on
  abbrev pub Freely : Lexemes → List Edit → (Lexemes → Type 0) → Type 0
  Freely ts es are = (at : ℕ) (b : Bool) (ps : List Piece) (st : State text tokens at b ps ts) → Out text at b ps es are

  abbrev pub Follows : Lexemes → List Edit → (Lexemes → Type 0) → Type 0
  Follows ts es are = (at : ℕ) (b : Bool) (ps : List Piece) (st : State text tokens at b ps ts) → Stop st.before ps → Out text at b ps es are

  abbrev pub Leads : Lexemes → List Edit → (Lexemes → Type 0) → ℕ → Type 0
  Leads ts es are place = (at : ℕ) (b : Bool) (ps : List Piece) (st : State text tokens at b ps ts) → Stop st.before ps → Led text at b ps es are place

  led_at : (at : ℕ) (b : Bool) (ps : List Piece) (es : List Edit) (are : Lexemes → Type 0) (place to : ℕ) → place ≡ to → Led text at b ps es are place → Led text at b ps es are to
  led_at at b ps es are place to e o = subst (λ (n : ℕ). Led text at b ps es are n) e o

  abbrev pub again : (at : ℕ) (b : Bool) (ps : List Piece) (ts us : Lexemes) → ts ≡ us → State text tokens at b ps ts → State text tokens at b ps us
  again at b ps ts us e st = record {
    before = st.before;
    text_is = st.text_is;
    size = st.size;
    done = st.done;
    tokens_are = st.tokens_are;
    past = st.past;
    lexed = st.lexed ∙ e;
    parts = st.parts;
    inner = st.inner;
    scalars = st.scalars;
    due = st.due;
  }

  -- ---- one node

  module _ (n0 : Lexemes) (s : Span) (x : Terminal) (closing : is_close x ≡ true) (end rest : Lexemes) (is_end : IsEnd end) (ends : end ≡ [] → begins_end_paren rest ≡ true) (es : List Edit) (are : Lexemes → Type 0) where
    goes_led : (r : Span) → r ≡ widened text (span_at (start_of (n0 ++ lex s x ∷ (end ++ rest))) (through_semicolon tokens s.end))
        → (k : (at : ℕ) (b : Bool) (ps : List Piece) (st : State text tokens at b ps rest) → ((end ≡ [] → ⊥) → Stop st.before ps) → Out text at b ps es are)
        → Leads (n0 ++ lex s x ∷ (end ++ rest)) (removal r ∷ es) are r.start
    goes_led r e k at b ps st stop =
        let w = step text tokens at b ps n0 s x end rest st closing is_end ends in
        let l = landed text tokens at b ps (n0 ++ lex s x ∷ (end ++ rest)) st stop (n0 ++ lex s x ∷ []) (start_of (n0 ++ lex s x ∷ (end ++ rest))) end rest (end ≡ [] → ⊥) (λ next. Unit {0}) w.of in
        let o = gone text tokens at b ps (n0 ++ lex s x ∷ (end ++ rest)) st (start_of (n0 ++ lex s x ∷ (end ++ rest))) (at + (pieces_size w.of.gap + pieces_size w.of.body)) rest (end ≡ [] → ⊥) l es are (k l.to l.b3 l.left l.next l.stops) in
        subst (λ (q : Span). Led text at b ps (removal q ∷ es) are q.start) (sym (e ∙ ap (λ (n : ℕ). widened text (span_at (start_of (n0 ++ lex s x ∷ (end ++ rest))) n)) w.through ∙ l.range)) (record { out = o.0; up_to = o.1; newline = o.2 })

    pub goes_on : (r : Span) → r ≡ widened text (span_at (start_of (n0 ++ lex s x ∷ (end ++ rest))) (through_semicolon tokens s.end))
        → (k : (at : ℕ) (b : Bool) (ps : List Piece) (st : State text tokens at b ps rest) → ((end ≡ [] → ⊥) → Stop st.before ps) → Out text at b ps es are)
        → Follows (n0 ++ lex s x ∷ (end ++ rest)) (removal r ∷ es) are
    goes_on r e k at b ps st stop = (goes_led r e k at b ps st stop).out

    pub stays_led : (c : Span) → end ≡ lex c semicolon ∷ [] → (then : Lexemes → Type 0) → Follows rest es then → ((us : Lexemes) → then us → are (((n0 ++ lex s x ∷ []) ++ end) ++ us)) → (at : ℕ) (b : Bool) (ps : List Piece) (st : State text tokens at b ps (n0 ++ lex s x ∷ (end ++ rest))) → Led text at b ps es are (start_of (n0 ++ lex s x ∷ (end ++ rest)))
    stays_led c ec then k on at b ps st =
        let w = step text tokens at b ps n0 s x end rest st closing is_end ends in
        let sure : end ≡ [] → ⊥ = (λ q. nope (sym ec ∙ q)) in
        let o = k (at + (pieces_size w.of.gap + pieces_size w.of.body)) w.of.b2 w.of.left w.of.next (w.of.stops sure) in
        let y = kept text tokens at b ps (n0 ++ lex s x ∷ (end ++ rest)) st (n0 ++ lex s x ∷ []) (start_of (n0 ++ lex s x ∷ (end ++ rest))) end rest (end ≡ [] → ⊥) (λ next. Unit {0}) w.of sure es are then
        o (w.of.closed (words_of (o.front ++ o.new)) tt) on in
        record { out = y.0; up_to = y.1; newline = y.2 }
      where
        nope : lex c semicolon ∷ [] ≡ [] → ⊥
        nope e = cc

    pub stays : (c : Span) → end ≡ lex c semicolon ∷ [] → (then : Lexemes → Type 0) → Follows rest es then → ((us : Lexemes) → then us → are (((n0 ++ lex s x ∷ []) ++ end) ++ us)) → Freely (n0 ++ lex s x ∷ (end ++ rest)) es are
    stays c ec then k on at b ps st = (stays_led c ec then k on at b ps st).out

  -- ---- the specs of a group

  module _ (d : ImportDecl Span) (grouped : d.grouped ≡ true) (e : Span) (r : Lexemes) (es : List Edit) (C : Lexemes → Type 0) (heads : (vs : Lexemes) → C vs → (e2 : Span) × (ws : Lexemes) × (vs ≡ lex e2 end_paren ∷ ws))
      (close : (m : Lexemes) → Freely (m ++ lex e end_paren ∷ r) es (λ us. (vs : Lexemes) × (us ≡ m ++ vs) × C vs)) where
    abbrev Left : List (ImportSpec Span) → Lexemes → Type 0
    Left xs us = (vs : Lexemes) × SpellsImportSpecs nowhere (left_specs text tokens comments unused xs) us vs × C vs

    range_is : {x : ImportSpec Span} {ts q : Lexemes} (i : SpecIs x ts q) → spec_range text tokens comments unused d x ≡ widened text (span_at (start_of (i.n0 ++ lex i.s (str_lit i.p) ∷ q)) (through_semicolon tokens i.s.end))
    range_is {x} {ts} {q} i =
        let sp = span_same x.span (start_of ts) i.s.end i.span_is in
        ap (λ (c : Bool). widened text (span_at (cond c x.span.start d.span.start) (through_semicolon tokens x.span.end))) grouped
        ∙ ap (λ (n : ℕ). widened text (span_at n (through_semicolon tokens x.span.end))) (sp.0 ∙ ap start_of i.is) ∙ ap (λ (n : ℕ). widened text (span_at (start_of (i.n0 ++ lex i.s (str_lit i.p) ∷ q)) (through_semicolon tokens n))) sp.1

    specs_walk : {xs : List (ImportSpec Span)} {ts : Lexemes} → SpellsImportSpecs span_to xs ts (lex e end_paren ∷ r) → Follows ts (map removal (specs_ranges text tokens comments unused d xs) ++ es) (Left xs)
    specs_walk no_import_specs_rule at b ps st stop =
        out_map text at b ps es _ (Left []) (λ us o. (o.0, subst (λ (vs : Lexemes). SpellsImportSpecs nowhere [] vs o.0) (sym o.1) no_import_specs_rule, o.2)) (close [] at b ps st)
    specs_walk (last_import_spec_rule {x = x} {ts = ts} k) at b ps st stop = by_goes (goes text tokens comments unused x) refl
      where
        i : SpecIs x ts (lex e end_paren ∷ r)
        i = spec_is k

        by_goes : (c : Bool) → goes text tokens comments unused x ≡ c → Out text at b ps (map removal (cond c (spec_range text tokens comments unused d x ∷ []) []) ++ es) (λ us. (vs : Lexemes) × SpellsImportSpecs nowhere (cond c [] (bare_import_spec x ∷ [])) us vs × C vs)
        by_goes true q =
            goes_on i.n0 i.s (str_lit i.p) refl [] (lex e end_paren ∷ r) (inl refl) (λ z. refl) es (λ us. (vs : Lexemes) × SpellsImportSpecs nowhere [] us vs × C vs) (spec_range text tokens comments unused d x) (range_is i)
            (λ at b ps st more. out_map text at b ps es _ _ (λ us o. (o.0, subst (λ (vs : Lexemes). SpellsImportSpecs nowhere [] vs o.0) (sym o.1) no_import_specs_rule, o.2)) (close [] at b ps st))
            at b ps (again at b ps ts _ i.is st) stop
        by_goes false q =
            out_map text at b ps es _ _
            (λ us o. let h = heads o.0 o.2 in (o.0, subst (λ (vs : Lexemes). SpellsImportSpecs nowhere (bare_import_spec x ∷ []) us vs) (sym h.2) (last_import_spec_rule (subst (λ (ws : Lexemes). SpellsImportSpec nowhere (bare_import_spec x) ws (lex h.0 end_paren ∷ h.1)) (sym (o.1 ∙ ap (λ (vs : Lexemes). (i.n0 ++ lex i.s (str_lit i.p) ∷ []) ++ vs) h.2)) (i.again (lex h.0 end_paren ∷ h.1)))), o.2))
            (close (i.n0 ++ lex i.s (str_lit i.p) ∷ []) at b ps (again at b ps ts _ (i.is ∙ sym (append_assoc i.n0 (lex i.s (str_lit i.p) ∷ []) (lex e end_paren ∷ r))) st))
    specs_walk (more_import_specs_rule {c = c} {x = x} {xs = xs} {ts = ts} {mid = mid} k l) at b ps st stop = by_goes (goes text tokens comments unused x) (λ at2 b2 ps2 st2 stop2. specs_walk l at2 b2 ps2 st2 stop2)
      where
        i : SpecIs x ts (lex c semicolon ∷ mid)
        i = spec_is k

        by_goes : (t : Bool) → Follows mid (map removal (specs_ranges text tokens comments unused d xs) ++ es) (Left xs)
            → Out text at b ps (map removal (cond t (spec_range text tokens comments unused d x ∷ specs_ranges text tokens comments unused d xs) (specs_ranges text tokens comments unused d xs)) ++ es)
            (λ us. (vs : Lexemes) × SpellsImportSpecs nowhere (cond t (left_specs text tokens comments unused xs) (bare_import_spec x ∷ left_specs text tokens comments unused xs)) us vs × C vs)
        by_goes true later =
            goes_on i.n0 i.s (str_lit i.p) refl (lex c semicolon ∷ []) mid (inr (c, refl)) (λ z. absurd (nope z)) (map removal (specs_ranges text tokens comments unused d xs) ++ es) (Left xs) (spec_range text tokens comments unused d x) (range_is i)
            (λ at b ps st more. later at b ps st (more nope)) at b ps (again at b ps ts _ i.is st) stop
          where
            nope : lex c semicolon ∷ [] ≡ [] → ⊥
            nope e = cc
        by_goes false later =
            stays i.n0 i.s (str_lit i.p) refl (lex c semicolon ∷ []) mid (inr (c, refl)) (λ z. absurd (nope z)) (map removal (specs_ranges text tokens comments unused d xs) ++ es) (λ us. (vs : Lexemes) × SpellsImportSpecs nowhere (bare_import_spec x ∷ left_specs text tokens comments unused xs) us vs × C vs)
            c refl (Left xs) later
            (λ us o. (o.0, subst (λ (ws : Lexemes). SpellsImportSpecs nowhere (bare_import_spec x ∷ left_specs text tokens comments unused xs) ws o.0) (sym (append_assoc (i.n0 ++ lex i.s (str_lit i.p) ∷ []) (lex c semicolon ∷ []) us)) (more_import_specs_rule {c = c} (i.again (lex c semicolon ∷ us)) o.1), o.2))
            at b ps (again at b ps ts _ i.is st)
          where
            nope : lex c semicolon ∷ [] ≡ [] → ⊥
            nope e = cc

  -- ---- the imports

  module _ (P : Lexemes → Type 0) where
    -- what spells the declarations that are left, and then what is so
    abbrev Imports : List (ImportDecl (Unit {0})) → Lexemes → Type 0
    Imports js us = ImportsThen P js us

    module _ (c : Span) (mid : Lexemes) (es : List Edit) (js : List (ImportDecl (Unit {0}))) (later : Follows mid es (Imports js)) where
      nope : lex c semicolon ∷ [] ≡ [] → ⊥
      nope e = cc

      group_start : (sp : Span) (ys xs : List (ImportSpec Span)) → single_start text tokens comments unused (record { span = sp; grouped = true; specs = ys }) xs ≡ sp.start
      group_start sp ys [] = refl
      group_start sp ys (x ∷ xs) = refl

      single : (s : Span) (x : ImportSpec Span) (ts : Lexemes) (sp : Span) → sp ≡ span_to (lex s key_import ∷ ts) (lex c semicolon ∷ mid) → SpecIs x ts (lex c semicolon ∷ mid)
          → Leads (lex s key_import ∷ ts) (map removal (decl_ranges text tokens comments unused false (record { span = sp; grouped = false; specs = x ∷ [] })) ++ es) (Imports (left_decl text tokens comments unused (record { span = sp; grouped = false; specs = x ∷ [] }) ++ js))
          (front_of text tokens comments unused (record { span = sp; grouped = false; specs = x ∷ [] }))
      single s x ts sp e i at b ps st stop = by_goes (goes text tokens comments unused x)
        where
          d : ImportDecl Span
          d = record { span = sp; grouped = false; specs = x ∷ [] }

          whole : lex s key_import ∷ ts ≡ (lex s key_import ∷ i.n0) ++ lex i.s (str_lit i.p) ∷ (lex c semicolon ∷ mid)
          whole = ap (λ (us : Lexemes). lex s key_import ∷ us) i.is

          range : widened text (span_at sp.start (through_semicolon tokens x.span.end)) ≡ widened text (span_at s.start (through_semicolon tokens i.s.end))
          range = ap (λ (q : Span). widened text (span_at q.start (through_semicolon tokens x.span.end))) e ∙ ap (λ (q : Span). widened text (span_at s.start (through_semicolon tokens q.end))) i.span_is

          by_goes : (t : Bool) → Led text at b ps (map removal (cond t (widened text (span_at sp.start (through_semicolon tokens x.span.end)) ∷ []) []) ++ es) (Imports (left_single text tokens comments unused (cond t [] (bare_import_spec x ∷ [])) ++ js))
              (cond t (widened text (span_at sp.start (through_semicolon tokens x.span.end))).start sp.start)
          by_goes true =
              goes_led (lex s key_import ∷ i.n0) i.s (str_lit i.p) refl (lex c semicolon ∷ []) mid (inr (c, refl)) (λ z. absurd (nope z)) es (Imports js) (widened text (span_at sp.start (through_semicolon tokens x.span.end))) range
              (λ at b ps st more. later at b ps st (more nope)) at b ps (again at b ps (lex s key_import ∷ ts) _ whole st) stop
          by_goes false =
              led_at at b ps es _ s.start sp.start (sym (ap (λ (q : Span). q.start) e)) (stays_led (lex s key_import ∷ i.n0) i.s (str_lit i.p) refl (lex c semicolon ∷ []) mid (inr (c, refl)) (λ z. absurd (nope z)) es (Imports (record { span = tt; grouped = false; specs = bare_import_spec x ∷ [] } ∷ js)) c refl (Imports js) later
              (λ us o. (
                o.0,
                subst (λ (ws : Lexemes). SpellsImports nowhere (record { span = tt; grouped = false; specs = bare_import_spec x ∷ [] } ∷ js) (lex s key_import ∷ ws) o.0) (sym (append_assoc (i.n0 ++ lex i.s (str_lit i.p) ∷ []) (lex c semicolon ∷ []) us))
                    (more_imports_rule {c = c} (import_rule (i.again (lex c semicolon ∷ us))) o.1),
                o.2,
              ))
              at b ps (again at b ps (lex s key_import ∷ ts) _ whole st))

      group : (s o e : Span) (xs : List (ImportSpec Span)) (ts : Lexemes) (sp : Span) → sp ≡ span_to (lex s key_import ∷ lex o paren ∷ ts) (lex c semicolon ∷ mid) → SpellsImportSpecs span_to xs ts (lex e end_paren ∷ lex c semicolon ∷ mid)
          → Leads (lex s key_import ∷ lex o paren ∷ ts) (map removal (decl_ranges text tokens comments unused false (record { span = sp; grouped = true; specs = xs })) ++ es) (Imports (left_decl text tokens comments unused (record { span = sp; grouped = true; specs = xs }) ++ js))
          (front_of text tokens comments unused (record { span = sp; grouped = true; specs = xs }))
      group s o e xs ts sp q specs at b ps st stop = by_whole (goes_whole text tokens comments unused false (record { span = sp; grouped = true; specs = xs }))
        where
          f : (m : Lexemes) × (ts ≡ m ++ (lex e end_paren ∷ lex c semicolon ∷ mid))
          f = specs_front specs

          whole : lex s key_import ∷ lex o paren ∷ ts ≡ (lex s key_import ∷ lex o paren ∷ f.0) ++ lex e end_paren ∷ (lex c semicolon ∷ mid)
          whole = ap (λ (us : Lexemes). lex s key_import ∷ lex o paren ∷ us) f.1

          span_is : sp ≡ record { start = s.start; end = e.end }
          span_is =
              q ∙ ap (λ (us : Lexemes). span_to us (lex c semicolon ∷ mid)) (whole ∙ sym (append_assoc (lex s key_import ∷ lex o paren ∷ f.0) (lex e end_paren ∷ []) (lex c semicolon ∷ mid)))
              ∙ span_of_node (lex s key_import ∷ lex o paren ∷ f.0) (lex c semicolon ∷ mid) e end_paren ∙ ap (λ (n : ℕ). record { start = s.start; end = n }) (end_last s.start (lex s key_import ∷ lex o paren ∷ f.0) e end_paren)

          C : Lexemes → Type 0
          C vs = (e2 : Span) × (ws : Lexemes) × (vs ≡ lex e2 end_paren ∷ lex c semicolon ∷ ws) × Imports js ws

          closes : (m : Lexemes) → Freely (m ++ lex e end_paren ∷ (lex c semicolon ∷ mid)) es (λ us. (vs : Lexemes) × (us ≡ m ++ vs) × ((e2 : Span) × (ws : Lexemes) × (vs ≡ lex e2 end_paren ∷ lex c semicolon ∷ ws) × Imports js ws))
          closes m =
              stays m e end_paren refl (lex c semicolon ∷ []) mid (inr (c, refl)) (λ z. absurd (nope z)) es _ c refl (Imports js) later
              (λ us o. (lex e end_paren ∷ lex c semicolon ∷ us, append_assoc (m ++ lex e end_paren ∷ []) (lex c semicolon ∷ []) us ∙ append_assoc m (lex e end_paren ∷ []) (lex c semicolon ∷ us), (e, us, refl, o)))

          by_whole : (t : Bool) → Led text at b ps (map removal (cond t (decl_range text tokens comments unused (record { span = sp; grouped = true; specs = xs }) ∷ []) (specs_ranges text tokens comments unused (record { span = sp; grouped = true; specs = xs }) xs)) ++ es)
              (Imports (cond t [] (record { span = tt; grouped = true; specs = left_specs text tokens comments unused xs } ∷ []) ++ js))
              (cond t (decl_range text tokens comments unused (record { span = sp; grouped = true; specs = xs })).start (single_start text tokens comments unused (record { span = sp; grouped = true; specs = xs }) xs))
          by_whole true =
              goes_led (lex s key_import ∷ lex o paren ∷ f.0) e end_paren refl (lex c semicolon ∷ []) mid (inr (c, refl)) (λ z. absurd (nope z)) es (Imports js) (decl_range text tokens comments unused (record { span = sp; grouped = true; specs = xs }))
              (ap (λ (z : Span). widened text (span_at z.start (through_semicolon tokens z.end))) span_is)
              (λ at b ps st more. later at b ps st (more nope)) at b ps (again at b ps (lex s key_import ∷ lex o paren ∷ ts) _ whole st) stop
          by_whole false =
              let w = opening text tokens at b ps s o ts st in
              let inside =
              specs_walk (record { span = sp; grouped = true; specs = xs }) refl e (lex c semicolon ∷ mid) es (λ vs. (e2 : Span) × (ws : Lexemes) × (vs ≡ lex e2 end_paren ∷ lex c semicolon ∷ ws) × Imports js ws)
              (λ vs o. (o.0, lex c semicolon ∷ o.1, o.2)) closes specs (at + (pieces_size w.gap + pieces_size w.body)) w.b2 w.left w.next (w.stops tt) in
              let y = kept text tokens at b ps (lex s key_import ∷ lex o paren ∷ ts) st (lex s key_import ∷ lex o paren ∷ []) s.start [] ts (Unit {0}) (λ next. Unit {0}) w tt
              (map removal (specs_ranges text tokens comments unused (record { span = sp; grouped = true; specs = xs }) xs) ++ es) (Imports (record { span = tt; grouped = true; specs = left_specs text tokens comments unused xs } ∷ js))
              (λ us. (vs : Lexemes) × SpellsImportSpecs nowhere (left_specs text tokens comments unused xs) us vs × ((e2 : Span) × (ws : Lexemes) × (vs ≡ lex e2 end_paren ∷ lex c semicolon ∷ ws) × Imports js ws))
              inside (w.closed (words_of (inside.front ++ inside.new)) tt)
              (λ us o. (o.2.3.0, more_imports_rule {c = c} (import_group_rule (subst (λ (vs : Lexemes). SpellsImportSpecs nowhere (left_specs text tokens comments unused xs) us vs) o.2.2 o.1)) o.2.3.1, o.2.3.2)) in
              record { out = y.0; up_to = y.1 ∙ sym (group_start sp xs xs ∙ ap (λ (q : Span). q.start) span_is); newline = y.2 }

      pub one_walk : {d : ImportDecl Span} {ts : Lexemes} → SpellsImport span_to d ts (lex c semicolon ∷ mid) → Leads ts (map removal (decl_ranges text tokens comments unused false d) ++ es) (Imports (left_decl text tokens comments unused d ++ js)) (front_of text tokens comments unused d)
      one_walk (import_rule {s = s} {x = x} {ts = ts} a) = single s x ts (span_to (lex s key_import ∷ ts) (lex c semicolon ∷ mid)) refl (spec_is a)
      one_walk (import_group_rule {s = s} {b = o} {e = e} {xs = xs} {ts = ts} a) = group s o e xs ts (span_to (lex s key_import ∷ lex o paren ∷ ts) (lex c semicolon ∷ mid)) refl a

    ranges_next : (d : ImportDecl Span) (ds : List (ImportDecl Span)) → ranges text tokens comments unused false (d ∷ ds) ≡ decl_ranges text tokens comments unused false d ++ ranges text tokens comments unused false ds
    ranges_next d [] = sym (append-nil (decl_ranges text tokens comments unused false d))
    ranges_next d (e ∷ ds) = refl

    first_walk : (c : Span) {d : ImportDecl Span} (ds : List (ImportDecl Span)) {ts : Lexemes} (mid : Lexemes) → SpellsImport span_to d ts (lex c semicolon ∷ mid) → (es : List Edit)
        → Follows mid (map removal (ranges text tokens comments unused false ds) ++ es) (Imports (left_decls text tokens comments unused ds))
        → Leads ts (map removal (ranges text tokens comments unused false (d ∷ ds)) ++ es) (Imports (left_decls text tokens comments unused (d ∷ ds))) (front_of text tokens comments unused d)
    first_walk c {d = d} ds mid a es later at b ps st stop =
        subst (λ (fs : List Edit). Led text at b ps fs (Imports (left_decl text tokens comments unused d ++ left_decls text tokens comments unused ds)) (front_of text tokens comments unused d))
        (sym (append_assoc (map removal (decl_ranges text tokens comments unused false d)) (map removal (ranges text tokens comments unused false ds)) es) ∙ ap (λ (fs : List Edit). fs ++ es) (sym (map_both (decl_ranges text tokens comments unused false d) (ranges text tokens comments unused false ds)) ∙ ap (map removal) (sym (ranges_next d ds))))
        (one_walk c mid (map removal (ranges text tokens comments unused false ds) ++ es) (left_decls text tokens comments unused ds) later a at b ps st stop)

    pub imports_walk : {ds : List (ImportDecl Span)} {ts mid : Lexemes} → SpellsImports span_to ds ts mid → (es : List Edit) → Follows mid es P → Follows ts (map removal (ranges text tokens comments unused false ds) ++ es) (Imports (left_decls text tokens comments unused ds))
    imports_walk no_imports_rule es last at b ps st stop = out_map text at b ps es _ _ (λ us o. (us, no_imports_rule, o)) (last at b ps st stop)
    imports_walk (more_imports_rule {c = c} {d = d} {ds = ds} {mid = mid} a k) es last at b ps st stop = (first_walk c ds mid a es (imports_walk k es last) at b ps st stop).out

    -- where there is one, up to the first
    pub lead_walk : {d : ImportDecl Span} {ds : List (ImportDecl Span)} {ts mid : Lexemes} → SpellsImports span_to (d ∷ ds) ts mid → (es : List Edit) → Follows mid es P
        → Leads ts (map removal (ranges text tokens comments unused false (d ∷ ds)) ++ es) (Imports (left_decls text tokens comments unused (d ∷ ds))) (front_of text tokens comments unused d)
    lead_walk (more_imports_rule {c = c} {ds = ds} {mid = mid} a k) es last = first_walk c ds mid a es (imports_walk k es last)
