-- The package name and the imports of a file lie in the text whose tokens spell it, as their spans say; its declarations
-- stand behind them.
use Rattle.std.proofs.Common.{◌≡◌, inl, inr, ◌+◌, ◌-◌, ◌≤◌, ℕ, suc, Bool, true, false, not, ◌&&◌, ◌||◌, nat_eq, List, [], ◌∷◌, length, take, refl, sym, ap, subst, ◌∙◌, arith, codes, bytes_eq}
use Rattle.std.specs.Prelude.{if◌then◌else◌}
use Rattle.std.specs.List.{list_all}
use Rattle.std.proofs.lemmas.Bool.Decides.{nat_tests}
use Rattle.std.proofs.lemmas.Slice.Eq.{bytes_eq-Decides}
use Rattle.go_tree.specs.declared.spans.Span.{Span}
use Rattle.go_tree.specs.declared.tokens.Token.{Token}
use Rattle.go_tree.specs.declared.tokens.TokenKind.{TokenKind}
use Rattle.go_tree.specs.declared.tokens.TokenKind.TheVariants.{Ident, Keyword, Operator, Integer, Float, Imaginary, Rune, Str, Inserted}
use Rattle.go_tree.specs.File.{ImportSpec, ImportDecl}
use Rattle.go_tree.specs.GoWords.Terminals.{Terminal, lex, ident, str_lit, semicolon, paren, end_paren, key_import, keywords, operators, found_in, terminal_of, lexemes}
use Rattle.go_read.specs.SpellsTypes.{Lexemes}
use Rattle.go_read.specs.SpellsSpans.{end_after, span_to}
use Rattle.go_read.specs.SpellsFiles.{SpellsImportSpec, SpellsImportSpecs, SpellsImport, SpellsImports, path_rule, named_path_rule, no_import_specs_rule, last_import_spec_rule, more_import_specs_rule, import_rule, import_group_rule, no_imports_rule, more_imports_rule}
use Rattle.splice_laws.proofs.Grafts.{Within, here, later}
use Rattle.splice_laws.proofs.Pasts.{import_specs_past}
use Rattle.run_rules.specs.ImportRules.Removed.{is_semicolon}
use Rattle.run_rules.specs.ImportRules.Laid.{IsInked, StandInOrder, StartsAt, IsStart, SpecsLie, DeclLies, DeclsLie}
use Rattle.splice_laws.proofs.ImportSplices.ImportPlaces.TokensStand.{Stand}

-- ---- terminals

and_both : (a b : Bool) → (a && b) ≡ true → (a ≡ true) × (b ≡ true)
and_both true b h = (refl, h)
and_both false b h = absurd cc

abbrev is_end_paren : Terminal → Bool
is_end_paren end_paren = true
is_end_paren _ = false

abbrev one_byte : List ℕ × Terminal → Bool
one_byte row = not (is_end_paren row.1) || nat_eq (length row.0) 1

same_number : (a b : ℕ) → nat_eq a b ≡ true → a ≡ b
same_number a b e = grind (arith, nat_tests, e)

of_row : (w : List ℕ) (t : Terminal) → one_byte (w, t) ≡ true → is_end_paren t ≡ true → length w ≡ 1
of_row w t h e = same_number (length w) 1 (by (is_end_paren t) e h)
  where
    by : (b : Bool) → b ≡ true → (not b || nat_eq (length w) 1) ≡ true → nat_eq (length w) 1 ≡ true
    by true e h = h
    by false e h = absurd cc

row_size : (rows : List (List ℕ × Terminal)) (s : List ℕ) → list_all one_byte rows ≡ true → is_end_paren (found_in rows s) ≡ true → length s ≡ 1
row_size [] s all e = absurd cc
row_size (row ∷ rows) s all e = by (bytes_eq row.0 s) refl (row_size rows s parts.1) e
  where
    parts : (one_byte row ≡ true) × (list_all one_byte rows ≡ true)
    parts = and_both (one_byte row) (list_all one_byte rows) all

    by : (b : Bool) → bytes_eq row.0 s ≡ b → (is_end_paren (found_in rows s) ≡ true → length s ≡ 1) → is_end_paren (if b then row.1 else found_in rows s) ≡ true → length s ≡ 1
    by true f ih e = subst (λ (w : List ℕ). length w ≡ 1) ((bytes_eq-Decides row.0 s).0 f) (of_row row.0 row.1 parts.0 e)
    by false f ih e = ih e

-- a closing parenthesis is one byte
paren_size : (k : TokenKind) (s : List ℕ) → terminal_of k s ≡ end_paren → length s ≡ 1
paren_size Keyword s e = row_size keywords s refl (ap is_end_paren e)
paren_size Operator s e = row_size operators s refl (ap is_end_paren e)
paren_size Ident s e = absurd cc
paren_size Integer s e = absurd cc
paren_size Float s e = absurd cc
paren_size Imaginary s e = absurd cc
paren_size Rune s e = absurd cc
paren_size Str s e = absurd cc
paren_size Inserted s e = absurd cc

semicolon_is : (k : TokenKind) (s : List ℕ) → is_semicolon k s ≡ true → (terminal_of k s ≡ semicolon) × (k ≡ Inserted → ⊥)
semicolon_is Operator s e = (subst (λ (w : List ℕ). terminal_of Operator w ≡ semicolon) (sym ((bytes_eq-Decides s (codes ";")).0 e)) refl, (λ i. absurd cc))
semicolon_is Keyword s e = absurd cc
semicolon_is Ident s e = absurd cc
semicolon_is Integer s e = absurd cc
semicolon_is Float s e = absurd cc
semicolon_is Imaginary s e = absurd cc
semicolon_is Rune s e = absurd cc
semicolon_is Str s e = absurd cc
semicolon_is Inserted s e = absurd cc

-- ---- tokens by their terminals

-- what the token of a terminal says: it is one of all tokens, and has ink at its ends
pub record IsWord (text : List ℕ) (all : List Token) (s : Span) (x : Terminal) : Type 0 where
  pub inked : IsInked text s
  pub starts : StartsAt s.start all
  pub sized : x ≡ end_paren → s.end ≡ s.start + 1

-- lexemes stand in their order from an offset on
abbrev pub Lie : List ℕ → List Token → ℕ → Lexemes → Type 0
Lie text all from [] = Unit {0}
Lie text all from (lex s x ∷ ts) = (from ≤ s.start) × (s.start ≤ s.end) × (s.end ≤ length text) × ((x ≡ semicolon → ⊥) → IsWord text all s x) × Lie text all s.end ts

tokens_lie : (text : List ℕ) (all : List Token) (from : ℕ) (ts : List Token) → ((at : ℕ) → StartsAt at ts → StartsAt at all) → Stand text from ts → Lie text all from (lexemes ts)
tokens_lie text all from [] k h = tt
tokens_lie text all from (t ∷ ts) k h =
    (h.0, h.1, h.2, (λ other. word other), tokens_lie text all t.span.end ts (λ at s. k at (inr s)) h.4)
  where
    word : (terminal_of t.kind t.spelling ≡ semicolon → ⊥) → IsWord text all t.span (terminal_of t.kind t.spelling)
    word other =
        let facts = h.3 (λ i. other (ap (λ (j : TokenKind). terminal_of j t.spelling) i)) in
        record { inked = facts.0; starts = k t.span.start (inl (refl, plain (is_semicolon t.kind t.spelling) refl)); sized = λ e. facts.1 ∙ ap (λ (n : ℕ). t.span.start + n) (paren_size t.kind t.spelling e) }
      where
        plain : (b : Bool) → is_semicolon t.kind t.spelling ≡ b → is_semicolon t.kind t.spelling ≡ false
        plain true e = absurd (other (semicolon_is t.kind t.spelling e).0)
        plain false e = e

pub all_lie : (text : List ℕ) (tokens : List Token) → Stand text 0 tokens → Lie text tokens 0 (lexemes tokens)
all_lie text tokens h = tokens_lie text tokens 0 tokens (λ at s. s) h

pub in_order : (text : List ℕ) (from : ℕ) (ts : List Token) → Stand text from ts → StandInOrder text from ts
in_order text from [] h = tt
in_order text from (t ∷ ts) h = (h.0, h.1, h.2, (λ e. (h.3 (semicolon_is t.kind t.spelling e).1).0), in_order text t.span.end ts h.4)

-- ---- where parts end

-- where the last of import declarations ends, or an offset where there is none
abbrev pub last_end : ℕ → List (ImportDecl Span) → ℕ
last_end from [] = from
last_end from (d ∷ ds) = last_end d.span.end ds

-- the end of the last token before others, or an offset where there is none
abbrev pub end_before : {r ts : Lexemes} → ℕ → Within r ts → ℕ
end_before n here = n
end_before n (later {t = lex s x} w) = end_before s.end w

within_le : {r ts : Lexemes} → Within r ts → length r ≤ length ts
within_le here = omega arith
within_le (later w) = let k = within_le w in omega (arith, k)

pub end_is : {r ts : Lexemes} (n : ℕ) (w : Within r ts) → end_after n (take (length ts - length r) ts) ≡ end_before n w
end_is {r = r} n here = let none : length r - length r ≡ 0 = omega arith in ap (λ (k : ℕ). end_after n (take k r)) none
end_is {r = r} n (later {t = lex s x} {ts = ts} w) =
    let one : suc (length ts) - length r ≡ suc (length ts - length r) = let k = within_le w in omega (arith, k) in
    ap (λ (k : ℕ). end_after n (take k (lex s x ∷ ts))) one ∙ end_is s.end w

-- the tokens before others and one more end with it
record Closed (e : Span) (r ts : Lexemes) : Type 0 where
  whole : Within r ts
  ends : (n : ℕ) → end_before n whole ≡ e.end

closed : (e : Span) {x : Terminal} {r ts : Lexemes} → Within (lex e x ∷ r) ts → Closed e r ts
closed e {x = x} {r = r} here = let w : Within r (lex e x ∷ r) = later here in record { whole = w; ends = λ n. refl }
closed e (later {t = lex s y} w) = let c = closed e w in record { whole = later {t = lex s y} c.whole; ends = λ n. c.ends s.end }

module _ (text : List ℕ) (all : List Token) where
  abbrev L : ℕ → Lexemes → Type 0
  L from ts = Lie text all from ts

  pub lie_lower : (m n : ℕ) (ts : Lexemes) → m ≤ n → L n ts → L m ts
  lie_lower m n [] le h = tt
  lie_lower m n (lex s x ∷ ts) le h = (omega (arith, le, h.0), h.1, h.2, h.3, h.4)

  pub lie_past : {r ts : Lexemes} (n : ℕ) (w : Within r ts) → L n ts → L (end_before n w) r
  lie_past n here h = h
  lie_past n (later {t = lex s x} w) h = lie_past s.end w h.4

  pub ends_up : {r ts : Lexemes} (n : ℕ) (w : Within r ts) → L n ts → n ≤ end_before n w
  ends_up n here h = omega arith
  ends_up n (later {t = lex s x} w) h = let k = ends_up s.end w h.4 in omega (arith, h.0, h.1, k)

  pub ends_within : {r ts : Lexemes} (n : ℕ) (w : Within r ts) → n ≤ length text → L n ts → end_before n w ≤ length text
  ends_within n here le h = le
  ends_within n (later {t = lex s x} w) le h = ends_within s.end w h.2 h.4

  -- ---- imports

  record SpecLies (from : ℕ) (s : Span) (r : Lexemes) : Type 0 where
    from_is : from ≤ s.start
    inked : IsInked text s
    starts : IsStart text all s.start
    rest : L s.end r

  spec_lies : {x : ImportSpec Span} {ts r : Lexemes} (from : ℕ) → SpellsImportSpec span_to x ts r → L from ts → SpecLies from x.span r
  spec_lies from (path_rule {s = s} {p = p} {r = r}) h =
      let w : IsWord text all s (str_lit p) = h.3 (λ e. cc) in
      let one : Within r (lex s (str_lit p) ∷ r) = later here in
      subst (λ (n : ℕ). SpecLies from (record { start = s.start; end = n }) r) (sym (end_is s.start one))
      (record { from_is = h.0; inked = w.inked; starts = (w.inked.1, w.starts); rest = h.4 })
  spec_lies from (named_path_rule {s = s} {c = c} {n = n} {p = p} {r = r}) h =
      let a : IsWord text all s (ident n) = h.3 (λ e. cc) in
      let b : IsWord text all c (str_lit p) = h.4.3 (λ e. cc) in
      let two : Within r (lex s (ident n) ∷ lex c (str_lit p) ∷ r) = later (later here) in
      subst (λ (k : ℕ). SpecLies from (record { start = s.start; end = k }) r) (sym (end_is s.start two))
      (record { from_is = h.0; inked = (omega (arith, h.1, h.4.0, b.inked.0), a.inked.1, b.inked.2); starts = (a.inked.1, a.starts); rest = h.4.4 })

  specs_lie : {xs : List (ImportSpec Span)} {ts r : Lexemes} (from : ℕ) (e : Span) → SpellsImportSpecs span_to xs ts (lex e end_paren ∷ r) → L from ts → SpecsLie text all from e.start xs
  specs_lie from e no_import_specs_rule h = h.0
  specs_lie from e (last_import_spec_rule d1) h =
      let x = spec_lies from d1 h in (x.from_is, x.inked, x.starts, x.rest.0)
  specs_lie from e (more_import_specs_rule {c = c} {x = y} {mid = mid} d1 d2) h =
      let x = spec_lies from d1 h in
      (x.from_is, x.inked, x.starts, specs_lie y.span.end e d2 (lie_lower y.span.end c.end mid (omega (arith, x.rest.0, x.rest.1)) x.rest.4))

  record ImportLies (from : ℕ) (d : ImportDecl Span) (r : Lexemes) : Type 0 where
    from_is : from ≤ d.span.start
    lies : DeclLies text all d
    rest : L d.span.end r

  single_lies : {x : ImportSpec Span} {ts r : Lexemes} (from : ℕ) (s : Span) → SpellsImportSpec span_to x ts r → L from (lex s key_import ∷ ts)
      → ((span_to (lex s key_import ∷ ts) r).end ≡ x.span.end) → ImportLies from (record { span = span_to (lex s key_import ∷ ts) r; grouped = false; specs = x ∷ [] }) r
  single_lies {x = x} {ts = ts} {r = r} from s d h same =
      let k : IsWord text all s key_import = h.3 (λ e. cc) in
      let y : SpecLies s.end x.span r = spec_lies s.end d h.4 in
      subst (λ (n : ℕ). ImportLies from (record { span = record { start = s.start; end = n }; grouped = false; specs = x ∷ [] }) r) (sym same)
      (record {
        from_is = h.0;
        lies = ((omega (arith, k.inked.0, y.from_is, y.inked.0), k.inked.1, y.inked.2), (k.inked.1, k.starts), (omega (arith, k.inked.0, y.from_is), y.inked, refl));
        rest = y.rest;
      })

  import_lies : {d : ImportDecl Span} {ts r : Lexemes} (from : ℕ) → SpellsImport span_to d ts r → L from ts → ImportLies from d r
  import_lies from (import_rule {s = s} {r = r} (path_rule {s = c} {p = p})) h =
      let one : Within r (lex c (str_lit p) ∷ r) = later here in
      let two : Within r (lex s key_import ∷ lex c (str_lit p) ∷ r) = later (later here) in
      single_lies from s (path_rule {s = c} {p = p} {r = r}) h (end_is s.start two ∙ sym (end_is c.start one))
  import_lies from (import_rule {s = s} {r = r} (named_path_rule {s = b} {c = c} {n = n} {p = p})) h =
      let two : Within r (lex b (ident n) ∷ lex c (str_lit p) ∷ r) = later (later here) in
      let three : Within r (lex s key_import ∷ lex b (ident n) ∷ lex c (str_lit p) ∷ r) = later (later (later here)) in
      single_lies from s (named_path_rule {s = b} {c = c} {n = n} {p = p} {r = r}) h (end_is s.start three ∙ sym (end_is b.start two))
  import_lies from (import_group_rule {s = s} {b = b} {e = e} {xs = xs} {ts = ts} {r = r} d1) h =
      let k : IsWord text all s key_import = h.3 (λ e. cc) in
      let w : Within (lex e end_paren ∷ r) ts = import_specs_past span_to ts d1 here in
      let z : Closed e r ts = closed e w in
      let whole : Within r (lex s key_import ∷ lex b paren ∷ ts) = later {t = lex s key_import} (later {t = lex b paren} z.whole) in
      let ends : end_before s.start whole ≡ e.end = z.ends b.end in
      let back : L (end_before b.end w) (lex e end_paren ∷ r) = lie_past b.end w h.4.4 in
      let y : IsWord text all e end_paren = back.3 (λ e. cc) in
      let up : b.end ≤ end_before b.end w = ends_up b.end w h.4.4 in
      let size : e.end ≡ e.start + 1 = y.sized refl in
      let last : e.end - 1 ≡ e.start = omega (arith, size) in
      subst (λ (n : ℕ). ImportLies from (record { span = record { start = s.start; end = n }; grouped = true; specs = xs }) r) (sym (end_is s.start whole ∙ ends))
      (record {
        from_is = h.0;
        lies = (
          (omega (arith, k.inked.0, h.4.0, h.4.1, up, back.0, size), k.inked.1, y.inked.2),
          (k.inked.1, k.starts),
          (
            subst (λ (n : ℕ). SpecsLie text all (s.start + 1) n xs) (sym last) (specs_lie (s.start + 1) e d1 (lie_lower (s.start + 1) b.end ts (omega (arith, k.inked.0, h.4.0, h.4.1)) h.4.4)),
            subst (λ (n : ℕ). IsStart text all n) (sym last) (y.inked.1, y.starts),
          ),
        );
        rest = back.4;
      })

  -- import declarations lie from an offset on, and what stands behind the last one
  pub record ImportsLie (from : ℕ) (is : List (ImportDecl Span)) (r : Lexemes) : Type 0 where
    pub lie : DeclsLie text all from is
    pub rest : L (last_end from is) r

  pub imports_lie : {is : List (ImportDecl Span)} {ts r : Lexemes} (from : ℕ) → SpellsImports span_to is ts r → L from ts → ImportsLie from is r
  imports_lie from no_imports_rule h = record { lie = tt; rest = h }
  imports_lie {r = r} from (more_imports_rule {c = c} {d = d} {ds = ds} {mid = mid} d1 d2) h =
      let x : ImportLies from d (lex c semicolon ∷ mid) = import_lies from d1 h in
      let y : ImportsLie d.span.end ds r = imports_lie d.span.end d2 (lie_lower d.span.end c.end mid (omega (arith, x.rest.0, x.rest.1)) x.rest.4) in
      record { lie = (x.from_is, x.lies, y.lie); rest = y.rest }
