-- What a text becomes from an offset on, when edits are made there.
use Rattle.std.proofs.Common.{◌≡◌, ℕ, ◌+◌, ◌-◌, ◌≤◌, Bool, true, false, ◌||◌, List, [], ◌∷◌, ◌++◌, length, take, drop, refl, sym, ap, subst, ◌∙◌, arith, length-append}
use Rattle.std.specs.Prelude.{encode_utf8_all, slice_range}
use Rattle.std.specs.Str.{all_scalars}
use Rattle.std.proofs.lemmas.List.{append_assoc}
use Rattle.std.proofs.lemmas.Str.{encodes-append}
use Rattle.go_tree.specs.declared.tokens.Token.{Token}
use Rattle.go_tree.specs.declared.tokens.TokenKind.{TokenKind}
use Rattle.go_tree.specs.GoWords.Terminals.{Terminal}
use Rattle.go_tree.specs.GoWords.Tokens.{pieces_size}
use Rattle.go_tree.specs.GoWords.Tokens.Pieces.{Piece}
use Rattle.go_read.specs.SpellsTypes.{Lexemes}
use Rattle.text_edits.specs.declared.edit.Edit.{Edit}
use Rattle.text_edits.specs.Applied.{replaced_from}
use Rattle.run_rules.specs.ImportRules.Removed.{span_at}
use Rattle.run_rules.specs.ImportRules.Settled.{removal, insertion}
use Rattle.splice_laws.specs.Joints.{words_of, PartsTo, InnerEnd, LastEnds}
use Rattle.splice_laws.specs.Edited.{terminals}
use Rattle.splice_laws.proofs.AddImports.{words_both, terminals_both}
use Rattle.splice_laws.proofs.Over.{parts_over}
use Rattle.splice_laws.proofs.Splices.{scalars_parts, scalars_on}
use Rattle.splice_laws.proofs.ImportSplices.Terms.{terms, silent, newline_in, silent_terms, breaks, breaks_silent}
use Rattle.splice_laws.proofs.ImportSplices.Bytes.{bytes_of, bytes_then, bytes_size, slice_at, HeadFrom, replaced_on}
use Rattle.splice_laws.proofs.ImportSplices.Nodes.{token_piece, State}
use Rattle.splice_laws.proofs.ImportSplices.Steps.{Step, inner_later, inner_before}
use Rattle.splice_laws.proofs.ImportSplices.LineStarts.{gap_closed}
use Rattle.splice_laws.proofs.ImportSplices.Lands.{Land}

-- The parts `front` stay, and then come others, which spell what is asked.
pub record Out (text : List ℕ) (at : ℕ) (b : Bool) (ps : List Piece) (es : List Edit) (are : Lexemes → Type 0) : Type 0 where
  pub front : List Piece
  pub words : (more : List ℕ) × (words_of ps ≡ words_of front ++ more)
  pub none : silent front ≡ true
  pub inner : InnerEnd front
  pub closed : (next : List ℕ) → LastEnds front next
  pub new : List Piece
  pub parts : PartsTo (words_of new) new []
  pub scalars : all_scalars (words_of new) ≡ true
  pub bytes : bytes_of new ≡ replaced_from text (at + pieces_size front) es
  pub heads : HeadFrom (at + pieces_size front) es
  pub us : Lexemes
  pub spelled : are us
  pub terms_are : terms false new ≡ terminals us
  pub due : b ≡ true → breaks (front ++ new) ≡ true

-- what spells it may be said otherwise
pub out_map : (text : List ℕ) (at : ℕ) (b : Bool) (ps : List Piece) (es : List Edit) (are then : Lexemes → Type 0) → ((us : Lexemes) → are us → then us) → Out text at b ps es are → Out text at b ps es then
out_map text at b ps es are then f o = record {
  front = o.front;
  words = o.words;
  none = o.none;
  inner = o.inner;
  closed = o.closed;
  new = o.new;
  parts = o.parts;
  scalars = o.scalars;
  bytes = o.bytes;
  heads = o.heads;
  us = o.us;
  spelled = f o.us o.spelled;
  terms_are = o.terms_are;
  due = o.due;
}

module _ (text : List ℕ) (tokens : List Token) where
  -- the bytes of parts in front of an offset
  pub slice_is : (at : ℕ) (b : Bool) (ps : List Piece) (ts : Lexemes) → State text tokens at b ps ts → (front : List Piece) → (more : List ℕ) → words_of ps ≡ words_of front ++ more → slice_range text at (at + pieces_size front) ≡ bytes_of front
  slice_is at b ps ts st front more e =
      slice_at text st.before (bytes_of front) (encode_utf8_all more) at (at + pieces_size front)
      (st.text_is ∙ ap (λ (v : List ℕ). st.before ++ v) (ap encode_utf8_all e ∙ encodes-append (words_of front) more)) st.size (ap (λ (n : ℕ). at + n) (bytes_size front))

  -- what it becomes, from its own start
  pub record Whole (at : ℕ) (es : List Edit) (us : Lexemes) (ps : List Piece) : Type 0 where
    pub parts : PartsTo (words_of ps) ps []
    pub scalars : all_scalars (words_of ps) ≡ true
    pub bytes : bytes_of ps ≡ replaced_from text at es
    pub terms_are : terms false ps ≡ terminals us
    pub heads : HeadFrom at es

  pub whole : (at : ℕ) (b : Bool) (ps : List Piece) (ts : Lexemes) → State text tokens at b ps ts → (es : List Edit) (are : Lexemes → Type 0) → (o : Out text at b ps es are) → Whole at es o.us (o.front ++ o.new)
  whole at b ps ts st es are o = record {
    parts = subst (λ (t : List ℕ). PartsTo t (o.front ++ o.new) []) (sym (words_both o.front o.new)) (parts_over o.front (words_of o.new) o.new [] o.inner (o.closed (words_of o.new)) o.parts);
    scalars = subst (λ (t : List ℕ). all_scalars t ≡ true) (sym (words_both o.front o.new)) (scalars_on (words_of o.front) (words_of o.new) (scalars_parts (words_of o.front) o.words.0 (subst (λ (v : List ℕ). all_scalars v ≡ true) o.words.1 st.scalars)).0 o.scalars);
    bytes = bytes_then o.front o.new ∙ ap (λ (v : List ℕ). v ++ bytes_of o.new) (sym (slice_is at b ps ts st o.front o.words.0 o.words.1)) ∙ ap (λ (v : List ℕ). slice_range text at (at + pieces_size o.front) ++ v) o.bytes
        ∙ sym (replaced_on text at (at + pieces_size o.front) es (omega arith) o.heads);
    terms_are = silent_terms o.front o.new o.none ∙ o.terms_are;
    heads = heads_on es o.heads;
  }
    where
      heads_on : (es : List Edit) → HeadFrom (at + pieces_size o.front) es → HeadFrom at es
      heads_on [] h = tt
      heads_on (e ∷ es) h = less (pieces_size o.front) e.span.start h
        where
          less : (n m : ℕ) → at + n ≤ m → at ≤ m
          less n m h = omega (arith, h)

  heads_from : (n m : ℕ) (es : List Edit) → n ≤ m → HeadFrom m es → HeadFrom n es
  heads_from n m [] le h = tt
  heads_from n m (e ∷ es) le h = under n m e.span.start le h
    where
      under : (n m k : ℕ) → n ≤ m → m ≤ k → n ≤ k
      under n m k x y = omega (arith, x, y)

  -- ---- a node stays

  in_gap : (others : List Piece) (k : TokenKind) (w : List ℕ) (gap : List Piece) → silent gap ≡ true → breaks (gap ++ (token_piece k w ∷ others)) ≡ true → newline_in gap ≡ true
  unfolding breaks
  in_gap others k w gap none h = or_false (newline_in gap) (sym (breaks_silent gap (token_piece k w ∷ others) none) ∙ h)
    where
      or_false : (c : Bool) → c || false ≡ true → c ≡ true
      or_false true e = refl
      or_false false e = absurd cc

  pub kept : (at : ℕ) (b : Bool) (ps : List Piece) (ts : Lexemes) (st : State text tokens at b ps ts) (node : Lexemes) (start : ℕ) (end rest : Lexemes) (ok : Type 0) (may : List ℕ → Type 0) (w : Step text tokens at ps node start end rest ok may) → ok
      → (es : List Edit) (are then : Lexemes → Type 0) → (o : Out text (at + (pieces_size w.gap + pieces_size w.body)) w.b2 w.left es then) → LastEnds w.body (words_of (o.front ++ o.new)) → ((us : Lexemes) → then us → are ((node ++ end) ++ us))
      → (o : Out text at b ps es are) × (at + pieces_size o.front ≡ start) × (b ≡ true → newline_in o.front ≡ true)
  kept at b ps ts st node start end rest ok may w sure es are then o clear on =
      let to : ℕ = at + (pieces_size w.gap + pieces_size w.body) in
      let wh = whole to w.b2 w.left rest w.next es then o in
      let new : List Piece = w.body ++ (o.front ++ o.new) in
      let list : ps ≡ w.gap ++ (token_piece w.first.0 w.first.1 ∷ (w.first.2 ++ w.left)) = w.is ∙ ap (λ (us : List Piece). w.gap ++ (us ++ w.left)) w.first.3 in
      let gap_parts : PartsTo (words_of ps) (w.gap ++ (token_piece w.first.0 w.first.1 ∷ (w.first.2 ++ w.left))) [] = subst (λ (us : List Piece). PartsTo (words_of ps) us []) list st.parts in
      let inner : InnerEnd (w.gap ++ (w.body ++ w.left)) = subst (λ (us : List Piece). InnerEnd us) w.is st.inner in
      let body_scalars = (scalars_parts (words_of w.body) (words_of w.left) (subst (λ (v : List ℕ). all_scalars v ≡ true) (words_both w.body w.left)
      (scalars_parts (words_of w.gap) (words_of (w.body ++ w.left)) (subst (λ (v : List ℕ). all_scalars v ≡ true) (ap words_of w.is ∙ words_both w.gap (w.body ++ w.left)) st.scalars)).1)).0 in
      let body_slice : slice_range text (at + pieces_size w.gap) to ≡ bytes_of w.body =
      slice_at text (st.before ++ bytes_of w.gap) (bytes_of w.body) (bytes_of w.left) (at + pieces_size w.gap) to
      (st.text_is ∙ ap (λ (us : List Piece). st.before ++ bytes_of us) w.is ∙ ap (λ (v : List ℕ). st.before ++ v) (bytes_then w.gap (w.body ++ w.left)) ∙ sym (append_assoc st.before (bytes_of w.gap) (bytes_of (w.body ++ w.left))) ∙ ap (λ (v : List ℕ). (st.before ++ bytes_of w.gap) ++ v) (bytes_then w.body w.left))
      (length-append st.before (bytes_of w.gap) ∙ ap (λ (n : ℕ). n + length (bytes_of w.gap)) st.size ∙ ap (λ (n : ℕ). at + n) (bytes_size w.gap)) (ap (λ (n : ℕ). at + pieces_size w.gap + n) (bytes_size w.body) ∙ sums (pieces_size w.gap) (pieces_size w.body)) in
      let gap_newline : b ≡ true → newline_in w.gap ≡ true = (λ q. in_gap (w.first.2 ++ w.left) w.first.0 w.first.1 w.gap w.none (sym (ap breaks list) ∙ st.due q)) in (
        record {
          front = w.gap;
          words = (words_of (w.body ++ w.left), ap words_of w.is ∙ words_both w.gap (w.body ++ w.left));
          none = w.none;
          inner = inner_before w.gap (w.body ++ w.left) inner;
          closed = gap_closed w.gap w.first.0 w.first.1 (w.first.2 ++ w.left) (words_of ps) [] gap_parts w.none;
          new = new;
          parts = subst (λ (t : List ℕ). PartsTo t new []) (sym (words_both w.body (o.front ++ o.new)))
              (parts_over w.body (words_of (o.front ++ o.new)) (o.front ++ o.new) [] (inner_before w.body w.left (inner_later w.gap (w.body ++ w.left) inner)) clear wh.parts);
          scalars = subst (λ (t : List ℕ). all_scalars t ≡ true) (sym (words_both w.body (o.front ++ o.new))) (scalars_on (words_of w.body) (words_of (o.front ++ o.new)) body_scalars wh.scalars);
          bytes = bytes_then w.body (o.front ++ o.new) ∙ ap (λ (v : List ℕ). v ++ bytes_of (o.front ++ o.new)) (sym body_slice) ∙ ap (λ (v : List ℕ). slice_range text (at + pieces_size w.gap) to ++ v) wh.bytes
              ∙ sym (replaced_on text (at + pieces_size w.gap) to es (within (pieces_size w.gap) (pieces_size w.body)) wh.heads);
          heads = heads_from (at + pieces_size w.gap) to es (within (pieces_size w.gap) (pieces_size w.body)) wh.heads;
          us = (node ++ end) ++ o.us;
          spelled = on o.us o.spelled;
          terms_are = w.own sure (o.front ++ o.new) o.due ∙ ap (λ (us : List Terminal). terminals (node ++ end) ++ us) wh.terms_are ∙ sym (terminals_both (node ++ end) o.us);
          due = λ q. breaks_silent w.gap new w.none ∙ ap (λ (c : Bool). c || breaks new) (gap_newline q);
        },
        sym w.start_is,
        gap_newline,
      )
    where
      sums : (g c : ℕ) → at + g + c ≡ at + (g + c)
      sums g c = omega arith

      within : (g c : ℕ) → at + g ≤ at + (g + c)
      within g c = omega arith

  -- ---- a node goes

  pub gone : (at : ℕ) (b : Bool) (ps : List Piece) (ts : Lexemes) (st : State text tokens at b ps ts) (start stop : ℕ) (rest : Lexemes) (ok : Type 0) (w : Land text tokens at ps start stop rest ok)
      → (es : List Edit) (are : Lexemes → Type 0) → Out text w.to w.b3 w.left es are
      → (o : Out text at b ps (removal (span_at (at + pieces_size w.front.front) w.to) ∷ es) are) × (at + pieces_size o.front ≡ at + pieces_size w.front.front) × (b ≡ true → newline_in o.front ≡ true)
  gone at b ps ts st start stop rest ok w es are o =
      let wh = whole w.to w.b3 w.left rest w.next es are o in
      let c : ℕ = at + pieces_size w.front.front in (
        record {
          front = w.front.front;
          words = w.front.words;
          none = w.front.none;
          inner = w.front.inner;
          closed = w.front.closed;
          new = o.front ++ o.new;
          parts = wh.parts;
          scalars = wh.scalars;
          bytes = wh.bytes ∙ sym (nothing c (replaced_from text w.to es));
          heads = omega arith;
          us = o.us;
          spelled = o.spelled;
          terms_are = wh.terms_are;
          due = λ q. breaks_silent w.front.front (o.front ++ o.new) w.front.none ∙ ap (λ (d : Bool). d || breaks (o.front ++ o.new)) (w.front.newline (st.due q));
        },
        refl,
        λ q. w.front.newline (st.due q),
      )
    where
      nothing : (c : ℕ) (v : List ℕ) → slice_range text c c ++ ([] ++ v) ≡ v
      nothing c v = ap (λ (n : ℕ). take n (drop c text) ++ v) (none c)
        where
          none : (c : ℕ) → c - c ≡ 0
          none c = omega arith

  -- ---- something is put in

  pub put_in : (at : ℕ) (b : Bool) (ps : List Piece) (ns : List Piece) → InnerEnd ns → ((next : List ℕ) → LastEnds ns next) → all_scalars (words_of ns) ≡ true → (vs : Lexemes) → ((qs : List Piece) → terms false (ns ++ qs) ≡ terminals vs ++ terms false qs)
      → (es : List Edit) (are then : Lexemes → Type 0) (o : Out text at b ps es then) → (b ≡ true → newline_in o.front ≡ true) → ((us : Lexemes) → then us → are (vs ++ us))
      → Out text at b ps (insertion (record { at = at + pieces_size o.front; text = bytes_of ns }) ∷ es) are
  put_in at b ps ns inner closed scalars vs own es are then o newline on = record {
    front = o.front;
    words = o.words;
    none = o.none;
    inner = o.inner;
    closed = o.closed;
    new = ns ++ o.new;
    parts = subst (λ (t : List ℕ). PartsTo t (ns ++ o.new) []) (sym (words_both ns o.new)) (parts_over ns (words_of o.new) o.new [] inner (closed (words_of o.new)) o.parts);
    scalars = subst (λ (t : List ℕ). all_scalars t ≡ true) (sym (words_both ns o.new)) (scalars_on (words_of ns) (words_of o.new) scalars o.scalars);
    bytes = bytes_then ns o.new ∙ ap (λ (v : List ℕ). bytes_of ns ++ v) o.bytes ∙ sym (nothing (at + pieces_size o.front) (bytes_of ns ++ replaced_from text (at + pieces_size o.front) es));
    heads = omega arith;
    us = vs ++ o.us;
    spelled = on o.us o.spelled;
    terms_are = own o.new ∙ ap (λ (ts : List Terminal). terminals vs ++ ts) o.terms_are ∙ sym (terminals_both vs o.us);
    due = λ q. breaks_silent o.front (ns ++ o.new) o.none ∙ ap (λ (d : Bool). d || breaks (ns ++ o.new)) (newline q);
  }
    where
      nothing : (c : ℕ) (v : List ℕ) → slice_range text c c ++ v ≡ v
      nothing c v = ap (λ (n : ℕ). take n (drop c text) ++ v) (none c)
        where
          none : (c : ℕ) → c - c ≡ 0
          none c = omega arith
