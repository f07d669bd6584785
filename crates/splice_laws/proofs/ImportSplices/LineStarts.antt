-- Where the line of a node starts, and what stands there before it.
use Rattle.std.proofs.Common.{◌≡◌, inl, inr, ℕ, ◌+◌, Bool, true, false, ◌&&◌, ◌||◌, List, [], ◌∷◌, ◌++◌, length, refl, sym, ap, subst, ◌∙◌, arith, length-append}
use Rattle.std.specs.Prelude.{encode_utf8_all}
use Rattle.std.specs.Str.{all_scalars}
use Rattle.std.specs.List.{list_all}
use Rattle.std.proofs.lemmas.List.{append_assoc, append-nil}
use Rattle.std.proofs.lemmas.Str.{encodes-append, chars-encodes}
use Rattle.go_tree.specs.declared.tokens.Token.{Token}
use Rattle.go_tree.specs.declared.tokens.TokenKind.{TokenKind}
use Rattle.go_tree.specs.GoWords.Tokens.Characters.{is_blank, is_listed, each}
use Rattle.go_tree.specs.GoWords.Tokens.{pieces_size}
use Rattle.go_tree.specs.GoWords.Tokens.Pieces.{PieceKind, blanks, remark, token, Piece, is_blanks, IsPiece, IsNext}
use Rattle.go_read.specs.SpellsTypes.{Lexemes}
use Rattle.go_scan.proofs.BytesLemmas.{newline_same}
use Rattle.go_scan.proofs.PieceKinds.{never_empty}
use Rattle.run_rules.specs.ImportRules.Removed.{line_start, begins_line}
use Rattle.splice_laws.specs.Joints.{words_of, IsPart, PartsTo, EndsBefore, InnerEnd, LastEnds}
use Rattle.splice_laws.specs.ImportTexts.{a_piece}
use Rattle.splice_laws.proofs.AddImports.{words_both, blank_ends}
use Rattle.splice_laws.proofs.Joins.{remark_ends}
use Rattle.splice_laws.proofs.OneToken.{last_of}
use Rattle.splice_laws.proofs.Over.{is_piece}
use Rattle.splice_laws.proofs.Splices.{scalars_parts}
use Rattle.splice_laws.proofs.ImportSplices.Terms.{silent, is_silent, newline_in, breaks, breaks_silent, both_parts}
use Rattle.splice_laws.proofs.ImportSplices.Bytes.{bytes_of, bytes_then, bytes_size, EndsLine, line_starts, listed_then, each_then, blank_bytes}
use Rattle.splice_laws.proofs.ImportSplices.Gaps.{at_last, all_later, all_earlier, Lined, flat, cut, inked, lined}
use Rattle.splice_laws.proofs.ImportSplices.Nodes.{token_piece, State}
use Rattle.splice_laws.proofs.ImportSplices.Steps.{Stop, inner_before}

-- ---- lists

pub clash_true : {X : Type 0} → (b : Bool) → b ≡ true → b ≡ false → X
clash_true true e f = absurd cc
clash_true false e f = absurd cc

pub ends_ink : (m : List ℕ) (c : ℕ) → is_blank c ≡ false → list_all is_blank (m ++ c ∷ []) ≡ false
ends_ink m c h = all_earlier m (c ∷ []) (ap (λ (b : Bool). b && true) h)

pub ink_last : (m : List ℕ) (c : ℕ) (b y : List ℕ) → is_blank c ≡ false → m ++ c ∷ [] ≡ b ++ 10 ∷ y → list_all is_blank y ≡ false
ink_last [] c [] y h e = absurd (nope (first e))
  where
    head : List ℕ → ℕ
    head [] = 0
    head (d ∷ ds) = d

    first : c ∷ [] ≡ 10 ∷ y → c ≡ 10
    first e = ap head e

    nope : c ≡ 10 → ⊥
    nope q = clash_true (is_blank c) (ap is_blank q) h
ink_last (d ∷ m) c [] y h e = let f : m ++ c ∷ [] ≡ y = cc in ap (λ (v : List ℕ). list_all is_blank v) (sym f) ∙ ends_ink m c h
ink_last [] c (d ∷ []) y h e = absurd cc
ink_last [] c (d ∷ x ∷ b) y h e = absurd cc
ink_last (d ∷ m) c (x ∷ b) y h e = let f : m ++ c ∷ [] ≡ b ++ 10 ∷ y = cc in ink_last m c b y h f

listed_word : (w : List ℕ) → all_scalars w ≡ true → is_listed w 10 ≡ true → is_listed (encode_utf8_all w) 10 ≡ true
listed_word w sc n = newline_same (encode_utf8_all w) (w, (sc, refl)) ∙ ap (λ (v : List ℕ). is_listed v 10) (chars-encodes w sc) ∙ n

newline_bytes : (g : List Piece) → all_scalars (words_of g) ≡ true → newline_in g ≡ true → is_listed (bytes_of g) 10 ≡ true
newline_bytes [] sc n = absurd cc
newline_bytes (p ∷ g) sc n = ap (λ (v : List ℕ). is_listed v 10) (encodes-append p.word (words_of g)) ∙ by (is_listed p.word 10) refl n (λ q. newline_bytes g both.1 q)
  where
    both : (all_scalars p.word ≡ true) × (all_scalars (words_of g) ≡ true)
    both = scalars_parts p.word (words_of g) sc

    left : (a b : Bool) → a ≡ true → a || b ≡ true
    left true b e = refl
    left false b e = absurd cc

    right : (a b : Bool) → b ≡ true → a || b ≡ true
    right true b e = refl
    right false b e = e

    by : (b : Bool) → is_listed p.word 10 ≡ b → b || newline_in g ≡ true → (newline_in g ≡ true → is_listed (bytes_of g) 10 ≡ true) → is_listed (encode_utf8_all p.word ++ bytes_of g) 10 ≡ true
    by true e q later = listed_then (encode_utf8_all p.word) (bytes_of g) _ _ refl refl ∙ left (is_listed (encode_utf8_all p.word) 10) (is_listed (bytes_of g) 10) (listed_word p.word both.0 e)
    by false e q later = listed_then (encode_utf8_all p.word) (bytes_of g) _ _ refl refl ∙ right (is_listed (encode_utf8_all p.word) 10) (is_listed (bytes_of g) 10) (later q)

newline_there : (pre later : List Piece) (k : PieceKind) (w0 : List ℕ) → newline_in (pre ++ (record { kind = k; word = w0 ++ 10 ∷ [] } ∷ later)) ≡ true
newline_there [] later k w0 = ap (λ (b : Bool). b || newline_in later) (listed_then w0 (10 ∷ []) (is_listed w0 10) true refl refl ∙ last (is_listed w0 10))
  where
    last : (b : Bool) → b || true ≡ true
    last true = refl
    last false = refl
newline_there (p ∷ pre) later k w0 = ap (λ (b : Bool). is_listed p.word 10 || b) (newline_there pre later k w0) ∙ last (is_listed p.word 10)
  where
    last : (b : Bool) → b || true ≡ true
    last true = refl
    last false = refl

silent_before : (xs ys : List Piece) → silent (xs ++ ys) ≡ true → silent xs ≡ true
silent_before [] ys h = refl
silent_before (x ∷ xs) ys h = let q = both_parts (is_silent x.kind) (silent (xs ++ ys)) h in ap (λ (b : Bool). b && silent xs) q.0 ∙ silent_before xs ys q.1

silent_last : (xs : List Piece) (w : List ℕ) → silent xs ≡ true → silent (xs ++ a_piece w ∷ []) ≡ true
silent_last [] w h = refl
silent_last (x ∷ xs) w h = let q = both_parts (is_silent x.kind) (silent xs) h in ap (λ (b : Bool). b && silent (xs ++ a_piece w ∷ [])) q.0 ∙ silent_last xs w q.1

-- ---- blanks and comments before a token end whatever follows

abbrev PartOf : Piece → List ℕ → Type 0
PartOf p more = IsPart p.kind p.word more

abbrev Remark : List ℕ → List ℕ → Type 0
Remark v more = IsNext (v ++ more) remark v more

pub gap_closed : (g : List Piece) (k : TokenKind) (w : List ℕ) (others : List Piece) (txt rest : List ℕ) → PartsTo txt (g ++ (token_piece k w ∷ others)) rest → silent g ≡ true → (next : List ℕ) → LastEnds g next
gap_closed [] k w others txt rest parts s next = tt
gap_closed (p ∷ []) k w others txt rest parts s next = by_kind p.kind p.word refl next
  where
    q : is_silent p.kind ≡ true
    q = (both_parts (is_silent p.kind) true s).0

    remarks : (v u : List ℕ) → p ≡ record { kind = remark; word = v } → w ≡ u → (next : List ℕ) → EndsBefore (record { kind = remark; word = v }) next
    remarks v [] e f next = absurd (never_empty (token k) (subst (λ (x : List ℕ). IsPiece (token k) x) f (is_piece (token k) w parts.3.0 parts.3.2)))
    remarks v (c ∷ cs) e f next =
        let piece : IsPiece (token k) (c ∷ cs) = subst (λ (x : List ℕ). IsPiece (token k) x) f (is_piece (token k) w parts.3.0 parts.3.2) in
        let text_is : parts.0 ≡ c ∷ (cs ++ parts.3.0) = parts.3.1 ∙ ap (λ (x : List ℕ). x ++ parts.3.0) f in
        ends next (λ others2. remark_ends v c cs (cs ++ parts.3.0) others2 k (subst (λ (x : List ℕ). Remark v x) text_is (there e)) piece)
      where
        there : (e : p ≡ record { kind = remark; word = v }) → Remark v parts.0
        there e = subst (λ (y : Piece). PartOf y parts.0) e parts.2

        ends : (next : List ℕ) → ((more : List ℕ) → Remark v more) → EndsBefore (record { kind = remark; word = v }) next
        ends [] h = h []
        ends (d ∷ ds) h = λ more. h (d ∷ more)

    by_kind : (j : PieceKind) (v : List ℕ) → p ≡ record { kind = j; word = v } → (next : List ℕ) → EndsBefore p next
    by_kind j v e next = subst (λ (y : Piece). EndsBefore y next) (sym e) (own j v e next)
      where
        own : (j : PieceKind) (v : List ℕ) → p ≡ record { kind = j; word = v } → (next : List ℕ) → EndsBefore (record { kind = j; word = v }) next
        own blanks v e next = blank_ends v next (is_piece blanks v parts.0 (subst (λ (y : Piece). PartOf y parts.0) e parts.2))
        own remark v e next = remarks v w e refl next
        own (token i) v e next = absurd (nope (sym (ap (λ (y : Piece). is_silent y.kind) e) ∙ q))
          where
            nope : false ≡ true → ⊥
            nope e = cc
gap_closed (p ∷ r ∷ g) k w others txt rest parts s next = gap_closed (r ∷ g) k w others parts.0 rest parts.3 (both_parts (is_silent p.kind) (silent (r ∷ g)) s).1 next

-- ---- the line on which a node starts

-- the parts before a node without its line's blanks
pub record Front (text : List ℕ) (at : ℕ) (ps : List Piece) : Type 0 where
  pub front : List Piece
  pub words : (more : List ℕ) × (words_of ps ≡ words_of front ++ more)
  pub none : silent front ≡ true
  pub newline : breaks ps ≡ true → newline_in front ≡ true
  pub inner : InnerEnd front
  pub closed : (next : List ℕ) → LastEnds front next

pub data Begin (text : List ℕ) (at start : ℕ) (ps : List Piece) : Type 0 where
  unbroken : begins_line text start ≡ false → Begin text at start ps
  broken : (f : Front text at ps) → line_start text start ≡ at + pieces_size f.front → Begin text at start ps

-- the first character alone says what ends before it
inner_on : (pre : List Piece) (w0 w2 : List ℕ) → InnerEnd (pre ++ record { kind = blanks; word = w0 ++ 10 ∷ w2 } ∷ []) → InnerEnd (pre ++ a_piece (w0 ++ 10 ∷ []) ∷ [])
inner_on [] w0 w2 h = tt
inner_on (p ∷ []) [] w2 h = (h.0, tt)
inner_on (p ∷ []) (c ∷ w0) w2 h = (h.0, tt)
inner_on (p ∷ q ∷ pre) w0 w2 h = (h.0, inner_on (q ∷ pre) w0 w2 h.1)

module _ (text : List ℕ) (tokens : List Token) (at : ℕ) (b : Bool) (ps : List Piece) (ts : Lexemes) (st : State text tokens at b ps ts) (stop : Stop st.before ps) (gap body left : List Piece) (is : ps ≡ gap ++ (body ++ left)) (none : silent gap ≡ true)
    (first : (k : TokenKind) × (w : List ℕ) × (h : List Piece) × (body ≡ token_piece k w ∷ h)) where
  list : ps ≡ gap ++ (token_piece first.0 first.1 ∷ (first.2 ++ left))
  list = is ∙ ap (λ (us : List Piece). gap ++ (us ++ left)) first.3

  pub breaks_gap : breaks ps ≡ true → newline_in gap ≡ true
  unfolding breaks
  breaks_gap h = or_false (newline_in gap) (sym (breaks_silent gap (token_piece first.0 first.1 ∷ (first.2 ++ left)) none) ∙ ap breaks (sym list) ∙ h)
    where
      or_false : (c : Bool) → c || false ≡ true → c ≡ true
      or_false true e = refl
      or_false false e = absurd cc

  gap_scalars : all_scalars (words_of gap) ≡ true
  gap_scalars = (scalars_parts (words_of gap) (words_of (body ++ left)) (subst (λ (v : List ℕ). all_scalars v ≡ true) (ap words_of is ∙ words_both gap (body ++ left)) st.scalars)).0

  pub gap_parts : PartsTo (words_of ps) (gap ++ (token_piece first.0 first.1 ∷ (first.2 ++ left))) []
  gap_parts = subst (λ (us : List Piece). PartsTo (words_of ps) us []) list st.parts

  text_is : text ≡ (st.before ++ bytes_of gap) ++ bytes_of (body ++ left)
  text_is = st.text_is ∙ ap (λ (us : List Piece). st.before ++ bytes_of us) is ∙ ap (λ (v : List ℕ). st.before ++ v) (bytes_then gap (body ++ left)) ∙ sym (append_assoc st.before (bytes_of gap) (bytes_of (body ++ left)))

  size_is : length (st.before ++ bytes_of gap) ≡ at + pieces_size gap
  size_is = length-append st.before (bytes_of gap) ∙ ap (λ (n : ℕ). n + length (bytes_of gap)) st.size ∙ ap (λ (n : ℕ). at + n) (bytes_size gap)

  -- the whole gap
  unfoldable pub whole_gap : Front text at ps
  whole_gap = record {
    front = gap;
    words = (words_of (body ++ left), ap words_of is ∙ words_both gap (body ++ left));
    none = none;
    newline = breaks_gap;
    inner = inner_before gap (body ++ left) (subst (λ (us : List Piece). InnerEnd us) is st.inner);
    closed = gap_closed gap first.0 first.1 (first.2 ++ left) (words_of ps) [] gap_parts none;
  }

  -- where its line starts, by what stands there
  starts_at : (v y : List ℕ) → st.before ++ bytes_of gap ≡ v ++ y → EndsLine v → is_listed y 10 ≡ false → (line_start text (at + pieces_size gap) ≡ length v) × (begins_line text (at + pieces_size gap) ≡ list_all is_blank y)
  starts_at v y e ends bare = line_starts text v y (bytes_of (body ++ left)) (at + pieces_size gap) (text_is ∙ ap (λ (u : List ℕ). u ++ bytes_of (body ++ left)) e) (ap length (sym e) ∙ size_is) ends bare

  begins : Lined gap → Begin text at (at + pieces_size gap) ps
  unfolding whole_gap
  begins (cut pre w0 w2 later e blank bare) =
      let piece : Piece = record { kind = blanks; word = w0 ++ 10 ∷ w2 } in
      let front : List Piece = pre ++ a_piece (w0 ++ 10 ∷ []) ∷ [] in
      let split : w0 ++ 10 ∷ w2 ≡ (w0 ++ 10 ∷ []) ++ w2 = sym (append_assoc w0 (10 ∷ []) w2) in
      let front_words : words_of front ≡ words_of pre ++ (w0 ++ 10 ∷ []) = words_both pre (a_piece (w0 ++ 10 ∷ []) ∷ []) ∙ ap (λ (v : List ℕ). words_of pre ++ v) (append-nil (w0 ++ 10 ∷ [])) in
      let gap_words : words_of gap ≡ words_of front ++ (w2 ++ words_of later) =
      ap words_of e ∙ words_both pre (piece ∷ later) ∙ ap (λ (v : List ℕ). words_of pre ++ (v ++ words_of later)) split ∙ ap (λ (v : List ℕ). words_of pre ++ v) (append_assoc (w0 ++ 10 ∷ []) w2 (words_of later))
      ∙ sym (append_assoc (words_of pre) (w0 ++ 10 ∷ []) (w2 ++ words_of later)) ∙ ap (λ (v : List ℕ). v ++ (w2 ++ words_of later)) (sym front_words) in
      let parts = each_then (w0 ++ 10 ∷ []) w2 (ap (each is_blank) (sym split) ∙ blank) in
      let front_bytes : bytes_of front ≡ bytes_of pre ++ (w0 ++ 10 ∷ []) = ap encode_utf8_all front_words ∙ encodes-append (words_of pre) (w0 ++ 10 ∷ []) ∙ ap (λ (v : List ℕ). bytes_of pre ++ v) (blank_bytes (w0 ++ 10 ∷ []) parts.0) in
      let gap_bytes : bytes_of gap ≡ bytes_of front ++ (w2 ++ bytes_of later) =
      ap encode_utf8_all gap_words ∙ encodes-append (words_of front) (w2 ++ words_of later) ∙ ap (λ (v : List ℕ). bytes_of front ++ v) (encodes-append w2 (words_of later) ∙ ap (λ (v : List ℕ). v ++ bytes_of later) (blank_bytes w2 parts.1)) in
      let at_line = starts_at (st.before ++ bytes_of front) (w2 ++ bytes_of later) (ap (λ (v : List ℕ). st.before ++ v) gap_bytes ∙ sym (append_assoc st.before (bytes_of front) (w2 ++ bytes_of later)))
      (inr (st.before ++ (bytes_of pre ++ w0), ap (λ (v : List ℕ). st.before ++ v) (front_bytes ∙ sym (append_assoc (bytes_of pre) w0 (10 ∷ []))) ∙ sym (append_assoc st.before (bytes_of pre ++ w0) (10 ∷ [])))) bare in
      let inner : InnerEnd (pre ++ piece ∷ []) = inner_before (pre ++ piece ∷ []) later (subst (λ (us : List Piece). InnerEnd us) (e ∙ sym (append_assoc pre (piece ∷ []) later)) whole_gap.inner) in
      broken
      (record {
        front = front;
        words = ((w2 ++ words_of later) ++ words_of (body ++ left), ap words_of is ∙ words_both gap (body ++ left) ∙ ap (λ (v : List ℕ). v ++ words_of (body ++ left)) gap_words ∙ append_assoc (words_of front) (w2 ++ words_of later) (words_of (body ++ left)));
        none = silent_last pre (w0 ++ 10 ∷ []) (silent_before pre (piece ∷ later) (subst (λ (us : List Piece). silent us ≡ true) e none));
        newline = λ h. newline_there pre [] blanks w0;
        inner = inner_on pre w0 w2 inner;
        closed = λ next. last_of pre (a_piece (w0 ++ 10 ∷ [])) next (blank_ends (w0 ++ 10 ∷ []) next (blank_some w0 parts.0));
      })
      (at_line.0 ∙ length-append st.before (bytes_of front) ∙ ap (λ (n : ℕ). n + length (bytes_of front)) st.size ∙ ap (λ (n : ℕ). at + n) (bytes_size front))
    where
      blank_some : (w0 : List ℕ) → each is_blank (w0 ++ 10 ∷ []) ≡ true → is_blanks (w0 ++ 10 ∷ []) ≡ true
      blank_some [] h = h
      blank_some (c ∷ w0) h = h
  begins (inked v y e bare ink) =
      unbroken ((starts_at (st.before ++ (v ++ 10 ∷ [])) y (ap (λ (u : List ℕ). st.before ++ u) e ∙ sym (append_assoc st.before (v ++ 10 ∷ []) y)) (inr (st.before ++ v, sym (append_assoc st.before v (10 ∷ [])))) bare).1 ∙ ink)
  begins (flat bare) = by_stop stop
    where
      zero : (n : ℕ) → n ≡ n + 0
      zero n = omega arith

      no_breaks : breaks ps ≡ true → ⊥
      no_breaks h = clash_true (is_listed (bytes_of gap) 10) (newline_bytes gap gap_scalars (breaks_gap h)) bare

      by_ink : (v : List ℕ) (c : ℕ) → st.before ≡ v ++ c ∷ [] → is_blank c ≡ false → (d : Bool) → is_listed st.before 10 ≡ d → Begin text at (at + pieces_size gap) ps
      by_ink v c e ink true n =
          let l = at_last st.before n in
          let ends : list_all is_blank l.behind ≡ false = ink_last v c l.before l.behind ink (sym e ∙ l.is) in
          unbroken ((starts_at (l.before ++ 10 ∷ []) (l.behind ++ bytes_of gap) (ap (λ (u : List ℕ). u ++ bytes_of gap) (l.is ∙ sym (append_assoc l.before (10 ∷ []) l.behind)) ∙ append_assoc (l.before ++ 10 ∷ []) l.behind (bytes_of gap)) (inr (l.before, refl)) (listed_then l.behind (bytes_of gap) false false l.none bare)).1
          ∙ all_later l.behind (bytes_of gap) ends)
      by_ink v c e ink false n =
          unbroken ((starts_at [] (st.before ++ bytes_of gap) refl (inl refl) (listed_then st.before (bytes_of gap) false false n bare)).1 ∙ all_later st.before (bytes_of gap) (ap (list_all is_blank) e ∙ ends_ink v c ink))

      by_stop : Stop st.before ps → Begin text at (at + pieces_size gap) ps
      by_stop (inl x) = by_ink x.0 x.1 x.2 x.3 (is_listed st.before 10) refl
      by_stop (inr (inl x)) =
          broken (record { front = []; words = (words_of ps, refl); none = refl; newline = λ h. absurd (no_breaks h); inner = tt; closed = λ next. tt })
          ((starts_at st.before (bytes_of gap) refl (inr x) bare).0 ∙ st.size ∙ zero at)
      by_stop (inr (inr h)) = absurd (no_breaks h)

  pub line_begins : Begin text at (at + pieces_size gap) ps
  line_begins = begins (lined gap (token_piece first.0 first.1 ∷ (first.2 ++ left)) (words_of ps) [] none gap_scalars gap_parts)
