-- A node and the semicolon behind it, and the parts behind both.
use Rattle.std.proofs.Common.{◌≡◌, inl, inr, ◌⊎◌, ℕ, ◌+◌, ◌≤◌, ◌<◌, Bool, true, false, cond, List, [], ◌∷◌, ◌++◌, length, codes, Some, None, refl, sym, ap, subst, ◌∙◌, arith, length-append}
use Rattle.std.specs.Prelude.{encode_utf8_all}
use Rattle.std.specs.Str.{all_scalars}
use Rattle.std.proofs.lemmas.List.{append_assoc, append-nil}
use Rattle.go_tree.specs.declared.spans.Span.{Span}
use Rattle.go_tree.specs.declared.tokens.Token.{Token}
use Rattle.go_tree.specs.declared.tokens.TokenKind.{TokenKind}
use Rattle.go_tree.specs.declared.tokens.TokenKind.TheVariants.{Operator, Inserted}
use Rattle.go_tree.specs.GoWords.Terminals.{Terminal, lex, semicolon, paren, key_import, str_lit, end_paren, ends_statement, terminal_of, lexemes}
use Rattle.go_tree.specs.GoWords.Tokens.Characters.{is_blank}
use Rattle.go_tree.specs.GoWords.Tokens.{size_of, ends_line, tokens_from, pieces_size}
use Rattle.go_tree.specs.GoWords.Tokens.Pieces.{token, Piece, IsPiece}
use Rattle.go_read.specs.SpellsTypes.{Lexemes}
use Rattle.go_read.specs.SpellsSpans.{start_of}
use Rattle.run_rules.specs.ImportRules.Removed.{through_semicolon}
use Rattle.splice_laws.specs.Joints.{words_of, PartsTo, InnerEnd, LastEnds}
use Rattle.splice_laws.specs.Edited.{terminals}
use Rattle.splice_laws.specs.Imports.{IsEnd}
use Rattle.splice_laws.proofs.AddImports.{words_both, terminals_both}
use Rattle.splice_laws.proofs.ImportLists.{begins_end_paren, is_opening}
use Rattle.splice_laws.proofs.OneToken.{last_of}
use Rattle.splice_laws.proofs.Over.{is_piece}
use Rattle.splice_laws.proofs.Places.{parts_split}
use Rattle.splice_laws.proofs.Splices.{size_pieces, scalars_parts}
use Rattle.splice_laws.proofs.TokenLists.{asks_ends}
use Rattle.splice_laws.proofs.ImportSplices.Terms.{own, own_then, due, due_then, terms, terms_then, silent, silent_on, breaks, breaks_terms}
use Rattle.splice_laws.proofs.ImportSplices.Bytes.{bytes_of, bytes_then, bytes_size}
use Rattle.splice_laws.proofs.ImportSplices.Nexts.{is_semi, opening_ends, opening_token, is_open_word, open_word, word_size}
use Rattle.splice_laws.proofs.ImportSplices.Rights.{Sort, due_sort, word_sort, no_sort, Right, right}
use Rattle.splice_laws.proofs.ImportSplices.Closed.{is_close, closes_next, opens_next, semi_next, before_any}
use Rattle.splice_laws.proofs.ImportSplices.Nodes.{token_piece, State, Node, node}

-- The bytes before an offset end with one that is no blank, or with a newline; or a newline stands before the next
-- token.
abbrev pub Stop : List ℕ → List Piece → Type 0
Stop front ps = ((b : List ℕ) × (c : ℕ) × (front ≡ b ++ c ∷ []) × (is_blank c ≡ false)) ⊎ (((b : List ℕ) × (front ≡ b ++ 10 ∷ [])) ⊎ (breaks ps ≡ true))

-- `node` is what the parts spell before `end`, a semicolon or nothing
pub record Step (text : List ℕ) (tokens : List Token) (at : ℕ) (ps : List Piece) (node : Lexemes) (start : ℕ) (end rest : Lexemes) (ok : Type 0) (may : List ℕ → Type 0) : Type 0 where
  pub gap : List Piece
  pub body : List Piece
  pub left : List Piece
  pub is : ps ≡ gap ++ (body ++ left)
  pub none : silent gap ≡ true
  pub first : (k : TokenKind) × (w : List ℕ) × (h : List Piece) × (body ≡ token_piece k w ∷ h)
  pub start_is : start ≡ at + pieces_size gap
  pub closed : (next : List ℕ) → may next → LastEnds body next
  pub b2 : Bool
  pub shut : b2 ≡ false → ok → (next : List ℕ) → LastEnds body next
  pub own : ok → (qs : List Piece) → (b2 ≡ true → breaks qs ≡ true) → terms false (body ++ qs) ≡ terminals (node ++ end) ++ terms false qs
  pub next : State text tokens (at + (pieces_size gap + pieces_size body)) b2 left rest
  pub stops : ok → Stop next.before left

-- a node that a semicolon may follow, and where that ends
pub record Whole (text : List ℕ) (tokens : List Token) (at : ℕ) (ps : List Piece) (node : Lexemes) (start stop : ℕ) (end rest : Lexemes) (may : List ℕ → Type 0) : Type 0 where
  pub of : Step text tokens at ps node start end rest (end ≡ [] → ⊥) may
  pub through : through_semicolon tokens stop ≡ at + (pieces_size of.gap + pieces_size of.body)

-- ---- a state further on

words_are : (ps : List Piece) (t : List ℕ) → PartsTo t ps [] → t ≡ words_of ps
words_are [] t parts = parts
words_are (p ∷ ps) t parts = parts.1 ∙ ap (λ (v : List ℕ). p.word ++ v) (words_are ps parts.0 parts.3)

pub inner_later : (xs ys : List Piece) → InnerEnd (xs ++ ys) → InnerEnd ys
inner_later [] ys h = h
inner_later (x ∷ []) [] h = tt
inner_later (x ∷ []) (y ∷ ys) h = h.1
inner_later (x ∷ z ∷ xs) ys h = inner_later (z ∷ xs) ys h.1

pub inner_before : (xs ys : List Piece) → InnerEnd (xs ++ ys) → InnerEnd xs
inner_before [] ys h = tt
inner_before (x ∷ []) ys h = tt
inner_before (x ∷ z ∷ xs) ys h = (h.0, inner_before (z ∷ xs) ys h.1)

pub parts_left : (us left : List Piece) → PartsTo (words_of (us ++ left)) (us ++ left) [] → PartsTo (words_of left) left []
parts_left us left parts =
    let s = parts_split us left (words_of (us ++ left)) [] parts in
    subst (λ (t : List ℕ). PartsTo t left []) (words_are left s.0 s.2) s.2

module _ (text : List ℕ) (tokens : List Token) (at : ℕ) (b : Bool) (ps : List Piece) (ts : Lexemes) (st : State text tokens at b ps ts) where
  -- behind some of its parts
  pub further : (us left : List Piece) → ps ≡ us ++ left → (to : ℕ) → at + pieces_size us ≡ to → (done : List Token) → tokens_from at None ps ≡ done ++ tokens_from to None left
      → ((n : ℕ) → to < n → (vs : List Token) → through_semicolon (done ++ vs) n ≡ through_semicolon vs n) → (rest : Lexemes) → lexemes (tokens_from to None left) ≡ rest
      → (c : Bool) → (c ≡ true → breaks left ≡ true) → State text tokens to c left rest
  further us left e to m done whole past rest lexed c q = record {
    before = st.before ++ bytes_of us;
    text_is = st.text_is ∙ ap (λ (qs : List Piece). st.before ++ bytes_of qs) e ∙ ap (λ (v : List ℕ). st.before ++ v) (bytes_then us left) ∙ sym (append_assoc st.before (bytes_of us) (bytes_of left));
    size = length-append st.before (bytes_of us) ∙ ap (λ (n : ℕ). n + length (bytes_of us)) st.size ∙ ap (λ (n : ℕ). at + n) (bytes_size us) ∙ m;
    done = st.done ++ done;
    tokens_are = st.tokens_are ∙ ap (λ (vs : List Token). st.done ++ vs) whole ∙ sym (append_assoc st.done done (tokens_from to None left));
    past = λ n h vs. ap (λ (zs : List Token). through_semicolon zs n) (append_assoc st.done done vs) ∙ st.past n (under (pieces_size us) to n m h) (done ++ vs) ∙ past n h vs;
    lexed = lexed;
    parts = parts_left us left (subst (λ (qs : List Piece). PartsTo (words_of qs) qs []) e st.parts);
    inner = inner_later us left (subst (λ (qs : List Piece). InnerEnd qs) e st.inner);
    scalars = (scalars_parts (words_of us) (words_of left) (subst (λ (v : List ℕ). all_scalars v ≡ true) (ap words_of e ∙ words_both us left) st.scalars)).1;
    due = q;
  }
    where
      under : (m to n : ℕ) → at + m ≡ to → to < n → at < n
      under m to n e h = omega (arith, e, h)

semi_bytes : encode_utf8_all (codes ";") ≡ 59 ∷ []
unfolding lib.Utf8.encode
semi_bytes = refl

open_bytes : encode_utf8_all (codes "(") ≡ 40 ∷ []
unfolding lib.Utf8.encode
open_bytes = refl

semi_own : (own false (record { kind = token Operator; word = codes ";" } ∷ []) ≡ semicolon ∷ []) × (due false (record { kind = token Operator; word = codes ";" } ∷ []) ≡ false) × (own true (record { kind = token Operator; word = codes ";" } ∷ []) ≡ semicolon ∷ []) × (due true (record { kind = token Operator; word = codes ";" } ∷ []) ≡ false)
unfolding own due lib.Utf8.encode
semi_own = (refl, refl, refl, refl)

not_semi : (x : Terminal) → is_close x ≡ true → (is_semi x ≡ false) × (ends_statement x ≡ true)
not_semi (str_lit _) h = (refl, refl)
not_semi end_paren h = (refl, refl)
not_semi _ h = absurd cc

-- ---- a node and its semicolon

module _ (text : List ℕ) (tokens : List Token) (at : ℕ) (b : Bool) (ps : List Piece) (n0 : Lexemes) (s : Span) (x : Terminal) (end rest : Lexemes) (st : State text tokens at b ps (n0 ++ lex s x ∷ (end ++ rest))) where
  -- the step, and that it has the parts of the node, and then more
  abbrev With : Node at ps n0 s x (end ++ rest) → (List ℕ → Type 0) → Type 0
  With n may = (w : Whole text tokens at ps (n0 ++ lex s x ∷ []) (start_of (n0 ++ lex s x ∷ (end ++ rest))) s.end end rest may) × (more : List Piece) × (w.of.gap ≡ n.gap) × (w.of.body ≡ n.core ++ more)

  module _ (facts : (is_semi x ≡ false) × (ends_statement x ≡ true)) (n : Node at ps n0 s x (end ++ rest)) (may : List ℕ → Type 0) (core_ends : (next : List ℕ) → may next → LastEnds n.core next) (e : ℕ) (place : at + (pieces_size n.gap + pieces_size n.core) ≡ e) where
    line : ends_line n.kind n.word ≡ true
    line = asks_ends n.kind n.word (ap ends_statement n.x_is ∙ facts.1)

    whole : tokens_from at None ps ≡ n.done ++ tokens_from e (Some e) n.behind
    whole = n.whole ∙ ap (λ (c : Bool). n.done ++ tokens_from (at + (pieces_size n.gap + pieces_size n.core)) (cond c (Some (at + (pieces_size n.gap + pieces_size n.core))) None) n.behind) line ∙ ap (λ (k : ℕ). n.done ++ tokens_from k (Some k) n.behind) place

    back : lexemes (tokens_from e (Some e) n.behind) ≡ end ++ rest
    back = ap (λ (k : ℕ). lexemes (tokens_from k (Some k) n.behind)) (sym place) ∙ ap (λ (c : Bool). lexemes (tokens_from (at + (pieces_size n.gap + pieces_size n.core)) (cond c (Some (at + (pieces_size n.gap + pieces_size n.core))) None) n.behind)) (sym line) ∙ n.back

    split : ps ≡ (n.gap ++ n.core) ++ n.behind
    split = n.is ∙ sym (append_assoc n.gap n.core n.behind)

    tail : (more : List ℕ) × (words_of ps ≡ words_of (n.gap ++ n.core) ++ more) × PartsTo more n.behind []
    tail = parts_split (n.gap ++ n.core) n.behind (words_of ps) [] (subst (λ (qs : List Piece). PartsTo (words_of ps) qs []) split st.parts)

    filled : 0 < pieces_size n.core
    filled = positive (pieces_size n.last.0) (size_of n.word) (pieces_size n.core) (ap pieces_size n.last.1 ∙ size_pieces n.last.0 (token_piece n.kind n.word ∷ [])) (word_size n.word (token n.kind) n.piece)
      where
        positive : (h w c : ℕ) → c ≡ h + (w + 0) → 0 < w → 0 < c
        positive h w c e p = omega (arith, e, p)

    past : (us : List Token) → through_semicolon ((st.done ++ n.done) ++ us) e ≡ through_semicolon us e
    past us =
        ap (λ (zs : List Token). through_semicolon zs e) (append_assoc st.done n.done us) ∙ st.past e (under (pieces_size n.gap) (pieces_size n.core) filled place) (n.done ++ us)
        ∙ n.past e (subst (λ (k : ℕ). k ≤ e) (sym place) (own_le e)) us
      where
        own_le : (k : ℕ) → k ≤ k
        own_le k = omega arith

        under : (g c : ℕ) → 0 < c → at + (g + c) ≡ e → at < e
        under g c p q = omega (arith, p, q)

    behind : IsEnd end → (end ≡ [] → begins_end_paren rest ≡ true) → Right tokens e n.behind end rest
    behind is_end ends = right tokens (st.done ++ n.done) e n.behind tail.0 tail.2 (st.tokens_are ∙ ap (λ (vs : List Token). st.done ++ vs) whole ∙ sym (append_assoc st.done n.done (tokens_from e (Some e) n.behind))) past end rest back is_end ends

    own_core : (qs : List Piece) → terms false (n.core ++ qs) ≡ terminals (n0 ++ lex s x ∷ []) ++ terms true qs
    own_core qs = terms_then n.core qs false ∙ ap (λ (ts : List Terminal). ts ++ terms (due false n.core) qs) n.own_is ∙ ap (λ (c : Bool). terminals (n0 ++ lex s x ∷ []) ++ terms c qs) (n.due_is ∙ line)

    join : (z : Span) → end ≡ lex z semicolon ∷ [] → (ts : List Terminal) → terminals (n0 ++ lex s x ∷ []) ++ (semicolon ∷ ts) ≡ terminals ((n0 ++ lex s x ∷ []) ++ end) ++ ts
    join z ez ts = sym (append_assoc (terminals (n0 ++ lex s x ∷ [])) (semicolon ∷ []) ts) ∙ ap (λ (us : List Terminal). us ++ ts) (ap (λ (vs : Lexemes). terminals (n0 ++ lex s x ∷ []) ++ terminals vs) (sym ez) ∙ sym (terminals_both (n0 ++ lex s x ∷ []) end))

    module _ (r : Right tokens e n.behind end rest) where
      to_is : e + pieces_size r.more ≡ at + (pieces_size n.gap + pieces_size (n.core ++ r.more))
      to_is = sums (pieces_size n.gap) (pieces_size n.core) (pieces_size r.more) (pieces_size (n.core ++ r.more)) (size_pieces n.core r.more) place
        where
          sums : (g c m k : ℕ) → k ≡ c + m → at + (g + c) ≡ e → e + m ≡ at + (g + k)
          sums g c m k q p = omega (arith, q, p)

      is : ps ≡ n.gap ++ ((n.core ++ r.more) ++ r.left)
      is = n.is ∙ ap (λ (us : List Piece). n.gap ++ (n.core ++ us)) r.is ∙ ap (λ (us : List Piece). n.gap ++ us) (sym (append_assoc n.core r.more r.left))

      next : (c : Bool) → (c ≡ true → breaks r.left ≡ true) → State text tokens (at + (pieces_size n.gap + pieces_size (n.core ++ r.more))) c r.left rest
      next c q =
          further text tokens at b ps (n0 ++ lex s x ∷ (end ++ rest)) st (n.gap ++ (n.core ++ r.more)) r.left (is ∙ sym (append_assoc n.gap (n.core ++ r.more) r.left)) (at + (pieces_size n.gap + pieces_size (n.core ++ r.more)))
          (ap (λ (k : ℕ). at + k) (size_pieces n.gap (n.core ++ r.more))) (n.done ++ r.skipped)
          (whole ∙ ap (λ (vs : List Token). n.done ++ vs) r.skipped_is ∙ sym (append_assoc n.done r.skipped (tokens_from (e + pieces_size r.more) None r.left)) ∙ ap (λ (k : ℕ). (n.done ++ r.skipped) ++ tokens_from k None r.left) to_is)
          (λ k h vs. ap (λ (zs : List Token). through_semicolon zs k) (append_assoc n.done r.skipped vs) ∙ n.past k (below (pieces_size n.gap) (pieces_size n.core) (pieces_size r.more) (pieces_size (n.core ++ r.more)) k (size_pieces n.core r.more) h) (r.skipped ++ vs)
          ∙ r.past k (subst (λ (j : ℕ). j < k) (sym to_is) h) vs)
          rest (ap (λ (k : ℕ). lexemes (tokens_from k None r.left)) (sym to_is) ∙ r.left_is) c q
        where
          below : (g c m w k : ℕ) → w ≡ c + m → at + (g + w) < k → at + (g + c) ≤ k
          below g c m w k q h = omega (arith, q, h)

      first : (k : TokenKind) × (w : List ℕ) × (h : List Piece) × (n.core ++ r.more ≡ token_piece k w ∷ h)
      first = (n.first.0, n.first.1, n.first.2 ++ r.more, ap (λ (us : List Piece). us ++ r.more) n.first.3)

      whole_of : (bb : Bool) → (bb ≡ true → breaks r.left ≡ true) → ((next : List ℕ) → may next → LastEnds (n.core ++ r.more) next)
          → ((end ≡ [] → ⊥) → (qs : List Piece) → (bb ≡ true → breaks qs ≡ true) → terms false ((n.core ++ r.more) ++ qs) ≡ terminals ((n0 ++ lex s x ∷ []) ++ end) ++ terms false qs)
          → ((end ≡ [] → ⊥) → Stop (st.before ++ bytes_of (n.gap ++ (n.core ++ r.more))) r.left) → (bb ≡ false → (end ≡ [] → ⊥) → (next : List ℕ) → LastEnds (n.core ++ r.more) next)
          → With n may
      unfolding next further
      whole_of bb q closed owns stops shut = (
        record {
          of = record {
            gap = n.gap;
            body = n.core ++ r.more;
            left = r.left;
            is = is;
            none = n.none;
            first = first;
            start_is = n.start_is;
            closed = closed;
            b2 = bb;
            shut = shut;
            own = owns;
            next = next bb q;
            stops = stops;
          };
          through = ap (through_semicolon tokens) (n.end_is ∙ place) ∙ r.through ∙ to_is;
        },
        r.more,
        refl,
        refl,
      )

      core_alone : r.more ≡ [] → n.core ++ r.more ≡ n.core
      core_alone m = ap (λ (us : List Piece). n.core ++ us) m ∙ append-nil n.core

      by_sort : Sort r.more r.left end → With n may
      by_sort (due_sort m k z ez) =
          whole_of true (λ q. k) (λ next ok. subst (λ (us : List Piece). LastEnds us next) (sym (core_alone m)) (core_ends next ok))
          (λ ok qs q. ap (λ (us : List Piece). terms false (us ++ qs)) (core_alone m) ∙ own_core qs ∙ ap (λ (ts : List Terminal). terminals (n0 ++ lex s x ∷ []) ++ ts) (breaks_terms qs (q refl)) ∙ join z ez (terms false qs))
          (λ ok. inr (inr k)) (λ q. absurd (true_false q))
        where
          true_false : true ≡ false → ⊥
          true_false e = cc
      by_sort (word_sort g m silent_g flat z ez) =
          let semi : List Piece = record { kind = token Operator; word = codes ";" } ∷ [] in
          let list : n.core ++ r.more ≡ (n.core ++ g) ++ semi = ap (λ (us : List Piece). n.core ++ us) m ∙ sym (append_assoc n.core g semi) in
          let on = silent_on g true silent_g flat in
          let body_own : own false (n.core ++ r.more) ≡ terminals (n0 ++ lex s x ∷ []) ++ semicolon ∷ [] =
          ap (own false) (ap (λ (us : List Piece). n.core ++ us) m) ∙ own_then n.core (g ++ semi) false ∙ ap (λ (ts : List Terminal). ts ++ own (due false n.core) (g ++ semi)) n.own_is
          ∙ ap (λ (c : Bool). terminals (n0 ++ lex s x ∷ []) ++ own c (g ++ semi)) (n.due_is ∙ line)
          ∙ ap (λ (ts : List Terminal). terminals (n0 ++ lex s x ∷ []) ++ ts) (own_then g semi true ∙ ap (λ (ts : List Terminal). ts ++ own (due true g) semi) on.0 ∙ ap (λ (c : Bool). own c semi) on.1 ∙ semi_own.2) in
          let body_due : due false (n.core ++ r.more) ≡ false =
          ap (due false) (ap (λ (us : List Piece). n.core ++ us) m) ∙ due_then n.core (g ++ semi) false ∙ ap (λ (c : Bool). due c (g ++ semi)) (n.due_is ∙ line) ∙ due_then g semi true ∙ ap (λ (c : Bool). due c semi) on.1 ∙ semi_own.3 in
          let s2 = parts_split (n.core ++ g) (record { kind = token Operator; word = codes ";" } ∷ r.left) tail2.0 [] (subst (λ (us : List Piece). PartsTo tail2.0 us []) (ap (λ (us : List Piece). us ++ r.left) list ∙ append_assoc (n.core ++ g) semi r.left) tail2.2) in
          let ends : (next : List ℕ) → LastEnds (n.core ++ r.more) next = (λ next. subst (λ (us : List Piece). LastEnds us next) (sym list) (last_of (n.core ++ g) (record { kind = token Operator; word = codes ";" }) next
          (before_any (record { kind = token Operator; word = codes ";" }) Operator refl (λ more. semi_next more (is_piece (token Operator) (codes ";") s2.2.0 s2.2.2)) next))) in
          whole_of false (λ q. absurd (nope q))
          (λ next ok. ends next)
          (λ ok qs q. terms_then (n.core ++ r.more) qs false ∙ ap (λ (ts : List Terminal). ts ++ terms (due false (n.core ++ r.more)) qs) body_own ∙ ap (λ (c : Bool). (terminals (n0 ++ lex s x ∷ []) ++ semicolon ∷ []) ++ terms c qs) body_due
          ∙ append_assoc (terminals (n0 ++ lex s x ∷ [])) (semicolon ∷ []) (terms false qs) ∙ join z ez (terms false qs))
          (λ ok. inl (
            st.before ++ bytes_of (n.gap ++ (n.core ++ g)),
            59,
            ap (λ (us : List Piece). st.before ++ bytes_of us) (ap (λ (us : List Piece). n.gap ++ us) list ∙ sym (append_assoc n.gap (n.core ++ g) semi)) ∙ ap (λ (v : List ℕ). st.before ++ v) (bytes_then (n.gap ++ (n.core ++ g)) semi ∙ ap (λ (v : List ℕ). bytes_of (n.gap ++ (n.core ++ g)) ++ v) semi_bytes)
                ∙ sym (append_assoc st.before (bytes_of (n.gap ++ (n.core ++ g))) (59 ∷ [])),
            refl,
          ))
          (λ q ok next. ends next)
        where
          nope : false ≡ true → ⊥
          nope e = cc

          tail2 : (more : List ℕ) × (words_of ps ≡ words_of n.gap ++ more) × PartsTo more ((n.core ++ r.more) ++ r.left) []
          tail2 = parts_split n.gap ((n.core ++ r.more) ++ r.left) (words_of ps) [] (subst (λ (qs : List Piece). PartsTo (words_of ps) qs []) is st.parts)
      by_sort (no_sort m ez) =
          whole_of false (λ q. absurd (nope q)) (λ next ok. subst (λ (us : List Piece). LastEnds us next) (sym (core_alone m)) (core_ends next ok)) (λ ok. absurd (ok ez)) (λ ok. absurd (ok ez)) (λ q ok. absurd (ok ez))
        where
          nope : false ≡ true → ⊥
          nope e = cc

  pub step_with : (is_semi x ≡ false) × (ends_statement x ≡ true) → (n : Node at ps n0 s x (end ++ rest)) (may : List ℕ → Type 0) → ((next : List ℕ) → may next → LastEnds n.core next) → IsEnd end → (end ≡ [] → begins_end_paren rest ≡ true) → With n may
  step_with facts n may core_ends is_end ends =
      let e : ℕ = at + (pieces_size n.gap + pieces_size n.core) in
      let r = behind facts n may core_ends e refl is_end ends in
      by_sort facts n may core_ends e refl r r.sort

  pub step_by : (is_semi x ≡ false) × (ends_statement x ≡ true) → (n : Node at ps n0 s x (end ++ rest)) (may : List ℕ → Type 0) → ((next : List ℕ) → may next → LastEnds n.core next) → IsEnd end → (end ≡ [] → begins_end_paren rest ≡ true)
      → Whole text tokens at ps (n0 ++ lex s x ∷ []) (start_of (n0 ++ lex s x ∷ (end ++ rest))) s.end end rest may
  step_by facts n may core_ends is_end ends = (step_with facts n may core_ends is_end ends).0

  pub step : is_close x ≡ true → IsEnd end → (end ≡ [] → begins_end_paren rest ≡ true) → Whole text tokens at ps (n0 ++ lex s x ∷ []) (start_of (n0 ++ lex s x ∷ (end ++ rest))) s.end end rest (λ next. Unit {0})
  step closing is_end ends =
      let n = node text tokens at b ps n0 s x (end ++ rest) st (not_semi x closing).0 in
      step_by (not_semi x closing) n (λ next. Unit {0})
      (λ next ok. subst (λ (us : List Piece). LastEnds us next) (sym n.last.1)
      (last_of n.last.0 (token_piece n.kind n.word) next (before_any (token_piece n.kind n.word) n.kind refl (λ more. closes_next n.kind n.word more n.piece (ap is_close n.x_is ∙ closing)) next)))
      is_end ends

-- ---- `import` and a parenthesis

module _ (text : List ℕ) (tokens : List Token) (at : ℕ) (b : Bool) (ps : List Piece) (s o : Span) (rest : Lexemes) (st : State text tokens at b ps (lex s key_import ∷ lex o paren ∷ rest)) where
  opened : Node at ps (lex s key_import ∷ []) o paren rest → Step text tokens at ps (lex s key_import ∷ lex o paren ∷ []) s.start [] rest (Unit {0}) (λ next. Unit {0})
  unfolding further
  opened n =
      let not_inserted : n.kind ≡ Inserted → ⊥ = (λ q. absurd (subst (λ (k : TokenKind). IsPiece (token k) n.word) q n.piece)) in
      let opens : is_opening (terminal_of n.kind (encode_utf8_all n.word)) ≡ true = ap is_opening n.x_is in
      let line : ends_line n.kind n.word ≡ false = opening_ends n.kind n.word not_inserted opens in
      let e : ℕ = at + (pieces_size n.gap + pieces_size n.core) in
      let whole : tokens_from at None ps ≡ n.done ++ tokens_from e None n.behind = n.whole ∙ ap (λ (c : Bool). n.done ++ tokens_from e (cond c (Some e) None) n.behind) line in
      let back : lexemes (tokens_from e None n.behind) ≡ rest = ap (λ (c : Bool). lexemes (tokens_from e (cond c (Some e) None) n.behind)) (sym line) ∙ n.back in
      record {
        gap = n.gap;
        body = n.core;
        left = n.behind;
        is = n.is;
        none = n.none;
        first = n.first;
        start_is = n.start_is;
        closed = λ next ok. subst (λ (us : List Piece). LastEnds us next) (sym n.last.1)
            (last_of n.last.0 (token_piece n.kind n.word) next (before_any (token_piece n.kind n.word) n.kind refl (λ more. opens_next n.kind n.word more not_inserted n.piece opens) next));
        b2 = false;
        shut = λ q ok next. subst (λ (us : List Piece). LastEnds us next) (sym n.last.1)
            (last_of n.last.0 (token_piece n.kind n.word) next (before_any (token_piece n.kind n.word) n.kind refl (λ more. opens_next n.kind n.word more not_inserted n.piece opens) next));
        own = λ ok qs q. terms_then n.core qs false ∙ ap (λ (ts : List Terminal). ts ++ terms (due false n.core) qs) n.own_is ∙ ap (λ (c : Bool). key_import ∷ paren ∷ terms c qs) (n.due_is ∙ line);
        next = further text tokens at b ps (lex s key_import ∷ lex o paren ∷ rest) st (n.gap ++ n.core) n.behind (n.is ∙ sym (append_assoc n.gap n.core n.behind)) e (ap (λ (k : ℕ). at + k) (size_pieces n.gap n.core)) n.done whole
            (λ k h vs. n.past k (below e k h) vs) rest back false (λ q. absurd (nope q));
        stops = λ ok. inl (inked n (ink (opening_token n.kind (encode_utf8_all n.word) not_inserted opens).1));
      }
    where
      nope : false ≡ true → ⊥
      nope e = cc

      below : (e k : ℕ) → e < k → e ≤ k
      below e k h = omega (arith, h)

      ink : is_open_word (encode_utf8_all n.word) ≡ true → (c : ℕ) × (encode_utf8_all n.word ≡ c ∷ []) × (is_blank c ≡ false)
      ink h = by (open_word n.word h)
        where
          by : (n.word ≡ codes ";") ⊎ (n.word ≡ codes "(") → (c : ℕ) × (encode_utf8_all n.word ≡ c ∷ []) × (is_blank c ≡ false)
          by (inl q) = (59, ap encode_utf8_all q ∙ semi_bytes, refl)
          by (inr q) = (40, ap encode_utf8_all q ∙ open_bytes, refl)

      inked : (n : Node at ps (lex s key_import ∷ []) o paren rest) → (c : ℕ) × (encode_utf8_all n.word ≡ c ∷ []) × (is_blank c ≡ false) → (v : List ℕ) × (c : ℕ) × (st.before ++ bytes_of (n.gap ++ n.core) ≡ v ++ c ∷ []) × (is_blank c ≡ false)
      inked n c =
          let one : bytes_of (token_piece n.kind n.word ∷ []) ≡ c.0 ∷ [] = ap encode_utf8_all (append-nil n.word) ∙ c.1 in (
            st.before ++ bytes_of (n.gap ++ n.last.0),
            c.0,
            ap (λ (us : List Piece). st.before ++ bytes_of us) (ap (λ (us : List Piece). n.gap ++ us) n.last.1 ∙ sym (append_assoc n.gap n.last.0 (token_piece n.kind n.word ∷ [])))
                ∙ ap (λ (v : List ℕ). st.before ++ v) (bytes_then (n.gap ++ n.last.0) (token_piece n.kind n.word ∷ []) ∙ ap (λ (v : List ℕ). bytes_of (n.gap ++ n.last.0) ++ v) one) ∙ sym (append_assoc st.before (bytes_of (n.gap ++ n.last.0)) (c.0 ∷ [])),
            c.2,
          )

  pub opening : Step text tokens at ps (lex s key_import ∷ lex o paren ∷ []) s.start [] rest (Unit {0}) (λ next. Unit {0})
  opening = opened (node text tokens at b ps (lex s key_import ∷ []) o paren rest st refl)
