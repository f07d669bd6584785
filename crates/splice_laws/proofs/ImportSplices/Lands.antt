-- What is removed with an import: whole lines, where only blanks share them.
use Rattle.std.proofs.Common.{◌≡◌, inl, inr, ℕ, ◌+◌, ◌-◌, ◌≤◌, ◌<◌, Bool, true, false, cond, ◌&&◌, ◌||◌, ◌==◌, List, [], ◌∷◌, ◌++◌, length, take, drop, reverse, None, refl, sym, ap, subst, ◌∙◌, arith, length-append}
use Rattle.std.specs.Str.{all_scalars}
use Rattle.std.specs.List.{list_all}
use Rattle.std.proofs.lemmas.Bool.Decides.{nat_tests}
use Rattle.std.proofs.lemmas.List.{append_assoc, append-nil}
use Rattle.go_tree.specs.declared.tokens.Token.{Token}
use Rattle.go_tree.specs.GoWords.Terminals.{lexemes}
use Rattle.go_tree.specs.GoWords.Tokens.Characters.{is_blank, is_listed}
use Rattle.go_tree.specs.GoWords.Tokens.{tokens_from, pieces_size}
use Rattle.go_tree.specs.GoWords.Tokens.Pieces.{Piece}
use Rattle.go_read.specs.SpellsTypes.{Lexemes}
use Rattle.run_rules.specs.ImportRules.Removed.{span_at, bytes_to_newline, line_start, line_end, begins_line, stands_alone, widened}
use Rattle.splice_laws.specs.Joints.{words_of, PartsTo, InnerEnd}
use Rattle.splice_laws.proofs.Splices.{scalars_parts, take_own}
use Rattle.splice_laws.proofs.ImportSplices.Terms.{breaks}
use Rattle.splice_laws.proofs.ImportSplices.Bytes.{bytes_of, line_ends, text_ends, drop_at, listed_then}
use Rattle.splice_laws.proofs.ImportSplices.Gaps.{at_first, all_later, all_earlier, inked, Landing, lands, landing}
use Rattle.splice_laws.proofs.ImportSplices.Nodes.{State}
use Rattle.splice_laws.proofs.ImportSplices.Steps.{Stop, Step}
use Rattle.splice_laws.proofs.ImportSplices.LineStarts.{clash_true, Front, Begin, unbroken, broken, whole_gap, line_begins}

-- ---- the line on which it ends

data End (text : List ℕ) (tokens : List Token) (e : ℕ) (rest : Lexemes) : Type 0 where
  shared : list_all is_blank (take (line_end text e - e) (drop e text)) ≡ false → End text tokens e rest
  alone : (to : ℕ) (left : List Piece) → line_end text e ≡ to → e ≤ to → (next : State text tokens to false left rest) → Stop next.before left → End text tokens e rest

module _ (text : List ℕ) (tokens : List Token) (e : ℕ) (c : Bool) (left : List Piece) (rest : Lexemes) (st : State text tokens e c left rest) where
  moved : (v : List ℕ) (qs : List Piece) → bytes_of left ≡ v ++ bytes_of qs → words_of left ≡ v ++ words_of qs → tokens_from e None left ≡ tokens_from (e + length v) None qs → PartsTo (words_of qs) qs [] → InnerEnd qs → State text tokens (e + length v) false qs rest
  moved v qs bytes words toks parts inner = record {
    before = st.before ++ v;
    text_is = st.text_is ∙ ap (λ (u : List ℕ). st.before ++ u) bytes ∙ sym (append_assoc st.before v (bytes_of qs));
    size = length-append st.before v ∙ ap (λ (n : ℕ). n + length v) st.size;
    done = st.done;
    tokens_are = st.tokens_are ∙ ap (λ (us : List Token). st.done ++ us) toks;
    past = λ n h us. st.past n (below (length v) n h) us;
    lexed = ap lexemes (sym toks) ∙ st.lexed;
    parts = parts;
    inner = inner;
    scalars = (scalars_parts v (words_of qs) (subst (λ (u : List ℕ). all_scalars u ≡ true) words st.scalars)).1;
    due = λ q. absurd (nope q);
  }
    where
      nope : false ≡ true → ⊥
      nope q = cc

      below : (m n : ℕ) → e + m < n → e < n
      below m n h = omega (arith, h)

  line_ended : Landing e left → End text tokens e rest
  unfolding moved breaks
  line_ended (lands v qs bytes words blank (inl x) toks parts inner) =
      alone (e + length v) qs (text_ends text st.before v e (st.text_is ∙ ap (λ (u : List ℕ). st.before ++ u) (bytes ∙ ap (λ (us : List Piece). v ++ bytes_of us) x.0 ∙ append-nil v)) st.size x.1) (omega arith) (moved v qs bytes words toks parts inner) (inr (inr (ap breaks x.0)))
  line_ended (lands v qs bytes words blank (inr x) toks parts inner) =
      alone (e + length v) qs
      (line_ends text st.before x.0 (bytes_of qs) e (st.text_is ∙ ap (λ (u : List ℕ). st.before ++ u) (bytes ∙ ap (λ (u : List ℕ). u ++ bytes_of qs) x.1 ∙ append_assoc x.0 (10 ∷ []) (bytes_of qs))) st.size x.2 ∙ ap (λ (n : ℕ). e + n) (sym (ap length x.1 ∙ length-append x.0 (10 ∷ []))))
      (omega arith) (moved v qs bytes words toks parts inner) (inr (inl (st.before ++ x.0, ap (λ (u : List ℕ). st.before ++ u) x.1 ∙ sym (append_assoc st.before x.0 (10 ∷ [])))))
  line_ended (inked v d more bytes bare ink) = shared (by (is_listed more 10) refl)
    where
      rest_is : drop e text ≡ v ++ d ∷ more
      rest_is = drop_at text st.before (v ++ d ∷ more) e (st.text_is ∙ ap (λ (u : List ℕ). st.before ++ u) bytes) st.size

      no_ten : (10 == d) ≡ false
      no_ten = by_test (10 == d) refl
        where
          same : (a b : ℕ) → a == b ≡ true → a ≡ b
          same a b q = grind (arith, nat_tests, q)

          by_test : (b : Bool) → (10 == d) ≡ b → b ≡ false
          by_test true q = clash_true (is_blank d) (ap is_blank (sym (same 10 d q))) ink
          by_test false q = refl

      with_ink : (xs : List ℕ) → list_all is_blank (v ++ d ∷ xs) ≡ false
      with_ink xs = all_earlier v (d ∷ xs) (ap (λ (b : Bool). b && list_all is_blank xs) ink)

      less : (n m : ℕ) → e + n - e ≡ n
      less n m = omega arith

      by : (b : Bool) → is_listed more 10 ≡ b → list_all is_blank (take (line_end text e - e) (drop e text)) ≡ false
      by true n =
          let f = at_first more n in
          let whole : v ++ d ∷ more ≡ (v ++ d ∷ f.before) ++ 10 ∷ f.behind = ap (λ (u : List ℕ). v ++ d ∷ u) f.is ∙ sym (append_assoc v (d ∷ f.before) (10 ∷ f.behind)) in
          let flat_front : is_listed (v ++ d ∷ f.before) 10 ≡ false = listed_then v (d ∷ f.before) false false bare (ap (λ (b : Bool). b || is_listed f.before 10) no_ten ∙ f.none) in
          let end_is : line_end text e ≡ e + (length (v ++ d ∷ f.before) + 1) = line_ends text st.before (v ++ d ∷ f.before) f.behind e (st.text_is ∙ ap (λ (u : List ℕ). st.before ++ u) (bytes ∙ whole)) st.size flat_front in
          let taken : take (line_end text e - e) (drop e text) ≡ (v ++ d ∷ f.before) ++ 10 ∷ [] =
          ap (λ (n : ℕ). take (n - e) (drop e text)) end_is ∙ ap (λ (n : ℕ). take n (drop e text)) (less (length (v ++ d ∷ f.before) + 1) 0 ∙ sym (length-append (v ++ d ∷ f.before) (10 ∷ [])))
          ∙ ap (λ (u : List ℕ). take (length ((v ++ d ∷ f.before) ++ 10 ∷ [])) u) (rest_is ∙ whole ∙ sym (append_assoc (v ++ d ∷ f.before) (10 ∷ []) f.behind)) ∙ take_own ((v ++ d ∷ f.before) ++ 10 ∷ []) f.behind in
          ap (list_all is_blank) taken ∙ all_later (v ++ d ∷ f.before) (10 ∷ []) (with_ink f.before)
      by false n =
          let flat_all : is_listed (v ++ d ∷ more) 10 ≡ false = listed_then v (d ∷ more) false false bare (ap (λ (b : Bool). b || is_listed more 10) no_ten ∙ n) in
          let end_is : line_end text e ≡ e + length (v ++ d ∷ more) = text_ends text st.before (v ++ d ∷ more) e (st.text_is ∙ ap (λ (u : List ℕ). st.before ++ u) bytes) st.size flat_all in
          let taken : take (line_end text e - e) (drop e text) ≡ v ++ d ∷ more =
          ap (λ (n : ℕ). take (n - e) (drop e text)) end_is ∙ ap (λ (n : ℕ). take n (drop e text)) (less (length (v ++ d ∷ more)) 0)
          ∙ ap (λ (u : List ℕ). take (length (v ++ d ∷ more)) u) (rest_is ∙ sym (append-nil (v ++ d ∷ more))) ∙ take_own (v ++ d ∷ more) [] in
          ap (list_all is_blank) taken ∙ with_ink more

  line_end_of : End text tokens e rest
  line_end_of = line_ended (landing left e st.parts st.inner)

-- ---- both

pub record Land (text : List ℕ) (tokens : List Token) (at : ℕ) (ps : List Piece) (start stop : ℕ) (rest : Lexemes) (ok : Type 0) : Type 0 where
  pub front : Front text at ps
  pub to : ℕ
  pub left : List Piece
  pub range : widened text (span_at start stop) ≡ span_at (at + pieces_size front.front) to
  pub le : at + pieces_size front.front ≤ to
  pub b3 : Bool
  pub next : State text tokens to b3 left rest
  pub stops : ok → Stop next.before left

pub landed : (text : List ℕ) (tokens : List Token) (at : ℕ) (b : Bool) (ps : List Piece) (ts : Lexemes) (st : State text tokens at b ps ts) → Stop st.before ps → (node : Lexemes) (start : ℕ) (end rest : Lexemes) (ok : Type 0) (may : List ℕ → Type 0)
    → (w : Step text tokens at ps node start end rest ok may) → Land text tokens at ps start (at + (pieces_size w.gap + pieces_size w.body)) rest ok
unfolding whole_gap
landed text tokens at b ps ts st stop node start end rest ok may w =
    by_lines (line_begins text tokens at b ps ts st stop w.gap w.body w.left w.is w.none w.first) (line_end_of text tokens (at + (pieces_size w.gap + pieces_size w.body)) w.b2 w.left rest w.next)
  where
    within : at + pieces_size w.gap ≤ at + (pieces_size w.gap + pieces_size w.body)
    within = omega arith

    range_is : (c : Bool) → stands_alone text (span_at (at + pieces_size w.gap) (at + (pieces_size w.gap + pieces_size w.body))) ≡ c → widened text (span_at start (at + (pieces_size w.gap + pieces_size w.body)))
        ≡ cond c (span_at (line_start text (at + pieces_size w.gap)) (line_end text (at + (pieces_size w.gap + pieces_size w.body)))) (span_at (at + pieces_size w.gap) (at + (pieces_size w.gap + pieces_size w.body)))
    range_is c q =
        ap (λ (n : ℕ). widened text (span_at n (at + (pieces_size w.gap + pieces_size w.body)))) w.start_is
        ∙ ap (λ (c : Bool). cond c (span_at (line_start text (at + pieces_size w.gap)) (line_end text (at + (pieces_size w.gap + pieces_size w.body)))) (span_at (at + pieces_size w.gap) (at + (pieces_size w.gap + pieces_size w.body)))) q

    narrow : stands_alone text (span_at (at + pieces_size w.gap) (at + (pieces_size w.gap + pieces_size w.body))) ≡ false → Land text tokens at ps start (at + (pieces_size w.gap + pieces_size w.body)) rest ok
    narrow q = record {
      front = whole_gap text tokens at b ps ts st stop w.gap w.body w.left w.is w.none w.first;
      to = at + (pieces_size w.gap + pieces_size w.body);
      left = w.left;
      range = range_is false q;
      le = within;
      b3 = w.b2;
      next = w.next;
      stops = w.stops;
    }

    none_and : (a c : Bool) → c ≡ false → a && c ≡ false
    none_and true c q = q
    none_and false c q = refl

    by_lines : Begin text at (at + pieces_size w.gap) ps → End text tokens (at + (pieces_size w.gap + pieces_size w.body)) rest → Land text tokens at ps start (at + (pieces_size w.gap + pieces_size w.body)) rest ok
    by_lines (unbroken q) t = narrow (ap (λ (c : Bool). c && list_all is_blank (take (line_end text (at + (pieces_size w.gap + pieces_size w.body)) - (at + (pieces_size w.gap + pieces_size w.body))) (drop (at + (pieces_size w.gap + pieces_size w.body)) text))) q)
    by_lines (broken f l) (shared q) = narrow (none_and (begins_line text (at + pieces_size w.gap)) (list_all is_blank (take (line_end text (at + (pieces_size w.gap + pieces_size w.body)) - (at + (pieces_size w.gap + pieces_size w.body))) (drop (at + (pieces_size w.gap + pieces_size w.body)) text))) q)
    by_lines (broken f l) (alone to left m le next stop3) = by_whole (stands_alone text (span_at (at + pieces_size w.gap) (at + (pieces_size w.gap + pieces_size w.body)))) refl
      where
        by_whole : (c : Bool) → stands_alone text (span_at (at + pieces_size w.gap) (at + (pieces_size w.gap + pieces_size w.body))) ≡ c → Land text tokens at ps start (at + (pieces_size w.gap + pieces_size w.body)) rest ok
        by_whole false q = narrow q
        by_whole true q = record {
          front = f;
          to = to;
          left = left;
          range = range_is true q ∙ ap (λ (n : ℕ). span_at n (line_end text (at + (pieces_size w.gap + pieces_size w.body)))) l ∙ ap (λ (n : ℕ). span_at (at + pieces_size f.front) n) m;
          le = order (at + pieces_size f.front) (at + (pieces_size w.gap + pieces_size w.body)) to (front_le) le;
          b3 = false;
          next = next;
          stops = λ sure. stop3;
        }
          where
            order : (a b c : ℕ) → a ≤ b → b ≤ c → a ≤ c
            order a b c x y = omega (arith, x, y)

            front_le : at + pieces_size f.front ≤ at + (pieces_size w.gap + pieces_size w.body)
            front_le = under (pieces_size f.front) (line_start text (at + pieces_size w.gap)) (pieces_size w.gap) (pieces_size w.body) l (start_le (at + pieces_size w.gap))
              where
                under : (f n g d : ℕ) → n ≡ at + f → n ≤ at + g → at + f ≤ at + (g + d)
                under f n g d q h = omega (arith, q, h)

                start_le : (n : ℕ) → line_start text n ≤ n
                start_le n = less n (bytes_to_newline (reverse (take n text)))
                  where
                    less : (n m : ℕ) → n - m ≤ n
                    less n m = omega arith
