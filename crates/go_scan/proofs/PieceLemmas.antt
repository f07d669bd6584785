-- The piece at the front of a text is exact.
use Rattle.std.proofs.Common.{◌≡◌, ℕ, ◌+◌, ◌≤◌, Bool, true, false, cond, List, [], ◌∷◌, ◌++◌, length, take, drop, Option, Some, None, refl, sym, ap, subst, ◌∙◌, arith, length-take, one-add}
use Rattle.std.specs.List.{prefix_len}
use Rattle.std.proofs.lemmas.List.{take-append-drop}
use Rattle.go_tree.specs.declared.tokens.TokenKind.TheVariants.{Ident, Keyword}
use Rattle.go_tree.specs.GoWords.Tokens.Characters.{is_letter, is_word, is_blank, each}
use Rattle.go_tree.specs.GoWords.Tokens.Pieces.{PieceKind, blanks, token, keyword_spellings, is_among, is_identifier, may_precede, IsPiece, IsNext}
use Rattle.go_scan.specs.declared.automaton.TheConstants.{START}
use Rattle.go_scan.specs.Automaton.{is_whole, kind_in, longest_from}
use Rattle.go_scan.specs.Pieces.{word_kind, checked, lexeme_checked, lexeme_of, piece_of, Exact}
use Rattle.go_scan.proofs.Derivatives.{and_parts, and_true}
use Rattle.go_scan.proofs.AutomatonLemmas.{run}
use Rattle.go_scan.proofs.LexemeLemmas.{form_runs, runs_form, to_piece}
use Rattle.go_scan.proofs.PieceKinds.{Sort, a_blank, a_letter, a_lexeme, sort_of, never_empty, one_kind, blank_no_letter}
use Rattle.go_scan.proofs.Cuts.{same_front, none_at_end}
use Rattle.go_scan.proofs.Best.{Best, keeps, gives, best}

contrary : {X : Type 0} (b : Bool) → b ≡ true → b ≡ false → X
contrary b p q = absurd cc

-- ---- runs of characters that pass

pub run_each : (p : ℕ → Bool) (text : List ℕ) → each p (take (prefix_len p text) text) ≡ true
run_each p [] = refl
run_each p (c ∷ cs) = by_first (p c) refl (run_each p cs)
  where
    by_first : (b : Bool) → p c ≡ b → each p (take (prefix_len p cs) cs) ≡ true → each p (take (cond b (1 + prefix_len p cs) 0) (c ∷ cs)) ≡ true
    by_first true e ih = rw one-add (and_true (p c) (each p (take (prefix_len p cs) cs)) e ih)
    by_first false e ih = refl

run_most : (p : ℕ → Bool) (q more : List ℕ) → each p q ≡ true → length q ≤ prefix_len p (q ++ more)
run_most p [] more h = omega arith
run_most p (c ∷ cs) more h =
    let parts = and_parts (p c) (each p cs) h in
    let ih = run_most p cs more parts.1 in rw parts.0 (omega (arith, ih))

run_within : (p : ℕ → Bool) (text : List ℕ) → prefix_len p text ≤ length text
run_within p [] = omega arith
run_within p (c ∷ cs) = by_first (p c) (run_within p cs)
  where
    by_first : (b : Bool) → prefix_len p cs ≤ length cs → cond b (1 + prefix_len p cs) 0 ≤ length (c ∷ cs)
    by_first true h = omega arith
    by_first false h = omega arith

-- ---- the longest piece is the next one, where what follows allows it

module _ (text : List ℕ) (kind : PieceKind) (len : ℕ) (within : len ≤ length text) (spelled : IsPiece kind (take len text))
    (most : (k : PieceKind) (front more : List ℕ) → text ≡ front ++ more → IsPiece k front → length front ≤ len) where
  taken : length (take len text) ≡ len
  taken = rw length-take (omega arith)

  parts : text ≡ take len text ++ drop len text
  parts = sym (take-append-drop len text)

  allowed : may_precede kind (take len text) (drop len text) ≡ true → Exact text (Some (kind, len))
  allowed follows =
      let next : IsNext text kind (take len text) (drop len text) = record {
        parts = parts;
        spelled = spelled;
        longest = λ k front more e s. let n = most k front more e s in omega (arith, n, taken);
        follows = follows;
      } in
      (next, within)

  forbidden : may_precede kind (take len text) (drop len text) ≡ false → Exact text None
  forbidden off = λ k word rest next.
      let up = most k word rest next.parts next.spelled in
      let down = next.longest kind (take len text) (drop len text) parts spelled in
      let same = same_front word (take len text) rest (drop len text) (sym next.parts ∙ parts) (omega (arith, up, down, taken)) in
      let kinds = one_kind k kind (take len text) (subst (λ (w : List ℕ). IsPiece k w) same.0 next.spelled) spelled in
      let follows : may_precede kind (take len text) (drop len text) ≡ true =
      subst (λ (j : PieceKind). may_precede j (take len text) (drop len text) ≡ true) kinds
      (subst (λ (r : List ℕ). may_precede k (take len text) r ≡ true) same.1 (subst (λ (w : List ℕ). may_precede k w rest ≡ true) same.0 next.follows)) in
      contrary (may_precede kind (take len text) (drop len text)) follows off

  checked_exact : Exact text (checked kind len text)
  checked_exact = by_test (may_precede kind (take len text) (drop len text)) refl
    where
      by_test : (b : Bool) → may_precede kind (take len text) (drop len text) ≡ b → Exact text (cond b (Some (kind, len)) None)
      by_test true e = allowed e
      by_test false e = forbidden e

-- ---- by the first character

module _ (c : ℕ) (cs : List ℕ) where
  text : List ℕ
  text = c ∷ cs

  -- a piece at the front begins with the first character
  sort_here : (k : PieceKind) (d : ℕ) (front more : List ℕ) → c ∷ cs ≡ (d ∷ front) ++ more → IsPiece k (d ∷ front) → Sort k c front
  sort_here k d front more e s = let same : d ≡ c = cc in sort_of k c front (subst (λ (x : ℕ). IsPiece k (x ∷ front)) same s)

  same_here : (d : ℕ) (front more : List ℕ) → c ∷ cs ≡ (d ∷ front) ++ more → c ∷ cs ≡ (c ∷ front) ++ more
  same_here d front more e = let same : d ≡ c = cc in subst (λ (x : ℕ). c ∷ cs ≡ (x ∷ front) ++ more) same e

  blanks_exact : is_blank c ≡ true → Exact (c ∷ cs) (Some (blanks, prefix_len is_blank (c ∷ cs)))
  blanks_exact b = allowed (c ∷ cs) blanks (prefix_len is_blank (c ∷ cs)) (run_within is_blank (c ∷ cs)) spelled most refl
    where
      spelled : IsPiece blanks (take (prefix_len is_blank (c ∷ cs)) (c ∷ cs))
      spelled = rw (b, one-add) (and_true (is_blank c) (each is_blank (take (prefix_len is_blank cs) cs)) b (run_each is_blank cs))

      most : (k : PieceKind) (front more : List ℕ) → c ∷ cs ≡ front ++ more → IsPiece k front → length front ≤ prefix_len is_blank (c ∷ cs)
      most k [] more e s = absurd (never_empty k s)
      most k (d ∷ front) more e s = by_sort (sort_here k d front more e s)
        where
          by_sort : Sort k c front → length (d ∷ front) ≤ prefix_len is_blank (c ∷ cs)
          by_sort (a_blank _ x y) = let n = run_most is_blank (c ∷ front) more (and_true (is_blank c) (each is_blank front) x y) in
              subst (λ (t : List ℕ). length (d ∷ front) ≤ prefix_len is_blank t) (sym (same_here d front more e)) n
          by_sort (a_letter _ x _) = contrary (is_letter c) x (blank_no_letter c b)
          by_sort (a_lexeme x _ _) = contrary (is_blank c) b x

  word_exact : is_blank c ≡ false → is_letter c ≡ true → Exact (c ∷ cs) (Some (word_kind (take (prefix_len is_word (c ∷ cs)) (c ∷ cs)), prefix_len is_word (c ∷ cs)))
  word_exact b l = by_keyword (is_among keyword_spellings word) refl
    where
      len : ℕ
      len = prefix_len is_word (c ∷ cs)

      word : List ℕ
      word = take len (c ∷ cs)

      first_word : is_word c ≡ true
      first_word = rw l refl

      identifier : is_identifier word ≡ true
      identifier = rw (first_word, one-add) (and_true (is_letter c) (each is_word (take (prefix_len is_word cs) cs)) l (run_each is_word cs))

      most : (k : PieceKind) (front more : List ℕ) → c ∷ cs ≡ front ++ more → IsPiece k front → length front ≤ prefix_len is_word (c ∷ cs)
      most k [] more e s = absurd (never_empty k s)
      most k (d ∷ front) more e s = by_sort (sort_here k d front more e s)
        where
          by_sort : Sort k c front → length (d ∷ front) ≤ prefix_len is_word (c ∷ cs)
          by_sort (a_letter _ x y) = let n = run_most is_word (c ∷ front) more (and_true (is_word c) (each is_word front) first_word y) in
              subst (λ (t : List ℕ). length (d ∷ front) ≤ prefix_len is_word t) (sym (same_here d front more e)) n
          by_sort (a_blank _ x _) = contrary (is_blank c) x b
          by_sort (a_lexeme _ x _) = contrary (is_letter c) l x

      by_keyword : (k : Bool) → is_among keyword_spellings word ≡ k → Exact (c ∷ cs) (Some (cond k (token Keyword) (token Ident), len))
      by_keyword true e = allowed (c ∷ cs) (token Keyword) len (run_within is_word (c ∷ cs)) e most refl
      by_keyword false e = allowed (c ∷ cs) (token Ident) len (run_within is_word (c ∷ cs)) (identifier, e) most refl

  lexeme_exact : is_blank c ≡ false → is_letter c ≡ false → Exact (c ∷ cs) (lexeme_of (c ∷ cs))
  unfolding lexeme_of
  lexeme_exact b l = by_best (longest_from START 0 None (c ∷ cs)) (best START 0 None (c ∷ cs))
    where
      whole : (k : PieceKind) (d : ℕ) (front more : List ℕ) → c ∷ cs ≡ (d ∷ front) ++ more → IsPiece k (d ∷ front) → is_whole (run START (c ∷ front)) ≡ true
      whole k d front more e s = by_sort (sort_here k d front more e s)
        where
          by_sort : Sort k c front → is_whole (run START (c ∷ front)) ≡ true
          by_sort (a_blank _ x _) = contrary (is_blank c) x b
          by_sort (a_letter _ x _) = contrary (is_letter c) x l
          by_sort (a_lexeme _ _ h) = (form_runs k (c ∷ front) h).0

      by_best : (answer : Option (ℕ × ℕ)) → Best START 0 None (c ∷ cs) answer → Exact (c ∷ cs) (lexeme_checked answer (c ∷ cs))
      by_best answer (keeps e none) = subst (λ (a : Option (ℕ × ℕ)). Exact (c ∷ cs) (lexeme_checked a (c ∷ cs))) (sym e) never
        where
          never : (k : PieceKind) (word rest : List ℕ) → IsNext (c ∷ cs) k word rest → ⊥
          never k [] rest next = never_empty k next.spelled
          never k (d ∷ word) rest next = contrary (is_whole (run START (c ∷ word))) (whole k d word rest next.parts next.spelled) (none c word rest (same_here d word rest next.parts))
      by_best answer (gives n small e w most) = subst (λ (a : Option (ℕ × ℕ)). Exact (c ∷ cs) (lexeme_checked a (c ∷ cs))) (sym (e ∙ len_is)) exact
        where
          state : ℕ
          state = run START (take n (c ∷ cs))

          at_len : ℕ → Option (ℕ × ℕ)
          at_len = λ k. Some (state, k)

          len_is : at_len (0 + n) ≡ at_len n
          len_is = ap at_len (omega arith)

          most_pieces : (k : PieceKind) (front more : List ℕ) → c ∷ cs ≡ front ++ more → IsPiece k front → length front ≤ n
          most_pieces k [] more e s = absurd (never_empty k s)
          most_pieces k (d ∷ front) more e s = most c front more (same_here d front more e) (whole k d front more e s)

          exact : Exact (c ∷ cs) (checked (kind_in state) n (c ∷ cs))
          exact = checked_exact (c ∷ cs) (kind_in state) n small (to_piece (kind_in state) (take n (c ∷ cs)) (runs_form (take n (c ∷ cs)) w)) most_pieces

pub piece_exact : (text : List ℕ) → Exact text (piece_of text)
unfolding piece_of
piece_exact [] = none_at_end
piece_exact (c ∷ cs) = by_blank (is_blank c) refl
  where
    by_letter : (b : Bool) → is_letter c ≡ b → is_blank c ≡ false
        → Exact (c ∷ cs) (cond b (Some (word_kind (take (prefix_len is_word (c ∷ cs)) (c ∷ cs)), prefix_len is_word (c ∷ cs))) (lexeme_of (c ∷ cs)))
    by_letter true e x = word_exact c cs x e
    by_letter false e x = lexeme_exact c cs x e

    by_blank : (b : Bool) → is_blank c ≡ b → Exact (c ∷ cs) (cond b (Some (blanks, prefix_len is_blank (c ∷ cs)))
        (cond (is_letter c) (Some (word_kind (take (prefix_len is_word (c ∷ cs)) (c ∷ cs)), prefix_len is_word (c ∷ cs))) (lexeme_of (c ∷ cs))))
    by_blank true e = blanks_exact c cs e
    by_blank false e = by_letter (is_letter c) refl e

pub piece_answers : (text : List ℕ) (answer : Option (PieceKind × ℕ)) → answer ≡ piece_of text → Exact text answer
piece_answers text answer e = subst (λ (a : Option (PieceKind × ℕ)). Exact text a) (sym e) (piece_exact text)
