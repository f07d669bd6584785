-- A scan as far as it has come.
use Rattle.std.proofs.Common.{◌≡◌, ◌≢◌, ℕ, zero, suc, ◌+◌, ◌-◌, ◌<◌, ◌≤◌, Bool, true, false, cond, ◌==◌, List, [], ◌∷◌, ◌++◌, map, length, take, drop, chars, Option, Some, None, refl, sym, ap, subst, ◌∙◌, arith, append_assoc, length-append, length-take-le, length-drop, zero-add, suc-add, encode_utf8, encode_utf8_all, IsUtf8}
use Rattle.std.specs.Str.{all_scalars, IsCharBoundary}
use Rattle.std.proofs.lemmas.Str.{encodes-append, length-encode, len_utf8_bounds, encodes-chars, scalars-chars, chars-nil}
use Rattle.go_tree.specs.declared.tokens.Token.{Token}
use Rattle.go_tree.specs.declared.tokens.Comment.{Comment}
use Rattle.go_tree.specs.declared.go_words.terminals.Terminal.{Terminal}
use Rattle.go_tree.specs.GoWords.Codes.{terminal_at}
use Rattle.go_tree.specs.GoWords.Tokens.Characters.{byte_order_mark}
use Rattle.go_tree.specs.GoWords.Tokens.{TokensOf, StopsAt, tokens_at, tokens_from, comments_at, comments_from, due_after, inserted, after_mark, mark_size, pieces_size, size_of}
use Rattle.go_tree.specs.GoWords.Tokens.Pieces.{PieceKind, Piece, IsPiece, IsNext, CutsTo}
use Rattle.go_scan.specs.Pieces.{Exact}
use Rattle.go_scan.specs.Sizes.{ExactSize}
use Rattle.go_scan.proofs.Cuts.{cut_on}
use Rattle.go_scan.proofs.PieceKinds.{never_empty}
use Rattle.go_scan.proofs.SizeLemmas.{cut_boundary, cut_front, cut_back, cut_back_utf8, cut_within}

-- What has been read up to the byte `at`, and what is left.
pub record ScannedTo (text characters : List ℕ) (at : ℕ) (due : Option ℕ) (tokens : List Token) (comments : List Comment) (rest : List ℕ) : Type 0 where
  pub pieces : List Piece
  pub cut : CutsTo (after_mark characters) pieces rest
  pub place : at ≡ mark_size characters + pieces_size pieces
  pub tokens_on : (more : List Piece) → tokens_from (mark_size characters) None (pieces ++ more) ≡ tokens ++ tokens_from at due more
  pub comments_on : (more : List Piece) → comments_from (mark_size characters) (pieces ++ more) ≡ comments ++ comments_from at more
  pub within : at ≤ length text
  pub left : drop at text ≡ encode_utf8_all rest

append_nil : {A : Type 0} (xs : List A) → xs ++ [] ≡ xs
append_nil [] = refl
append_nil {A} (x ∷ xs) = ap (λ (ys : List A). x ∷ ys) (append_nil xs)

append_last : {A : Type 0} (xs : List A) (y : A) (zs : List A) → (xs ++ y ∷ []) ++ zs ≡ xs ++ y ∷ zs
append_last xs y zs = append_assoc xs (y ∷ []) zs

drop_front : (n : ℕ) (front back text : List ℕ) → n ≤ length text → drop n text ≡ front ++ back → drop (n + length front) text ≡ back
drop_front zero front back text small e = subst (λ (t : List ℕ). drop (zero + length front) t ≡ back) (sym e) (rw zero-add (drop_own front))
  where
    drop_own : (xs : List ℕ) → drop (length xs) (xs ++ back) ≡ back
    drop_own [] = refl
    drop_own (x ∷ xs) = drop_own xs
drop_front (suc n) front back [] small e = absurd (omega (arith, small))
drop_front (suc n) front back (t ∷ text) small e = rw suc-add (drop_front n front back text (omega (arith, small)) e)

length_dropped : (n : ℕ) (text : List ℕ) → n ≤ length text → n + length (drop n text) ≡ length text
length_dropped zero text small = omega arith
length_dropped (suc n) [] small = absurd (omega (arith, small))
length_dropped (suc n) (t ∷ text) small = let ih = length_dropped n text (omega (arith, small)) in omega (arith, ih)

-- ---- the start

marked_size : (c : ℕ) (cs : List ℕ) (b : Bool) → (c == byte_order_mark) ≡ b → length (encode_utf8_all (cond b (c ∷ []) [])) ≡ mark_size (c ∷ cs)
marked_size c cs true e = rw e refl
marked_size c cs false e = rw e refl

marked_rest : (c : ℕ) (cs : List ℕ) (b : Bool) → (c == byte_order_mark) ≡ b → c ∷ cs ≡ cond b (c ∷ []) [] ++ after_mark (c ∷ cs)
marked_rest c cs true e = rw e refl
marked_rest c cs false e = rw e refl

-- the characters before the first piece
before : List ℕ → List ℕ
before [] = []
before (c ∷ cs) = cond (c == byte_order_mark) (c ∷ []) []

before_size : (cs : List ℕ) → length (encode_utf8_all (before cs)) ≡ mark_size cs
unfolding before
before_size [] = refl
before_size (c ∷ cs) = marked_size c cs (c == byte_order_mark) refl

before_rest : (cs : List ℕ) → cs ≡ before cs ++ after_mark cs
unfolding before
before_rest [] = refl
before_rest (c ∷ cs) = marked_rest c cs (c == byte_order_mark) refl

-- the mark's bytes and those after it are the text's
pub marked_total : (cs : List ℕ) → mark_size cs + size_of (after_mark cs) ≡ size_of cs
marked_total cs =
    let parts = ap encode_utf8_all (before_rest cs) ∙ encodes-append (before cs) (after_mark cs) in
    let sizes = ap length parts ∙ length-append (encode_utf8_all (before cs)) (encode_utf8_all (after_mark cs)) in
    omega (arith, sizes, before_size cs)

pub scanned_start : (text characters : List ℕ) → encode_utf8_all characters ≡ text → ScannedTo text characters (mark_size characters) None [] [] (after_mark characters)
scanned_start text characters encoded = record {
  pieces = [];
  cut = refl;
  place = omega arith;
  tokens_on = λ more. refl;
  comments_on = λ more. refl;
  within = omega (arith, sizes, before_size characters);
  left = subst (λ (n : ℕ). drop n text ≡ encode_utf8_all (after_mark characters)) (zero-add (length (encode_utf8_all (before characters))) ∙ before_size characters)
      (drop_front 0 (encode_utf8_all (before characters)) (encode_utf8_all (after_mark characters)) text (omega arith) parts);
}
  where
    parts : text ≡ encode_utf8_all (before characters) ++ encode_utf8_all (after_mark characters)
    parts = sym encoded ∙ ap encode_utf8_all (before_rest characters) ∙ encodes-append (before characters) (after_mark characters)

    sizes : length text ≡ length (encode_utf8_all (before characters)) + length (encode_utf8_all (after_mark characters))
    sizes = ap length parts ∙ length-append (encode_utf8_all (before characters)) (encode_utf8_all (after_mark characters))

-- ---- one more piece

module _ (text characters : List ℕ) (at : ℕ) (due : Option ℕ) (tokens : List Token) (comments : List Comment) (rest : List ℕ)
    (so_far : ScannedTo text characters at due tokens comments rest) (kind : PieceKind) (word more : List ℕ) (next : IsNext rest kind word more) where
  spelled : drop at text ≡ encode_utf8_all word ++ encode_utf8_all more
  spelled = so_far.left ∙ ap encode_utf8_all next.parts ∙ encodes-append word more

  -- the piece's bytes lie within the text
  pub word_within : at + size_of word ≤ length text
  word_within =
      let all = length_dropped at text so_far.within in
      let parts = ap length spelled ∙ length-append (encode_utf8_all word) (encode_utf8_all more) in
      omega (arith, all, parts)

  piece : Piece
  piece = record { kind = kind; word = word }

  size_on : (ps : List Piece) → pieces_size (ps ++ piece ∷ []) ≡ pieces_size ps + size_of word
  unfolding piece
  size_on [] = omega arith
  size_on (p ∷ ps) = let ih = size_on ps in omega (arith, ih)

  pub scanned_step : (later : Option ℕ) (tokens_now : List Token) (comments_now : List Comment) → later ≡ due_after at due kind word → tokens_now ≡ tokens ++ tokens_at at due kind word
      → comments_now ≡ comments ++ comments_at at kind word → ScannedTo text characters (at + size_of word) later tokens_now comments_now more
  unfolding piece tokens_from comments_from
  scanned_step later tokens_now comments_now d t c = record {
    pieces = so_far.pieces ++ piece ∷ [];
    cut = cut_on so_far.pieces piece (after_mark characters) rest more so_far.cut next;
    place = let sizes = size_on so_far.pieces in let place = so_far.place in omega (arith, sizes, place);
    tokens_on = λ others. ap (λ (ps : List Piece). tokens_from (mark_size characters) None ps) (append_last so_far.pieces piece others)
        ∙ so_far.tokens_on (piece ∷ others)
        ∙ sym (append_assoc tokens (tokens_at at due kind word) (tokens_from (at + size_of word) (due_after at due kind word) others))
        ∙ ap (λ (ts : List Token). ts ++ tokens_from (at + size_of word) (due_after at due kind word) others) (sym t)
        ∙ ap (λ (o : Option ℕ). tokens_now ++ tokens_from (at + size_of word) o others) (sym d);
    comments_on = λ others. ap (λ (ps : List Piece). comments_from (mark_size characters) ps) (append_last so_far.pieces piece others)
        ∙ so_far.comments_on (piece ∷ others)
        ∙ sym (append_assoc comments (comments_at at kind word) (comments_from (at + size_of word) others))
        ∙ ap (λ (cs : List Comment). cs ++ comments_from (at + size_of word) others) (sym c);
    within = word_within;
    left = drop_front at (encode_utf8_all word) (encode_utf8_all more) text so_far.within spelled;
  }

-- ---- the end

module _ (text characters : List ℕ) (at : ℕ) (due : Option ℕ) (tokens : List Token) (comments : List Comment) (rest : List ℕ)
    (scalars : all_scalars characters ≡ true) (encoded : encode_utf8_all characters ≡ text) (so_far : ScannedTo text characters at due tokens comments rest) where
  pub scanned_all : length rest ≡ 0 → (tokens_now : List Token) → tokens_now ≡ tokens ++ inserted due → TokensOf text tokens_now comments
  unfolding tokens_from comments_from
  scanned_all end tokens_now t = record {
    characters = characters;
    scalars = scalars;
    encoded = encoded;
    pieces = so_far.pieces;
    cut = subst (λ (r : List ℕ). CutsTo (after_mark characters) so_far.pieces r) (is_nil rest end) so_far.cut;
    tokens_are = t ∙ sym (so_far.tokens_on []) ∙ ap (λ (ps : List Piece). tokens_from (mark_size characters) None ps) (append_nil so_far.pieces);
    comments_are = sym (append_nil comments) ∙ sym (so_far.comments_on []) ∙ ap (λ (ps : List Piece). comments_from (mark_size characters) ps) (append_nil so_far.pieces);
  }
    where
      is_nil : (xs : List ℕ) → length xs ≡ 0 → xs ≡ []
      is_nil [] e = refl
      is_nil (x ∷ xs) e = absurd (omega (arith, e))

  pub scanned_stuck : length rest ≢ 0 → Exact rest None → StopsAt text at
  scanned_stuck more none = record {
    characters = characters;
    scalars = scalars;
    encoded = encoded;
    pieces = so_far.pieces;
    rest = rest;
    cut = so_far.cut;
    more = λ e. more (ap length e);
    none = none;
    place_is = so_far.place;
  }

-- ---- a scan over the bytes

map_append : {A B : Type 0} (f : A → B) (xs ys : List A) → map f (xs ++ ys) ≡ map f xs ++ map f ys
map_append f [] ys = refl
map_append {A} {B} f (x ∷ xs) ys = ap (λ (zs : List B). f x ∷ zs) (map_append f xs ys)

-- What has been read of the text up to these last bytes.
pub record ReadTo (text : List ℕ) (due : Option ℕ) (tokens : List Token) (terminals : List Terminal) (comments : List Comment) (rest : List ℕ) : Type 0 where
  pub utf8 : IsUtf8 rest
  pub short : length rest ≤ length text
  pub scanned : ScannedTo text (chars text) (length text - length rest) due tokens comments (chars rest)
  pub terminals_are : terminals ≡ map terminal_at tokens

pub read_start : (text rest : List ℕ) (tokens : List Token) (terminals : List Terminal) (comments : List Comment) → IsUtf8 text → IsUtf8 rest → chars rest ≡ after_mark (chars text)
    → length rest + mark_size (chars text) ≡ length text → tokens ≡ [] → terminals ≡ [] → comments ≡ [] → ReadTo text None tokens terminals comments rest
read_start text rest tokens terminals comments whole utf8 is size t u c =
    subst (λ (ts : List Token). ReadTo text None ts terminals comments rest) (sym t)
    (subst (λ (us : List Terminal). ReadTo text None [] us comments rest) (sym u)
    (subst (λ (cs : List Comment). ReadTo text None [] [] cs rest) (sym c) start))
  where
    start : ReadTo text None [] [] [] rest
    start = record {
      utf8 = utf8;
      short = omega (arith, size);
      scanned =
          let place : mark_size (chars text) ≡ length text - length rest = omega (arith, size) in
          subst (λ (cs : List ℕ). ScannedTo text (chars text) (length text - length rest) None [] [] cs) (sym is)
          (subst (λ (n : ℕ). ScannedTo text (chars text) n None [] [] (after_mark (chars text))) place (scanned_start text (chars text) (encodes-chars text whole)));
      terminals_are = refl;
    }

module _ (text : List ℕ) (due : Option ℕ) (tokens : List Token) (terminals : List Terminal) (comments : List Comment) (rest : List ℕ)
    (so_far : ReadTo text due tokens terminals comments rest) where
  pub read_stuck : length rest ≢ 0 → IsUtf8 text → Exact (chars rest) None → StopsAt text (length text - length rest)
  read_stuck more whole none =
      scanned_stuck text (chars text) (length text - length rest) due tokens comments (chars rest) (scalars-chars text whole) (encodes-chars text whole) so_far.scanned (some_left (chars rest) refl) none
    where
      some_left : (cs : List ℕ) → chars rest ≡ cs → length cs ≢ 0
      some_left [] e = λ z. more (ap length (sym (encodes-chars rest so_far.utf8) ∙ ap encode_utf8_all e))
      some_left (c ∷ cs) e = λ z. absurd (omega (arith, z))

  pub read_all : length rest ≡ 0 → IsUtf8 text → (tokens_now : List Token) → tokens_now ≡ tokens ++ inserted due → TokensOf text tokens_now comments
  read_all end whole tokens_now t =
      scanned_all text (chars text) (length text - length rest) due tokens comments (chars rest) (scalars-chars text whole) (encodes-chars text whole) so_far.scanned (none_left rest end) tokens_now t
    where
      none_left : (bs : List ℕ) → length bs ≡ 0 → length (chars bs) ≡ 0
      none_left [] e = ap length chars-nil
      none_left (b ∷ bs) e = absurd (omega (arith, e))

  pub read_terminals : (new : List Token) (tokens_now : List Token) (terminals_now : List Terminal) → tokens_now ≡ tokens ++ new → terminals_now ≡ terminals ++ map terminal_at new → terminals_now ≡ map terminal_at tokens_now
  read_terminals new tokens_now terminals_now t u =
      u ∙ ap (λ (xs : List Terminal). xs ++ map terminal_at new) so_far.terminals_are ∙ sym (map_append terminal_at tokens new) ∙ ap (map terminal_at) (sym t)

  module _ (kind : PieceKind) (size : ℕ) (exact : ExactSize (chars rest) (Some (kind, size))) where
    pub read_boundary : IsCharBoundary rest size
    read_boundary = cut_boundary rest so_far.utf8 exact.0 size exact.1

    module _ (word more : List ℕ) (of_word : word ≡ take size rest) (of_more : more ≡ drop size rest) where
      next : IsNext (chars rest) kind (chars word) (chars more)
      next =
          subst (λ (w : List ℕ). IsNext (chars rest) kind w (chars more)) (sym (ap chars of_word ∙ cut_front rest so_far.utf8 exact.0 size exact.1))
          (subst (λ (m : List ℕ). IsNext (chars rest) kind (take exact.0 (chars rest)) m) (sym (ap chars of_more ∙ cut_back rest so_far.utf8 exact.0 size exact.1)) exact.2.0)

      word_size : size_of (chars word) ≡ size
      word_size = ap size_of (ap chars of_word ∙ cut_front rest so_far.utf8 exact.0 size exact.1) ∙ sym exact.1

      word_length : length word ≡ size
      word_length = let within = cut_within rest so_far.utf8 exact.0 size exact.1 in ap length of_word ∙ length-take-le size rest within

      more_length : length more + size ≡ length rest
      more_length = let within = cut_within rest so_far.utf8 exact.0 size exact.1 in let n = ap length of_more ∙ length-drop size rest in omega (arith, n, within)

      pub read_small : (length text - length rest) + length word ≤ length text
      read_small = let short = so_far.short in omega (arith, short, word_length, more_length)

      pub read_smaller : length more < length rest
      read_smaller = by_word (chars word) next.spelled word_size
        where
          by_word : (w : List ℕ) → IsPiece kind w → size_of w ≡ size → length more < length rest
          by_word [] s e = absurd (never_empty kind s)
          by_word (c ∷ cs) s e =
              let sizes = length-append (encode_utf8 c) (encode_utf8_all cs) in let first = length-encode c in let low = len_utf8_bounds c in
              omega (arith, sizes, first, low, e, more_length)

      pub read_on : (later : Option ℕ) (tokens_now : List Token) (terminals_now : List Terminal) (comments_now : List Comment)
          → later ≡ due_after (length text - length rest) due kind (chars word)
          → tokens_now ≡ tokens ++ tokens_at (length text - length rest) due kind (chars word)
          → terminals_now ≡ terminals ++ map terminal_at (tokens_at (length text - length rest) due kind (chars word))
          → comments_now ≡ comments ++ comments_at (length text - length rest) kind (chars word)
          → ReadTo text later tokens_now terminals_now comments_now more
      read_on later tokens_now terminals_now comments_now d t u c = record {
        utf8 = subst IsUtf8 (sym of_more) (cut_back_utf8 rest so_far.utf8 exact.0 size exact.1);
        short = let short = so_far.short in omega (arith, short, more_length);
        scanned =
            let place : (length text - length rest) + size_of (chars word) ≡ length text - length more = let short = so_far.short in omega (arith, short, word_size, more_length) in
            subst (λ (n : ℕ). ScannedTo text (chars text) n later tokens_now comments_now (chars more)) place
            (scanned_step text (chars text) (length text - length rest) due tokens comments (chars rest) so_far.scanned kind (chars word) (chars more) next later tokens_now comments_now d t c);
        terminals_are = read_terminals (tokens_at (length text - length rest) due kind (chars word)) tokens_now terminals_now t u;
      }
