-- A text is cut in one way, so it has one list of tokens and one of comments.
use Rattle.std.proofs.Common.{◌≡◌, ℕ, ◌+◌, List, [], ◌∷◌, ◌++◌, length, None, refl, sym, ap, subst, ◌∙◌, arith}
use Rattle.std.proofs.lemmas.Str.{encodes_same}
use Rattle.go_tree.specs.declared.tokens.Token.{Token}
use Rattle.go_tree.specs.declared.tokens.Comment.{Comment}
use Rattle.go_tree.specs.GoWords.Tokens.{TokensOf, StopsAt, tokens_from, comments_from, after_mark, mark_size, pieces_size}
use Rattle.go_tree.specs.GoWords.Tokens.Pieces.{PieceKind, Piece, IsPiece, IsNext, CutsTo}
use Rattle.go_scan.proofs.PieceKinds.{one_kind, never_empty}

-- two fronts of one text that are as long are one
pub same_front : (p q r s : List ℕ) → p ++ r ≡ q ++ s → length p ≡ length q → (p ≡ q) × (r ≡ s)
same_front [] [] r s e n = (refl, e)
same_front [] (d ∷ q) r s e n = absurd (omega (arith, n))
same_front (c ∷ p) [] r s e n = absurd (omega (arith, n))
same_front (c ∷ p) (d ∷ q) r s e n =
    let h : c ≡ d = cc in
    let t : p ++ r ≡ q ++ s = cc in
    let ih = same_front p q r s t (omega (arith, n)) in
    (ap (λ (x : ℕ). x ∷ p) h ∙ ap (λ (x : List ℕ). d ∷ x) ih.0, ih.1)

-- the next piece is one
next_same : (text : List ℕ) (j k : PieceKind) (p q r s : List ℕ) → IsNext text j p r → IsNext text k q s → (p ≡ q) × (r ≡ s)
next_same text j k p q r s a b =
    let x = a.longest k q s b.parts b.spelled in
    let y = b.longest j p r a.parts a.spelled in
    same_front p q r s (sym a.parts ∙ b.parts) (omega arith)

no_front : (x y : List ℕ) → x ++ y ≡ [] → x ≡ []
no_front [] y e = refl
no_front (c ∷ x) y e = absurd cc

piece_same : (x y : Piece) → x.kind ≡ y.kind → x.word ≡ y.word → x ≡ y
piece_same x y e f =
    let by_kind : PieceKind → Piece = λ k. record { kind = k; word = x.word } in
    let by_word : List ℕ → Piece = λ t. record { kind = y.kind; word = t } in
    ap by_kind e ∙ ap by_word f

-- no piece is next where the text ends
pub none_at_end : (kind : PieceKind) (word rest : List ℕ) → IsNext [] kind word rest → ⊥
none_at_end kind word rest next = never_empty kind (subst (λ (w : List ℕ). IsPiece kind w) (no_front word rest (sym next.parts)) next.spelled)

-- a whole cut goes on from wherever a cut has come to
pub cut_along : (ps qs : List Piece) (text rest : List ℕ) → CutsTo text ps rest → CutsTo text qs [] → (more : List Piece) × (qs ≡ ps ++ more) × CutsTo rest more []
cut_along [] qs text rest a b = (qs, refl, subst (λ (ts : List ℕ). CutsTo ts qs []) a b)
cut_along (p ∷ ps) [] text rest a b = absurd (none_at_end p.kind p.word a.0 (subst (λ (ts : List ℕ). IsNext ts p.kind p.word a.0) b a.1))
cut_along (p ∷ ps) (q ∷ qs) text rest a b =
    let same = next_same text p.kind q.kind p.word q.word a.0 b.0 a.1 b.1 in
    let kinds = one_kind p.kind q.kind p.word a.1.spelled (subst (λ (ts : List ℕ). IsPiece q.kind ts) (sym same.0) b.1.spelled) in
    let ih = cut_along ps qs a.0 rest a.2 (subst (λ (ts : List ℕ). CutsTo ts qs []) (sym same.1) b.2) in
    let pieces : q ≡ p = piece_same q p (sym kinds) (sym same.0) in
    (ih.0, ap (λ (x : Piece). x ∷ qs) pieces ∙ ap (λ (xs : List Piece). p ∷ xs) ih.1, ih.2)

-- one more piece
pub cut_on : (ps : List Piece) (p : Piece) (text rest more : List ℕ) → CutsTo text ps rest → IsNext rest p.kind p.word more → CutsTo text (ps ++ p ∷ []) more
cut_on [] p text rest more a next = (more, subst (λ (ts : List ℕ). IsNext ts p.kind p.word more) (sym a) next, refl)
cut_on (q ∷ ps) p text rest more a next = (a.0, a.1, cut_on ps p a.0 rest more a.2 next)

whole_same : (ps qs : List Piece) (text : List ℕ) → CutsTo text ps [] → CutsTo text qs [] → qs ≡ ps
whole_same ps qs text a b =
    let along = cut_along ps qs text [] a b in
    along.1 ∙ nothing_more along.0 along.2
  where
    nothing_more : (more : List Piece) → CutsTo [] more [] → ps ++ more ≡ ps
    nothing_more [] c = append_nil ps
      where
        append_nil : (xs : List Piece) → xs ++ [] ≡ xs
        append_nil [] = refl
        append_nil (x ∷ xs) = ap (λ (ys : List Piece). x ∷ ys) (append_nil xs)
    nothing_more (q ∷ more) c = absurd (none_at_end q.kind q.word c.0 c.1)

-- ---- the laws of `TokensOf`

-- a text has at most one list of tokens and one of comments
pub tokens_once : (text : List ℕ) (ts us : List Token) (cs ds : List Comment) → TokensOf text ts cs → TokensOf text us ds → (us ≡ ts) × (ds ≡ cs)
tokens_once text ts us cs ds a b =
    let chars : b.characters ≡ a.characters = encodes_same b.characters a.characters (b.encoded ∙ sym a.encoded) in
    let pieces = whole_same a.pieces b.pieces (after_mark a.characters) a.cut (subst (λ (xs : List ℕ). CutsTo (after_mark xs) b.pieces []) chars b.cut) in
    let of_tokens : List ℕ → List Piece → List Token = λ xs ps. tokens_from (mark_size xs) None ps in
    let of_comments : List ℕ → List Piece → List Comment = λ xs ps. comments_from (mark_size xs) ps in (
      b.tokens_are ∙ ap (λ xs. of_tokens xs b.pieces) chars ∙ ap (λ ps. of_tokens a.characters ps) pieces ∙ sym a.tokens_are,
      b.comments_are ∙ ap (λ xs. of_comments xs b.pieces) chars ∙ ap (λ ps. of_comments a.characters ps) pieces ∙ sym a.comments_are,
    )

-- a text whose cut stops before its end has none
pub stopped_has_none : (text : List ℕ) (place : ℕ) (ts : List Token) (cs : List Comment) → StopsAt text place → TokensOf text ts cs → ⊥
stopped_has_none text place ts cs a b =
    let chars : b.characters ≡ a.characters = encodes_same b.characters a.characters (b.encoded ∙ sym a.encoded) in
    let along = cut_along a.pieces b.pieces (after_mark a.characters) a.rest a.cut (subst (λ (xs : List ℕ). CutsTo (after_mark xs) b.pieces []) chars b.cut) in
    stuck along.0 along.2
  where
    stuck : (more : List Piece) → CutsTo a.rest more [] → ⊥
    stuck [] c = a.more c
    stuck (q ∷ more) c = a.none q.kind q.word c.0 c.1

-- and it stops at one place
pub stops_once : (text : List ℕ) (m n : ℕ) → StopsAt text m → StopsAt text n → m ≡ n
stops_once text m n a b =
    let chars : b.characters ≡ a.characters = encodes_same b.characters a.characters (b.encoded ∙ sym a.encoded) in
    let pieces = stops_same a.pieces b.pieces (after_mark a.characters) a.rest b.rest a.cut a.none (subst (λ (xs : List ℕ). CutsTo (after_mark xs) b.pieces b.rest) chars b.cut) b.none in
    a.place_is ∙ ap (λ ps. mark_size a.characters + pieces_size ps) (sym pieces) ∙ ap (λ xs. mark_size xs + pieces_size b.pieces) (sym chars) ∙ sym b.place_is
  where
    stops_same : (ps qs : List Piece) (text r s : List ℕ) → CutsTo text ps r → ((kind : PieceKind) (word others : List ℕ) → IsNext r kind word others → ⊥)
        → CutsTo text qs s → ((kind : PieceKind) (word others : List ℕ) → IsNext s kind word others → ⊥) → qs ≡ ps
    stops_same [] [] text r s a x b y = refl
    stops_same [] (q ∷ qs) text r s a x b y = absurd (x q.kind q.word b.0 (subst (λ (ts : List ℕ). IsNext ts q.kind q.word b.0) a b.1))
    stops_same (p ∷ ps) [] text r s a x b y = absurd (y p.kind p.word a.0 (subst (λ (ts : List ℕ). IsNext ts p.kind p.word a.0) b a.1))
    stops_same (p ∷ ps) (q ∷ qs) text r s a x b y =
        let same = next_same text p.kind q.kind p.word q.word a.0 b.0 a.1 b.1 in
        let kinds = one_kind p.kind q.kind p.word a.1.spelled (subst (λ (ts : List ℕ). IsPiece q.kind ts) (sym same.0) b.1.spelled) in
        let ih = stops_same ps qs a.0 r s a.2 x (subst (λ (ts : List ℕ). CutsTo ts qs s) (sym same.1) b.2) y in
        let pieces : q ≡ p = piece_same q p (sym kinds) (sym same.0) in
        ap (λ (z : Piece). z ∷ qs) pieces ∙ ap (λ (xs : List Piece). p ∷ xs) ih
