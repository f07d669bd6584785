-- Behind what is called no dot stands.
use Rattle.std.proofs.Common.{◌≡◌, ℕ, ◌+◌, Bool, true, false, not, ◌||◌, ◌==◌, nat_eq, List, [], ◌∷◌, ◌++◌, drop, get_or, Option, inl, inr, refl, sym, ap, subst, ◌∙◌, arith, bytes_eq}
use Rattle.std.specs.Prelude.{encode_utf8_all, if◌then◌else◌}
use Rattle.std.specs.List.{list_all}
use Rattle.std.proofs.lemmas.Bool.Decides.{nat_tests}
use Rattle.std.proofs.lemmas.Str.{inside_one, length-encode, len_utf8_bounds}
use Rattle.go_tree.specs.declared.spans.Span.{Span}
use Rattle.go_tree.specs.declared.tokens.Token.{Token}
use Rattle.go_tree.specs.declared.tokens.Comment.{Comment}
use Rattle.go_tree.specs.declared.tokens.TokenKind.{TokenKind}
use Rattle.go_tree.specs.declared.tokens.TokenKind.TheVariants.{Ident, Keyword, Operator, Integer, Float, Imaginary, Rune, Str, Inserted}
use Rattle.go_tree.specs.Tree.{Expr}
use Rattle.go_tree.specs.File.{File}
use Rattle.go_tree.specs.FileBare.{bare_file}
use Rattle.go_tree.specs.GoWords.Terminals.{Terminal, lex, terminal_of, lexemes, found_in, keywords}
use Rattle.go_tree.specs.GoWords.Tokens.Characters.{is_blank, each}
use Rattle.go_tree.specs.GoWords.Tokens.Forms.{HasForm}
use Rattle.go_tree.specs.GoWords.Tokens.Literals.{comment}
use Rattle.go_tree.specs.GoWords.Tokens.Pieces.{PieceKind, blanks, remark, token, Piece, operator_spellings, operator, IsPiece}
use Rattle.go_tree.specs.GoWords.Tokens.{TokensOf, span_of, size_of, due_after, tokens_from, pieces_size}
use Rattle.go_read.specs.Spells.{follows_type}
use Rattle.go_read.specs.SpellsFiles.{SpellsFile}
use Rattle.go_read.specs.SpellsTypes.{Lexemes}
use Rattle.go_scan.proofs.Derivatives.{and_parts}
use Rattle.go_scan.proofs.PieceKinds.{never_empty}
use Rattle.splice_laws.specs.Dots.{UndottedFile}
use Rattle.splice_laws.specs.Fits.{expr_mark}
use Rattle.splice_laws.specs.Joints.{begin_of, begins_with_dot, PartsTo}
use Rattle.splice_laws.specs.Swaps.{a_callee, FileIn}
use Rattle.splice_laws.proofs.Ends.{View, view, first_is, each_word, operator_passes, or_cases, clash}
use Rattle.splice_laws.proofs.Files.{replaced}
use Rattle.splice_laws.proofs.Over.{is_piece}
use Rattle.splice_laws.proofs.Rises.{tokens_rise}
use Rattle.splice_laws.proofs.Splices.{tail_bytes}
use Rattle.splice_laws.proofs.TokenDots.{tokens_apart}
use Rattle.splice_laws.proofs.Wholes.{Where, stands_where}

nope : (b : Bool) → not b ≡ true → b ≡ true → ⊥
nope true p q = cc
nope false p q = cc

same_number : (a b : ℕ) → nat_eq a b ≡ true → a ≡ b
same_number a b e = grind (arith, nat_tests, e)

-- ---- tokens

module _ (s : Span) (ts : Lexemes) where
  -- the terminal lets a type stand before it
  abbrev may_follow : Terminal → Bool
  may_follow x = follows_type (lex s x ∷ ts)

  abbrev plain_sign : List ℕ → Bool
  plain_sign w = not (begins_with_dot w) || not (may_follow (terminal_of Operator (encode_utf8_all w)))

  signs_plain : each_word plain_sign operator_spellings ≡ true
  unfolding operator_spellings lib.Utf8.encode
  signs_plain = refl

  found_plain : (rows : List (List ℕ × Terminal)) (w : List ℕ) → list_all (λ row. not (may_follow row.1)) rows ≡ true → may_follow (found_in rows w) ≡ true → ⊥
  found_plain [] w h e = absurd cc
  found_plain (row ∷ rows) w h e =
      let p = and_parts (not (may_follow row.1)) (list_all (λ row. not (may_follow row.1)) rows) h in by_row (bytes_eq row.0 w) p.0 (λ q. found_plain rows w p.1 q) e
    where
      by_row : (b : Bool) → not (may_follow row.1) ≡ true → (may_follow (found_in rows w) ≡ true → ⊥) → may_follow (if b then row.1 else found_in rows w) ≡ true → ⊥
      by_row true p later e = nope (may_follow row.1) p e
      by_row false p later e = later e

  keys_plain : list_all (λ row. not (may_follow row.1)) keywords ≡ true
  keys_plain = refl

  token_undotted : (k : TokenKind) (w : List ℕ) → IsPiece (token k) w → may_follow (terminal_of k (encode_utf8_all w)) ≡ true → begins_with_dot w ≡ true → ⊥
  unfolding operator
  token_undotted Ident w p h d = absurd cc h
  token_undotted Keyword w p h d = found_plain keywords (encode_utf8_all w) keys_plain h
  token_undotted Operator w p h d =
      or_cases (not (begins_with_dot w)) (not (may_follow (terminal_of Operator (encode_utf8_all w)))) (operator_passes plain_sign operator_spellings w signs_plain p)
      (λ q. nope (begins_with_dot w) q d) (λ q. nope (may_follow (terminal_of Operator (encode_utf8_all w))) q h)
  token_undotted Integer w p h d = absurd cc h
  token_undotted Float w p h d = absurd cc h
  token_undotted Imaginary w p h d = absurd cc h
  token_undotted Rune w p h d = absurd cc h
  token_undotted Str w p h d = absurd cc h
  token_undotted Inserted w p h d = p

-- ---- the text behind

comment_undotted : (w : List ℕ) → HasForm comment w → begins_with_dot w ≡ false
unfolding comment
comment_undotted w h = by_either (view h)
  where
    slash : (front back : List ℕ) → w ≡ front ++ back → front ≡ 47 ∷ [] → begins_with_dot w ≡ false
    slash front back e f = ap begins_with_dot e ∙ ap (λ (x : List ℕ). begins_with_dot (x ++ back)) f

    by_either : View comment w → begins_with_dot w ≡ false
    by_either (inl x) = let v = view x in slash v.0 v.1 v.2 (first_is 47 v.0 (view v.3))
    by_either (inr x) = let v = view x in slash v.0 v.1 v.2 (first_is 47 v.0 (view v.3))

of_front : (k : PieceKind) (w more : List ℕ) → IsPiece k w → begins_with_dot (w ++ more) ≡ true → begins_with_dot w ≡ true
of_front k [] more p d = absurd (never_empty k p)
of_front k (c ∷ cs) more p d = d

blanks_undotted : (w : List ℕ) → IsPiece blanks w → begins_with_dot w ≡ true → ⊥
blanks_undotted [] p d = cc
blanks_undotted (c ∷ cs) p d = clash (is_blank 46) (subst (λ (n : ℕ). is_blank n ≡ true) (same_number c 46 d) (and_parts (is_blank c) (each is_blank cs) p).0) refl

behind_undotted : (ps : List Piece) (tail : List ℕ) (at : ℕ) (due : Option ℕ) → PartsTo tail ps [] → follows_type (lexemes (tokens_from at due ps)) ≡ true → begins_with_dot tail ≡ true → ⊥
unfolding tokens_from
behind_undotted [] tail at due parts h d = clash (begins_with_dot tail) d (ap begins_with_dot parts)
behind_undotted (p ∷ ps) tail at due parts h d = by_kind p.kind p.word (is_piece p.kind p.word parts.0 parts.2) h (sym (ap begins_with_dot parts.1) ∙ d)
  where
    by_kind : (k : PieceKind) (w : List ℕ) → IsPiece k w → follows_type (lexemes (tokens_from at due (record { kind = k; word = w } ∷ ps))) ≡ true → begins_with_dot (w ++ parts.0) ≡ true → ⊥
    by_kind blanks w x q e = blanks_undotted w x (of_front blanks w parts.0 x e)
    by_kind remark w x q e = clash (begins_with_dot w) (of_front remark w parts.0 x e) (comment_undotted w x)
    by_kind (token k) w x q e = token_undotted (span_of at w) (lexemes (tokens_from (at + size_of w) (due_after at due (token k) w) ps)) k w x q (of_front (token k) w parts.0 x e)

-- ---- bytes

dot_is : (w : List ℕ) → begins_with_dot w ≡ true → (more : List ℕ) × (w ≡ 46 ∷ more)
dot_is [] d = absurd cc
dot_is (c ∷ cs) d = (cs, ap (λ (n : ℕ). n ∷ cs) (same_number c 46 d))

dot_letter : (cs : List ℕ) → begins_with_dot (encode_utf8_all cs) ≡ true → begins_with_dot cs ≡ true
dot_letter [] d = d
dot_letter (c ∷ cs) d =
    let x = dot_is (encode_utf8_all (c ∷ cs)) d in
    let first : get_or (encode_utf8_all (c ∷ cs)) 0 0 ≡ 46 = ap (λ (l : List ℕ). get_or l 0 0) x.1 in
    let is : c ≡ get_or (encode_utf8_all (c ∷ cs)) 0 0 = inside_one c (encode_utf8_all cs) (encode_utf8_all (c ∷ cs)) 0 refl (omega (arith, length-encode c, (len_utf8_bounds c).0)) (omega (arith, first)) in
    ap (λ (n : ℕ). n == 46) (is ∙ first)

no_dot : (tail : List ℕ) → (begins_with_dot tail ≡ true → ⊥) → begins_with_dot (encode_utf8_all tail) ≡ false
no_dot tail none = by_test (begins_with_dot (encode_utf8_all tail)) refl
  where
    by_test : (b : Bool) → begins_with_dot (encode_utf8_all tail) ≡ b → begins_with_dot (encode_utf8_all tail) ≡ false
    by_test true e = absurd (none (dot_letter tail e))
    by_test false e = e

-- ---- what is called

pub callee_undotted : (text : List ℕ) (tokens : List Token) (comments : List Comment) (file g : File Span) (h : Bool) (e f : Expr Span) → TokensOf text tokens comments → SpellsFile tokens file → UndottedFile (bare_file file) → FileIn (a_callee h e f) file g
    → begins_with_dot (drop (expr_mark e).end text) ≡ false
callee_undotted text tokens comments file g h e f scans spells undotted into =
    let r = replaced (a_callee h e f) file g (lexemes tokens) spells (tokens_rise text tokens comments scans) into in
    let here = stands_where text tokens comments scans (tokens_apart text tokens comments file scans spells undotted) (a_callee h e f) tt r.front r.node r.rest r.tokens r.marked r.old in by_spot r.rest r.front here r.old.3
  where
    by_spot : (rest front : Lexemes) → Where text tokens comments (a_callee h e f) front rest → follows_type rest ≡ true → begins_with_dot (drop (expr_mark e).end text) ≡ false
    by_spot rest front here follows =
        let s = here.spot in
        let end_is : (expr_mark e).end ≡ begin_of s.mark s.before + pieces_size s.inside = ap (λ (z : Span). z.end) s.span_is in
        let bytes : encode_utf8_all s.tail ≡ drop (expr_mark e).end text = tail_bytes text s.mark s.before s.inside s.behind s.tail s.parted ∙ ap (λ (n : ℕ). drop n text) (sym end_is) in
        let behind : follows_type (lexemes here.behind) ≡ true = ap follows_type here.behind_is ∙ follows in
        subst (λ (v : List ℕ). begins_with_dot v ≡ false) bytes
        (no_dot s.tail (λ d. behind_undotted s.behind s.tail (expr_mark e).end _ s.parted.parts_behind (subst (λ (ts : List Token). follows_type (lexemes ts) ≡ true) s.back_is behind) d))
