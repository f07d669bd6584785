-- Which comments an edit leaves.
use Rattle.std.proofs.Common.{◌≡◌, ◌+◌, ◌-◌, ◌<◌, ◌≤◌, ℕ, true, false, nat_le, List, [], ◌∷◌, ◌++◌, length, map, refl, sym, ap, subst, ◌∙◌, arith}
use Rattle.std.proofs.lemmas.Bool.Decides.{nat_tests}
use Rattle.std.proofs.lemmas.List.{append-nil}
use Rattle.go_tree.specs.declared.spans.Span.{Span}
use Rattle.go_tree.specs.declared.tokens.Token.{Token}
use Rattle.go_tree.specs.declared.tokens.Comment.{Comment}
use Rattle.go_tree.specs.GoWords.Tokens.{size_of, comments_at, comments_from, pieces_size}
use Rattle.go_tree.specs.GoWords.Tokens.Pieces.{PieceKind, blanks, remark, token, Piece}
use Rattle.text_edits.specs.declared.edit.Edit.{Edit}
use Rattle.splice_laws.specs.Joints.{words_of, IsPart, PartsTo, Fitting, begin_of, moved_comment, left_comments}
use Rattle.splice_laws.specs.Spots.{Spot}
use Rattle.splice_laws.proofs.Rises.{piece_size}
use Rattle.splice_laws.proofs.Splices.{words_size}
use Rattle.splice_laws.proofs.Moves.{comments_move}

-- ---- where the comments of pieces lie

-- each of the comments has bytes, and lies between the two offsets
abbrev Lie : ℕ → ℕ → List Comment → Type 0
Lie low high [] = Unit {0}
Lie low high (c ∷ cs) = (low ≤ c.span.start) × (c.span.start < c.span.end) × (c.span.end ≤ high) × Lie low high cs

wider : (low high a b : ℕ) (cs : List Comment) → low ≤ a → b ≤ high → Lie a b cs → Lie low high cs
wider low high a b [] p q l = tt
wider low high a b (c ∷ cs) p q l = let x = l.0 in let y = l.2 in (omega (arith, p, x), l.1, omega (arith, q, y), wider low high a b cs p q l.3)

both_lie : (low high : ℕ) (xs ys : List Comment) → Lie low high xs → Lie low high ys → Lie low high (xs ++ ys)
both_lie low high [] ys l m = m
both_lie low high (x ∷ xs) ys l m = (l.0, l.1, l.2, both_lie low high xs ys l.3 m)

one_lies : (at n : ℕ) (k : PieceKind) (w more : List ℕ) → IsPart k w more → Lie at (at + (size_of w + n)) (comments_at at k w)
one_lies at n blanks w more h = tt
one_lies at n remark w more h = let s = piece_size remark w h.spelled in (omega arith, omega (arith, s), omega arith, tt)
one_lies at n (token k) w more h = tt

pub pieces_lie : (ps others : List Piece) (w rest : List ℕ) (at : ℕ) → PartsTo w (ps ++ others) rest → Lie at (at + pieces_size ps) (comments_from at ps)
unfolding comments_from
pieces_lie [] others w rest at parts = tt
pieces_lie (p ∷ ps) others w rest at parts =
    both_lie at (at + (size_of p.word + pieces_size ps)) (comments_at at p.kind p.word) (comments_from (at + size_of p.word) ps)
    (one_lies at (pieces_size ps) p.kind p.word parts.0 parts.2)
    (wider at (at + (size_of p.word + pieces_size ps)) (at + size_of p.word) (at + size_of p.word + pieces_size ps) (comments_from (at + size_of p.word) ps) (omega arith) (omega arith)
    (pieces_lie ps others parts.0 rest (at + size_of p.word) parts.3))

-- ---- what an edit leaves

is_le : (a b : ℕ) → a ≤ b → nat_le a b ≡ true
is_le a b h = grind (arith, nat_tests, h)

not_le : (a b : ℕ) → b < a → nat_le a b ≡ false
not_le a b h = grind (arith, nat_tests, h)

module _ (e : Edit) where
  before_left : (low : ℕ) (cs ds : List Comment) → Lie low e.span.start cs → left_comments e (cs ++ ds) ≡ cs ++ left_comments e ds
  before_left low [] ds l = refl
  before_left low (c ∷ cs) ds l =
      let test = is_le c.span.end e.span.start l.2 in
      let later = before_left low cs ds l.3 in
      rw test (ap (λ (xs : List Comment). c ∷ xs) later)

  within_left : (cs ds : List Comment) → Lie e.span.start e.span.end cs → left_comments e (cs ++ ds) ≡ left_comments e ds
  within_left [] ds l = refl
  within_left (c ∷ cs) ds l =
      let a = l.0 in
      let b = l.1 in
      let d = l.2 in
      let one = not_le c.span.end e.span.start (omega (arith, a, b)) in
      let two = not_le e.span.end c.span.start (omega (arith, b, d)) in
      rw (one, two) (within_left cs ds l.3)

  behind_left : (high : ℕ) (cs : List Comment) → e.span.start ≤ e.span.end → Lie e.span.end high cs → left_comments e cs ≡ map (moved_comment e) cs
  behind_left high [] order l = refl
  behind_left high (c ∷ cs) order l =
      let a = l.0 in
      let b = l.1 in
      let one = not_le c.span.end e.span.start (omega (arith, a, b, order)) in
      let two = is_le e.span.end c.span.start a in
      let later = behind_left high cs order l.3 in
      rw (one, two) (ap (λ (xs : List Comment). moved_comment e c ∷ xs) later)

-- ---- the comments of a text with a span replaced

parts_later : (ps qs : List Piece) (w rest : List ℕ) → PartsTo w (ps ++ qs) rest → (more : List ℕ) × PartsTo more qs rest
parts_later [] qs w rest parts = (w, parts)
parts_later (p ∷ ps) qs w rest parts = parts_later ps qs parts.0 rest parts.3

size_moves : (b n size len : ℕ) → size ≡ len → b + size ≡ b + n + len - (b + n - b)
size_moves b n size len e = omega (arith, e)

-- those before the span, and those behind it, which move
pub comments_left : (text : List ℕ) (tokens : List Token) (comments : List Comment) (front node back : List Token) (last : Token) (span : Span) (s : Spot text tokens comments front node back last span) (new bytes : List ℕ) (pieces : List Piece)
    → Fitting new pieces s.tail s.behind bytes → comments_from (begin_of s.mark s.before) pieces ≡ []
    → comments_from (size_of s.mark) s.before ++ (comments_from (begin_of s.mark s.before) pieces ++ comments_from (begin_of s.mark s.before + pieces_size pieces) s.behind) ≡ left_comments (record { span = span; text = bytes }) comments
comments_left text tokens comments front node back last span s new bytes pieces fit none =
    subst (λ (sp : Span). comments ≡ first ++ (second ++ comments_from sp.end s.behind) → first ++ (comments_from b pieces ++ comments_from (b + pieces_size pieces) s.behind) ≡ left_comments (record { span = sp; text = bytes }) comments)
    (sym s.span_is) at_span s.comments_are
  where
    b : ℕ
    b = begin_of s.mark s.before

    n : ℕ
    n = pieces_size s.inside

    e : Edit
    e = record { span = record { start = b; end = b + n }; text = bytes }

    first : List Comment
    first = comments_from (size_of s.mark) s.before

    second : List Comment
    second = comments_from b s.inside

    third : List Comment
    third = comments_from (b + n) s.behind

    inside : (more : List ℕ) × PartsTo more (s.inside ++ s.behind) []
    inside = parts_later s.before (s.inside ++ s.behind) (words_of s.before ++ (words_of s.inside ++ s.tail)) [] s.parted.parts

    moved : comments_from (b + pieces_size pieces) s.behind ≡ map (moved_comment e) third
    moved =
        ap (λ (k : ℕ). comments_from k s.behind) (size_moves b n (pieces_size pieces) (length bytes) (sym (words_size pieces) ∙ ap size_of fit.words ∙ ap length fit.encoded))
        ∙ comments_move e s.behind (b + n) (omega arith)

    left : left_comments e (first ++ (second ++ third)) ≡ first ++ map (moved_comment e) third
    left =
        before_left e (size_of s.mark) first (second ++ third) (pieces_lie s.before (s.inside ++ s.behind) (words_of s.before ++ (words_of s.inside ++ s.tail)) [] (size_of s.mark) s.parted.parts)
        ∙ ap (λ (cs : List Comment). first ++ cs) (within_left e second third (pieces_lie s.inside s.behind inside.0 [] b inside.1)
        ∙ behind_left e (b + n + pieces_size s.behind) third (omega arith) (pieces_lie s.behind [] s.tail [] (b + n) (subst (λ (ps : List Piece). PartsTo s.tail ps []) (sym (append-nil s.behind)) s.parted.parts_behind)))

    at_span : comments ≡ first ++ (second ++ third) → first ++ (comments_from b pieces ++ comments_from (b + pieces_size pieces) s.behind) ≡ left_comments e comments
    at_span are =
        ap (λ (cs : List Comment). first ++ (cs ++ comments_from (b + pieces_size pieces) s.behind)) none ∙ ap (λ (cs : List Comment). first ++ cs) moved ∙ sym left
        ∙ ap (λ (cs : List Comment). left_comments e cs) (sym are)
