-- The comments of a text start in their order.
use Rattle.std.proofs.Common.{◌+◌, ◌≤◌, ℕ, List, [], ◌∷◌, ◌++◌, sym, subst, arith}
use Rattle.go_tree.specs.declared.tokens.Comment.{Comment}
use Rattle.go_tree.specs.GoWords.Tokens.{mark_size, comments_from, comments_at, size_of}
use Rattle.go_tree.specs.GoWords.Tokens.Pieces.{PieceKind, blanks, remark, token, Piece}
use Rattle.run_rules.specs.ImportRules.Laid.{CommentsAscend}
use Rattle.splice_laws.specs.ImportSplices.ImportPlaces.ReadFiles.{CommentsOfTextsAscend}

comment_stands : (from at : ℕ) (w : List ℕ) (cs : List Comment) → from ≤ at → ((f : ℕ) → f ≤ at + size_of w → CommentsAscend f cs) → (k : PieceKind) → CommentsAscend from (comments_at at k w ++ cs)
comment_stands from at w cs le rest blanks = rest from (omega (arith, le))
comment_stands from at w cs le rest remark = (le, rest at (omega arith))
comment_stands from at w cs le rest (token k) = rest from (omega (arith, le))

comments_stand : (ps : List Piece) (from at : ℕ) → from ≤ at → CommentsAscend from (comments_from at ps)
unfolding comments_from
comments_stand [] from at le = tt
comments_stand (p ∷ ps) from at le =
    comment_stands from at p.word (comments_from (at + size_of p.word) ps) le (λ f m. comments_stand ps f (at + size_of p.word) m) p.kind

pub comments_ascend : CommentsOfTextsAscend
comments_ascend text tokens comments t =
    subst (λ (cs : List Comment). CommentsAscend 0 cs) (sym t.comments_are) (comments_stand t.pieces 0 (mark_size t.characters) (omega arith))
