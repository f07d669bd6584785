-- The tokens of a text start in ascending order, and so do its comments.
use Rattle.std.proofs.Common.{◌≤◌, ◌+◌, ℕ, Bool, true, false, if◌then◌else◌, List, [], ◌∷◌, ◌++◌, map, Option, Some, None, sym, arith, subst}
use Rattle.go_tree.specs.declared.tokens.Token.{Token}
use Rattle.go_tree.specs.declared.tokens.Comment.{Comment}
use Rattle.go_tree.specs.GoWords.Tokens.{TokensOf, tokens_from, tokens_at, due_after, comments_from, comments_at, inserted, size_of, ends_line, mark_size}
use Rattle.go_tree.specs.GoWords.Tokens.Characters.{is_listed}
use Rattle.go_tree.specs.GoWords.Tokens.Pieces.{PieceKind, blanks, remark, token, Piece}
use Rattle.mark_laws.specs.Ascending.{AscendFrom, none, next, Ascend}

abbrev pub token_start : Token → ℕ
token_start t = t.span.start

abbrev pub comment_start : Comment → ℕ
comment_start c = c.span.start

-- the place of a semicolon that is due
data IsDue (k at : ℕ) : Option ℕ → Type 0 where
  no_due : IsDue k at None
  due_at : (d : ℕ) → k ≤ d → d ≤ at → IsDue k at (Some d)

due_if : (t : Bool) (at e : ℕ) → at ≤ e → IsDue at e (if t then Some e else None)
due_if true at e h = due_at e h (omega arith)
due_if false at e h = no_due

later : (k at size : ℕ) (due : Option ℕ) → IsDue k at due → IsDue k (at + size) due
later k at size None no_due = no_due
later k at size (Some d) (due_at _ h l) = due_at d h (omega arith)

-- what follows a piece
abbrev Follow : ℕ → List Piece → Type 0
Follow at ps = (k : ℕ) (due : Option ℕ) → k ≤ at → IsDue k at due → AscendFrom k (map token_start (tokens_from at due ps))

gap_by : (k at size : ℕ) (due : Option ℕ) (ps : List Piece) (t : Bool) → k ≤ at → IsDue k at due → Follow (at + size) ps
    → AscendFrom k (map token_start ((if t then inserted due else []) ++ tokens_from (at + size) (if t then None else due) ps))
gap_by k at size None ps true h d f = f k None (omega arith) no_due
gap_by k at size (Some e) ps true h (due_at _ l m) f = next e (map token_start (tokens_from (at + size) None ps)) l (f e None (omega arith) no_due)
gap_by k at size due ps false h d f = f k due (omega arith) (later k at size due d)

step : (k at : ℕ) (due : Option ℕ) (kind : PieceKind) (word : List ℕ) (ps : List Piece) → k ≤ at → IsDue k at due → Follow (at + size_of word) ps
    → AscendFrom k (map token_start (tokens_at at due kind word ++ tokens_from (at + size_of word) (due_after at due kind word) ps))
step k at due blanks word ps h d f = gap_by k at (size_of word) due ps (is_listed word 10) h d f
step k at due remark word ps h d f = gap_by k at (size_of word) due ps (is_listed word 10) h d f
step k at due (token kind) word ps h d f =
    next at (map token_start (tokens_from (at + size_of word) (if ends_line kind word then Some (at + size_of word) else None) ps)) h
    (f at (if ends_line kind word then Some (at + size_of word) else None) (omega arith) (due_if (ends_line kind word) at (at + size_of word) (omega arith)))

last_due : (k at : ℕ) (due : Option ℕ) → IsDue k at due → AscendFrom k (map token_start (inserted due))
last_due k at None no_due = none
last_due k at (Some d) (due_at _ h l) = next d [] h none

tokens_follow : (at : ℕ) (ps : List Piece) → Follow at ps
unfolding tokens_from
tokens_follow at [] k due h d = last_due k at due d
tokens_follow at (p ∷ ps) k due h d = step k at due p.kind p.word ps h d (tokens_follow (at + size_of p.word) ps)

comment_step : (k at : ℕ) (kind : PieceKind) (word : List ℕ) (cs : List Comment) → k ≤ at → ((j : ℕ) → j ≤ at + size_of word → AscendFrom j (map comment_start cs)) → AscendFrom k (map comment_start (comments_at at kind word ++ cs))
comment_step k at remark word cs h f = next at (map comment_start cs) h (f at (omega arith))
comment_step k at blanks word cs h f = f k (omega arith)
comment_step k at (token kind) word cs h f = f k (omega arith)

comments_follow : (at : ℕ) (ps : List Piece) (k : ℕ) → k ≤ at → AscendFrom k (map comment_start (comments_from at ps))
unfolding comments_from
comments_follow at [] k h = none
comments_follow at (p ∷ ps) k h = comment_step k at p.kind p.word (comments_from (at + size_of p.word) ps) h (λ j l. comments_follow (at + size_of p.word) ps j l)

pub tokens_ascend : (text : List ℕ) (tokens : List Token) (comments : List Comment) → TokensOf text tokens comments → Ascend (map token_start tokens)
tokens_ascend text tokens comments h = subst (λ ts. Ascend (map token_start ts)) (sym h.tokens_are) (tokens_follow (mark_size h.characters) h.pieces 0 None (omega arith) no_due)

pub comments_ascend : (text : List ℕ) (tokens : List Token) (comments : List Comment) → TokensOf text tokens comments → Ascend (map comment_start comments)
comments_ascend text tokens comments h = subst (λ cs. Ascend (map comment_start cs)) (sym h.comments_are) (comments_follow (mark_size h.characters) h.pieces 0 (omega arith))
