-- Cursors into the tokens and the comments of a text: what stands before one isn't looked at again.
use Rattle.std.specs.Prelude.{◌≡◌, ℕ, ◌≤◌, Bool, false, nat_lt, List, [], ◌∷◌, length, drop}
use Rattle.std.specs.List.{prefix_len}
use Rattle.go_tree.specs.declared.spans.Span.{Span}
use Rattle.go_tree.specs.declared.tokens.Token.{Token}
use Rattle.go_tree.specs.declared.tokens.Comment.{Comment}
use Rattle.run_rules.specs.ImportRules.Removed.{through_semicolon, comment_within}

-- how many tokens start before an offset, up to the first that doesn't
abbrev pub tokens_before : ℕ → List Token → ℕ
tokens_before at tokens = prefix_len (λ t. nat_lt t.span.start at) tokens

-- the same of comments
abbrev pub comments_before : ℕ → List Comment → ℕ
comments_before at comments = prefix_len (λ c. nat_lt c.span.start at) comments

-- the first of the comments starts before an offset
abbrev pub starts_before : List Comment → ℕ → Bool
starts_before [] at = false
starts_before (c ∷ cs) at = nat_lt c.span.start at

-- From an offset on, the tokens behind the cursor answer as all of them do.
pub record TokensServe (tokens : List Token) (cursor from : ℕ) : Type 0 where
  pub within : cursor ≤ length tokens
  pub alike : (at : ℕ) → from ≤ at → through_semicolon (drop cursor tokens) at ≡ through_semicolon tokens at

-- The same of comments, for spans from an offset on.
pub record CommentsServe (comments : List Comment) (cursor from : ℕ) : Type 0 where
  pub within : cursor ≤ length comments
  pub alike : (s : Span) → from ≤ s.start → comment_within (drop cursor comments) s ≡ comment_within comments s
