-- The first token whose nesting weight passes a limit.
use Rattle.std.specs.Prelude.{◌≡◌, ℕ, ◌<◌, ◌≤◌, nat_lt, List, [], ◌∷◌, ◌++◌, length, take}
use Rattle.std.specs.Prelude.{sum, slice_index, Option, Some, None, All, if◌then◌else◌}
use Rattle.go_tree.specs.declared.tokens.Token.{Token}
use Rattle.go_tree.specs.GoWords.Terminals.{terminal_of}
use Rattle.go_read.specs.SpellsWeight.{counts_after, weights_of}

-- a token that starts here has a weight over the limit, and no token before it has
pub record IsOverAt (limit : ℕ) (tokens : List Token) (place : ℕ) : Type 0 where
  pub front : List Token
  pub token : Token
  pub rest : List Token
  pub cut : tokens ≡ front ++ token ∷ rest
  pub within : All (λ weight. weight ≤ limit) (take (length front) (weights_of tokens))
  pub over : limit < slice_index (weights_of tokens) (length front)
  pub place_is : place ≡ token.span.start

-- No token's weight passes the limit, or the first whose weight does starts here.
abbrev pub IsFirstOver : ℕ → List Token → Option ℕ → Type 0
IsFirstOver limit tokens None = All (λ weight. weight ≤ limit) (weights_of tokens)
IsFirstOver limit tokens (Some place) = IsOverAt limit tokens place

-- ---- as it is looked for

-- the counts after a token
abbrev pub counts_at : Token → List ℕ → List ℕ
counts_at t counts = counts_after (terminal_of t.kind t.spelling) counts

-- after tokens that leave these counts
unfoldable pub first_over : ℕ → List ℕ → List Token → Option ℕ
first_over limit counts [] = None
first_over limit counts (t ∷ ts) =
    if nat_lt limit (sum (counts_at t counts)) then Some t.span.start else first_over limit (counts_at t counts) ts
