-- The nesting weight of a token: how deep the trees are that may have been begun when it is read.
use Rattle.std.specs.Prelude.{ℕ, ◌+◌, List, [], ◌∷◌, sum}
use Rattle.go_tree.specs.declared.tokens.Token.{Token}
use Rattle.go_tree.specs.GoWords.Terminals.{Terminal, comma, semicolon, paren, end_paren, bracket, end_bracket, brace}
use Rattle.go_tree.specs.GoWords.Terminals.{end_brace, terminal_of}

-- behind an opening bracket: it counts for the bracket around it, and nothing is counted in it yet
abbrev pub opened : List ℕ → List ℕ
opened [] = []
opened (n ∷ counts) = 0 ∷ (n + 1) ∷ counts

-- the last count stays
abbrev pub closed : List ℕ → List ℕ
closed (n ∷ m ∷ counts) = m ∷ counts
closed counts = counts

-- behind a comma or a semicolon, which begins the count of the innermost bracket anew
abbrev pub separated : List ℕ → List ℕ
separated [] = []
separated (n ∷ counts) = 0 ∷ counts

-- behind any other token, which counts for the innermost bracket
abbrev pub counted : List ℕ → List ℕ
counted [] = []
counted (n ∷ counts) = (n + 1) ∷ counts

-- the counts after a token, the one of the innermost bracket first
abbrev pub counts_after : Terminal → List ℕ → List ℕ
counts_after semicolon counts = separated counts
counts_after comma counts = separated counts
counts_after paren counts = opened counts
counts_after bracket counts = opened counts
counts_after brace counts = opened counts
counts_after end_paren counts = closed counts
counts_after end_bracket counts = closed counts
counts_after end_brace counts = closed counts
counts_after _ counts = counted counts

-- the weight of each token: the sum of the counts behind it
abbrev pub weights_after : List ℕ → List Token → List ℕ
weights_after counts [] = []
weights_after counts (t ∷ tokens) =
    sum (counts_after (terminal_of t.kind t.spelling) counts)
    ∷ weights_after (counts_after (terminal_of t.kind t.spelling) counts) tokens

-- the weight of each token
abbrev pub weights_of : List Token → List ℕ
weights_of tokens = weights_after (0 ∷ []) tokens
