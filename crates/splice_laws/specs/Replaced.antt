-- Tokens with those of one node replaced.
use Rattle.std.specs.Prelude.{◌≡◌, ◌<◌, ℕ, true, [], ◌∷◌, ◌++◌, length}
use Rattle.go_tree.specs.declared.spans.Span.{Span}
use Rattle.go_tree.specs.GoWords.Terminals.{lex}
use Rattle.go_read.specs.SpellsTypes.{Lexemes}
use Rattle.splice_laws.specs.Swaps.{Swap}
use Rattle.splice_laws.specs.Ends.{ends_node}
use Rattle.splice_laws.specs.Fits.{swap_mark, SpellsOld, SpellsNew}

-- The old node's tokens stand somewhere in these, and where tokens that spell the new node stand in their place, all
-- are so.
pub record Replaced {S : Type 0} (mark : Lexemes → Lexemes → S) (w : Swap S) (ts : Lexemes) (are : Lexemes → Type 0)
    : Type 0 where
  pub front : Lexemes
  pub node : Lexemes
  pub rest : Lexemes
  pub tokens : ts ≡ front ++ (node ++ rest)
  -- what the old node has for its span
  pub marked : swap_mark w ≡ mark (node ++ rest) rest
  pub old : SpellsOld mark w (node ++ rest) rest
  pub follows : ends_node rest ≡ true
  pub new : (others : Lexemes) → SpellsNew w others rest → are (front ++ others)

-- the same terminals with other spans: each has the one for the number of tokens behind it
abbrev pub respan : (ℕ → Span) → Lexemes → Lexemes
respan at [] = []
respan at (lex s x ∷ ts) = lex (at (length ts)) x ∷ respan at ts

-- each token starts behind the start of the one before it
abbrev pub starts_rise : Lexemes → Type 0
starts_rise [] = Unit {0}
starts_rise (t ∷ []) = Unit {0}
starts_rise (lex s x ∷ lex u y ∷ ts) = (s.start < u.start) × starts_rise (lex u y ∷ ts)
