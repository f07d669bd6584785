-- The tokens and comments of a text, each in order.
use Rattle.std.specs.Prelude.{List}
use Rattle.go_tree.specs.declared.tokens.Token.{Token}
use Rattle.go_tree.specs.declared.tokens.Comment.{Comment}

-- the tokens of a text, and its comments
pub record TokenLists : Type 0 where
  pub items : List Token
  pub comments : List Comment
