-- The layout of a tree: its tokens, and the white space between them (go/printer of the Go standard library).
use Rattle.std.specs.Prelude.{ℕ, Bool, true, false, List, [], ◌∷◌, ◌++◌, codes}
use Rattle.go_tree.specs.declared.tokens.TokenKind.{TokenKind}
use Rattle.go_tree.specs.declared.tokens.TokenKind.TheVariants.{Ident, Keyword, Operator}
use Rattle.go_tree.specs.Tree.{NameAt}

infixr 60 ◌⊕◌
-- A newline carries the indent of the line that it begins. Where it is `true`, the token before it ends a statement or
-- a
-- spec, so the newline stands for a semicolon (Go specification, Semicolons); elsewhere it stands for none.
pub data Layout : Type 0 where
  no_text : Layout
  a_token : TokenKind → List ℕ → Layout
  gap : Layout
  line : Bool → List ℕ → Layout
  ◌⊕◌ : Layout → Layout → Layout

-- the bytes
abbrev pub text_of : Layout → List ℕ
text_of no_text = []
text_of (a_token kind spelling) = spelling
text_of gap = 32 ∷ []
text_of (line ends indent) = 10 ∷ indent
text_of (a ⊕ b) = text_of a ++ text_of b

-- a keyword
abbrev pub key : List ℕ → Layout
key spelling = a_token Keyword spelling

-- an operator
abbrev pub op : List ℕ → Layout
op spelling = a_token Operator spelling

-- a name
abbrev pub name_layout : {S : Type 0} → NameAt S → Layout
name_layout n = a_token Ident n.name

-- the indent of what stands one tab deeper
abbrev pub deeper : List ℕ → List ℕ
deeper indent = indent ++ 9 ∷ []

-- in parentheses, where it needs them
abbrev pub within : Bool → Layout → Layout
within true a = op (codes "(") ⊕ a ⊕ op (codes ")")
within false a = a
