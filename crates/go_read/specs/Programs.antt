-- One step of reading: it answers, fails, or asks for parts and goes on with their answers.
use Rattle.std.specs.Prelude.{Bool, true, false, ◌∷◌, Option, Some, None, option_and_then}
use Rattle.go_read.specs.SpellsTypes.{Lexemes}
use Rattle.go_tree.specs.GoWords.Terminals.{lex, semicolon, colon, brace, end_brace, end_bracket, end_paren}
use Rattle.go_read.specs.Goals.{Goal, Answer, Reader}

-- `ask` fails where the part isn't there; `look` goes on either way
pub data Program (S : Type 0) (X : Type 0) : Type 0 where
  give : X → Lexemes → Program S X
  fail : Program S X
  ask : (g : Goal S) → Lexemes → (Answer g → Lexemes → Program S X) → Program S X
  look : (g : Goal S) → Lexemes → (Option (Answer g × Lexemes) → Program S X) → Program S X

-- the answer of a step, where a reader answers what it asks for
abbrev pub run : {S X : Type 0} → Reader S → Program S X → Option (X × Lexemes)
run f (give x rest) = Some (x, rest)
run f fail = None
run f (ask g tokens k) = option_and_then (λ x. run f (k x.0 x.1)) (f g tokens)
run f (look g tokens k) = run f (k (f g tokens))

-- what goes on where the condition fails
abbrev pub unless : {S X : Type 0} → Bool → Program S X → Program S X
unless true p = fail
unless false p = p

-- what follows a token of this kind
abbrev pub after_semicolon : {S X : Type 0} → Lexemes → (Lexemes → Program S X) → Program S X
after_semicolon (lex _ semicolon ∷ rest) k = k rest
after_semicolon _ k = fail

-- what follows a colon
abbrev pub after_colon : {S X : Type 0} → Lexemes → (Lexemes → Program S X) → Program S X
after_colon (lex _ colon ∷ rest) k = k rest
after_colon _ k = fail

-- what follows an opening brace
abbrev pub after_brace : {S X : Type 0} → Lexemes → (Lexemes → Program S X) → Program S X
after_brace (lex _ brace ∷ rest) k = k rest
after_brace _ k = fail

-- what follows a closing brace
abbrev pub after_end_brace : {S X : Type 0} → Lexemes → (Lexemes → Program S X) → Program S X
after_end_brace (lex _ end_brace ∷ rest) k = k rest
after_end_brace _ k = fail

-- what follows a closing bracket
abbrev pub after_end_bracket : {S X : Type 0} → Lexemes → (Lexemes → Program S X) → Program S X
after_end_bracket (lex _ end_bracket ∷ rest) k = k rest
after_end_bracket _ k = fail

-- what follows a closing parenthesis
abbrev pub after_end_paren : {S X : Type 0} → Lexemes → (Lexemes → Program S X) → Program S X
after_end_paren (lex _ end_paren ∷ rest) k = k rest
after_end_paren _ k = fail
