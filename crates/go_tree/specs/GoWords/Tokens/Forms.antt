-- Forms of words, in the notation of the Go specification (Notation).
use Rattle.std.specs.Prelude.{◌≡◌, ℕ, true, false, List, [], ◌∷◌, ◌++◌}
use Rattle.go_tree.specs.GoWords.Tokens.Characters.{is_listed}

-- `nothing` is the form of no word, `empty` that of the empty word; `one_of` and `other_than` are a character among
-- these and one that isn't; `both` is one form after another, `either` one of two, and `many` any number of one
pub data Form : Type 0 where
  -- no word
  nothing : Form
  -- the word without characters
  empty : Form
  -- one of these characters
  one_of : List ℕ → Form
  -- one character that is none of these
  other_than : List ℕ → Form
  -- the one form and then the other
  both : Form → Form → Form
  -- the one form or the other
  either : Form → Form → Form
  -- the form any number of times
  many : Form → Form

-- the word has the form
pub data HasForm : Form → List ℕ → Type 0 where
  without : HasForm empty []
  listed : (cs : List ℕ) (c : ℕ) → is_listed cs c ≡ true → HasForm (one_of cs) (c ∷ [])
  unlisted : (cs : List ℕ) (c : ℕ) → is_listed cs c ≡ false → HasForm (other_than cs) (c ∷ [])
  joined : (f g : Form) (front back word : List ℕ) → word ≡ front ++ back → HasForm f front → HasForm g back →
      HasForm (both f g) word
  the_one : (f g : Form) (word : List ℕ) → HasForm f word → HasForm (either f g) word
  the_other : (f g : Form) (word : List ℕ) → HasForm g word → HasForm (either f g) word
  no_more : (f : Form) → HasForm (many f) []
  once_more : (f : Form) (front back word : List ℕ) → word ≡ front ++ back → HasForm f front → HasForm (many f) back →
      HasForm (many f) word

-- the forms one after the other
abbrev pub in_turn : List Form → Form
in_turn [] = empty
in_turn (f ∷ []) = f
in_turn (f ∷ g ∷ fs) = both f (in_turn (g ∷ fs))

-- any one of the forms
abbrev pub any_of : List Form → Form
any_of [] = nothing
any_of (f ∷ []) = f
any_of (f ∷ g ∷ fs) = either f (any_of (g ∷ fs))

-- the form, or nothing at all
abbrev pub maybe : Form → Form
maybe f = either f empty
