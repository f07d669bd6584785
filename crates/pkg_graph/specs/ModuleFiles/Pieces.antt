-- Parts of bytes: the elements of a path, the lines of a text, the fields of a line.
use Rattle.std.specs.Prelude.{ℕ, ◌==◌, Bool, true, false, if◌then◌else◌, nat_eq, nat_lt, List, []}
use Rattle.std.specs.Prelude.{◌∷◌, map, take, Option, None, Some, codes}
use Rattle.std.specs.List.{join_with_byte}
use Rattle.bstr.specs.Fields.{fields_acc}
use Rattle.bstr.specs.Find.{first_of, matches}
use Rattle.bstr.specs.Text.{lines_of, without_terminator}
use Rattle.bstr.specs.Utf8.{pieces, spans_from}
use Rattle.go_tree.specs.GoWords.Tokens.Characters.{is_blank}

-- the byte in up_to of the first piece
abbrev pub push_front : ℕ → List (List ℕ) → List (List ℕ)
push_front b [] = (b ∷ []) ∷ []
push_front b (p ∷ ps) = (b ∷ p) ∷ ps

-- what stands between the bytes that pass
abbrev pub split_by : (ℕ → Bool) → List ℕ → List (List ℕ)
split_by separates [] = [] ∷ []
split_by separates (b ∷ bs) = if separates b then [] ∷ split_by separates bs else push_front b (split_by separates bs)

-- ---- paths, which `/` separates

-- the elements of a path
abbrev pub elements : List ℕ → List (List ℕ)
elements path = split_by (λ b. b == 47) path

-- the elements but for the last
abbrev pub all_but_last : List (List ℕ) → List (List ℕ)
all_but_last [] = []
all_but_last (x ∷ []) = []
all_but_last (x ∷ y ∷ ys) = x ∷ all_but_last (y ∷ ys)

-- the last element
abbrev pub last_element : List (List ℕ) → List ℕ
last_element [] = []
last_element (x ∷ []) = x
last_element (x ∷ y ∷ ys) = last_element (y ∷ ys)

-- the names of the folders around a file, outermost first
abbrev pub folders : List ℕ → List (List ℕ)
folders path = all_but_last (elements path)

-- the path of the folder in which a file stands; the root's is empty
abbrev pub folder_of : List ℕ → List ℕ
folder_of path = join_with_byte 47 (folders path)

-- the name of a file without its folder
abbrev pub file_name : List ℕ → List ℕ
file_name path = last_element (elements path)

-- byte by byte: a path comes before its continuations
abbrev pub comes_before : List ℕ → List ℕ → Bool
comes_before a [] = false
comes_before [] (y ∷ ys) = true
comes_before (x ∷ xs) (y ∷ ys) = if nat_eq x y then comes_before xs ys else nat_lt x y

-- ---- lines and fields

-- the lines of a text, as bstr cuts it
abbrev pub lines : List ℕ → List (List ℕ)
lines text = map without_terminator (lines_of text)

-- the bytes before this place, or all
abbrev pub up_to : Option ℕ → List ℕ → List ℕ
up_to None bytes = bytes
up_to (Some k) bytes = take k bytes

-- a line up to its first `//`, as bstr finds it
abbrev pub before_comment : List ℕ → List ℕ
before_comment line = up_to (first_of (matches line (codes "//") 0)) line

-- it isn't empty
abbrev pub has_bytes : List ℕ → Bool
has_bytes [] = false
has_bytes (b ∷ bs) = true

-- the fields of a line, as bstr cuts it: the runs of characters other than blanks
abbrev pub fields : List ℕ → List (List ℕ)
fields line = fields_acc is_blank line None (spans_from 0 (pieces line))
