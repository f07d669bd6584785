-- The file `go.mod` (Go Modules Reference, go.mod files: Lexical elements, Module paths and versions, module directive,
-- go directive).
use Rattle.std.specs.Prelude.{ℕ, ◌+◌, ◌-◌, ◌*◌, ◌==◌, Bool, false, not, ◌&&◌, ◌||◌, nat_le}
use Rattle.std.specs.Prelude.{nat_lt, nat_eq, min, length, if◌then◌else◌, bytes_eq, List, [], ◌∷◌, take}
use Rattle.std.specs.Prelude.{drop, fold, Option, Some, None, option_and_then, codes}
use Rattle.std.specs.List.{list_all, prefix_len, ends_with}
use Rattle.pkg_graph.specs.ModuleFiles.Pieces.{lines, before_comment, fields, has_bytes}

-- the second of exactly two words, where the first is this one
abbrev pub second_of : List ℕ → List (List ℕ) → Option (List ℕ)
second_of word (first ∷ second ∷ []) = if bytes_eq first word then Some second else None
second_of word _ = None

-- the second of exactly two fields of a line, where the first is the word
unfoldable pub argument_in : List ℕ → List ℕ → Option (List ℕ)
argument_in word line = second_of word (fields line)

-- the first that is there
abbrev pub or_else : {A : Type 0} → Option A → Option A → Option A
or_else None other = other
or_else (Some x) other = Some x

-- of the first line of two fields whose first is the word, the second field
abbrev pub first_argument : List ℕ → List (List ℕ) → Option (List ℕ)
first_argument word [] = None
first_argument word (l ∷ ls) = or_else (argument_in word (before_comment l)) (first_argument word ls)

-- the same of the lines of a text
abbrev pub argument_of : List ℕ → List ℕ → Option (List ℕ)
argument_of word text = first_argument word (lines text)

-- ---- the module line

-- a double quote or a backquote
abbrev pub is_quote : ℕ → Bool
is_quote b = b == 34 || b == 96

-- without a pair of quotes around it
unfoldable pub unquoted : List ℕ → List ℕ
unquoted [] = []
unquoted (q ∷ rest) = if is_quote q && ends_with nat_eq rest (q ∷ []) then take (length rest - 1) rest else q ∷ rest

-- a printable byte of ASCII other than a blank or a quote
abbrev pub is_path_byte : ℕ → Bool
is_path_byte b = nat_le 0x21 b && (nat_le b 0x7e && not (is_quote b))

-- bytes such as those, one or more
abbrev pub is_module_path : List ℕ → Bool
is_module_path path = has_bytes path && list_all is_path_byte path

-- the module path that a field holds
abbrev pub path_in : List ℕ → Option (List ℕ)
path_in argument = if is_module_path (unquoted argument) then Some (unquoted argument) else None

-- the path of the module line
unfoldable pub module_path : List ℕ → Option (List ℕ)
module_path text = option_and_then path_in (argument_of (codes "module") text)

-- ---- the go line

-- a decimal digit
abbrev pub is_decimal : ℕ → Bool
is_decimal b = nat_le 48 b && nat_le b 57

-- the digits at the front, and what is behind them
unfoldable pub digits : List ℕ → List ℕ
digits bytes = take (prefix_len is_decimal bytes) bytes

-- what is behind the digits at the front
unfoldable pub behind_digits : List ℕ → List ℕ
behind_digits bytes = drop (prefix_len is_decimal bytes) bytes

-- numbers from 1,000,000 on count as 1,000,000
abbrev pub next_number : ℕ → ℕ → ℕ
next_number n d = min (n * 10 + (d - 48)) 1000000

-- the number that digits spell
abbrev pub number_of : List ℕ → ℕ
number_of ds = fold next_number 0 ds

-- one digit or more, of a number below 1,000,000
unfoldable pub is_number : List ℕ → Bool
is_number ds = has_bytes ds && nat_lt (number_of ds) 1000000

-- the numbers are those of a version from 1.22 on
abbrev pub is_recent : ℕ → ℕ → Bool
is_recent major minor = nat_lt 1 major || (major == 1 && nat_le 22 minor)

-- what is behind a major number: a dot and a minor number
unfoldable pub is_minor : ℕ → List ℕ → Bool
is_minor major [] = false
is_minor major (b ∷ bs) = b == 46 && (is_number (digits bs) && is_recent major (number_of (digits bs)))

-- digits, a dot, digits and any rest, from 1.22 on
unfoldable pub is_version : List ℕ → Bool
is_version version = is_number (digits version) && is_minor (number_of (digits version)) (behind_digits version)

-- ---- what the file says

-- a path, or why there is none
pub data ModuleAnswer : Type 0 where
  is_module : List ℕ → ModuleAnswer
  no_module_line : ModuleAnswer
  -- the version's text, or `none`
  old_go : List ℕ → ModuleAnswer

-- by the version of the go line
unfoldable pub version_answer : List ℕ → Option (List ℕ) → ModuleAnswer
version_answer path None = old_go (codes "none")
version_answer path (Some version) = if is_version version then is_module path else old_go version

-- by the path of the module line
unfoldable pub path_answer : List ℕ → Option (List ℕ) → ModuleAnswer
path_answer text None = no_module_line
path_answer text (Some path) = version_answer path (argument_of (codes "go") text)

-- What a text says as `go.mod`.
abbrev pub module_of : List ℕ → ModuleAnswer
module_of text = path_answer text (module_path text)
