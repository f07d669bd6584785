-- How an import spec is written (Go specification, Import declarations; String literals).
use Rattle.std.specs.Prelude.{ℕ, ◌+◌, ◌==◌, ◌/◌, ◌%◌, Bool, not, ◌&&◌, ◌||◌, nat_le, nat_lt}
use Rattle.std.specs.Prelude.{if◌then◌else◌, List, [], ◌∷◌, ◌++◌, codes}
use Rattle.pkg_graph.specs.ModuleFiles.Pieces.{comes_before}
use Rattle.run_rules.specs.declared.import_rules.new_import.NewImport.{NewImport}

-- a hexadecimal digit in lower case
abbrev pub hex_digit : ℕ → ℕ
hex_digit d = if nat_lt d 10 then 48 + d else 87 + d

-- a byte 0x20 to 0x7e other than `"` and `\`
abbrev pub is_plain : ℕ → Bool
is_plain b = nat_le 32 b && (nat_le b 126 && not (b == 34 || b == 92))

-- a byte as it stands in a string, escaped where it has to be
abbrev pub quoted_byte : ℕ → List ℕ
quoted_byte b = if is_plain b then b ∷ [] else codes "\\x" ++ hex_digit (b / 16) ∷ hex_digit (b % 16) ∷ []

-- each byte
abbrev pub quoted_bytes : List ℕ → List ℕ
quoted_bytes [] = []
quoted_bytes (b ∷ bs) = quoted_byte b ++ quoted_bytes bs

-- an interpreted string of these bytes
abbrev pub quoted : List ℕ → List ℕ
quoted path = codes "\"" ++ (quoted_bytes path ++ codes "\"")

-- the name only where it isn't the package's own
abbrev pub spec_text : NewImport → List ℕ
spec_text i = if i.spelled then i.name ++ (codes " " ++ quoted i.path) else quoted i.path

-- ---- by path and then name

-- the one import doesn't stand behind the other
abbrev pub is_before : NewImport → NewImport → Bool
is_before i j = comes_before i.path j.path || (not (comes_before j.path i.path) && not (comes_before j.name i.name))

-- an import put among others that are in order
abbrev pub put : NewImport → List NewImport → List NewImport
put i [] = i ∷ []
put i (j ∷ js) = if is_before i j then i ∷ j ∷ js else j ∷ put i js

-- imports in their order
abbrev pub in_order : List NewImport → List NewImport
in_order [] = []
in_order (i ∷ is) = put i (in_order is)
