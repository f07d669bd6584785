-- What a string literal stands for (Go specification, Rune literals and String literals).
use Rattle.std.specs.Prelude.{ℕ, zero, suc, ◌+◌, ◌-◌, ◌*◌, Bool, ◌&&◌, nat_eq, nat_le, nat_lt}
use Rattle.std.specs.Prelude.{if◌then◌else◌, List, [], ◌∷◌, ◌++◌, length, take, drop, encode_utf8}

-- the value of a hexadecimal digit, by its code
abbrev pub hex_digit : ℕ → ℕ
hex_digit c = if nat_lt c 58 then c - 48 else (if nat_lt c 71 then c - 55 else c - 87)

-- the number that digits of a base spell, after those before them
abbrev pub digits_in : ℕ → ℕ → List ℕ → ℕ
digits_in base before [] = before
digits_in base before (c ∷ cs) = digits_in base (before * base + hex_digit c) cs

-- what stands for an escape of one letter; another character stands for itself
abbrev pub letter_escape : ℕ → ℕ
letter_escape c =
    if nat_eq c 97 then 7
    else (if nat_eq c 98 then 8
    else (if nat_eq c 102 then 12
    else (if nat_eq c 110 then 10
    else (if nat_eq c 114 then 13 else (if nat_eq c 116 then 9 else (if nat_eq c 118 then 11 else c))))))

-- an octal digit, by its code
abbrev pub is_octal : ℕ → Bool
is_octal c = nat_le 48 c && nat_lt c 56

-- the bytes that an escape stands for, without its backslash, and those of what follows it
abbrev pub escape_value : (List ℕ → List ℕ) → List ℕ → List ℕ
escape_value value [] = []
escape_value value (c ∷ cs) =
    if is_octal c then digits_in 8 0 (take 3 (c ∷ cs)) ∷ value (drop 2 cs)
    else (if nat_eq c 120 then digits_in 16 0 (take 2 cs) ∷ value (drop 2 cs)
    else (if nat_eq c 117 then encode_utf8 (digits_in 16 0 (take 4 cs)) ++ value (drop 4 cs)
    else (if nat_eq c 85 then encode_utf8 (digits_in 16 0 (take 8 cs)) ++ value (drop 8 cs)
    else letter_escape c ∷ value cs)))

-- the bytes that what stands between double quotes stands for, up to a number of steps
abbrev pub interpreted_value : ℕ → List ℕ → List ℕ
interpreted_value zero cs = []
interpreted_value (suc steps) [] = []
interpreted_value (suc steps) (c ∷ cs) =
    if nat_eq c 92 then escape_value (interpreted_value steps) cs else c ∷ interpreted_value steps cs

-- what stands between backquotes drops its carriage returns
abbrev pub raw_value : List ℕ → List ℕ
raw_value [] = []
raw_value (c ∷ cs) = if nat_eq c 13 then raw_value cs else c ∷ raw_value cs

-- what stands between the quotes
abbrev pub between_quotes : List ℕ → List ℕ
between_quotes cs = take (length cs - 2) (drop 1 cs)

-- the value of a string literal with this spelling
abbrev pub text_value : List ℕ → List ℕ
text_value [] = []
text_value (c ∷ cs) =
    if nat_eq c 96 then raw_value (between_quotes (c ∷ cs)) else interpreted_value (length cs) (between_quotes (c ∷ cs))
