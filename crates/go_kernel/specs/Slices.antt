-- Strings and slices (Go specification, "String types", "Slice types", "Index expressions", "Slice expressions",
-- "Length and capacity", "Making slices, maps and channels", "Appending to and copying slices", "Conversions to and
-- from a string type").
use Rattle.std.specs.Prelude.{ℕ, zero, suc, ◌+◌, ◌-◌, ◌*◌, ◌^◌, Bool, true, false, ◌&&◌, List, []}
use Rattle.std.specs.Prelude.{◌∷◌, ◌++◌, length, map, take, drop, if◌then◌else◌, Option, Some, None}
use Rattle.std.specs.Prelude.{nat_lt, nat_le, ℤ, pos, negsuc, slice_get, slice_set, codes}
use Rattle.go_kernel.specs.Values.{Numbered, Value, Int, Uint8, Number, Str, Nil, Pointer, Slice, or_nil, runtime_error}
use Rattle.go_kernel.specs.Store.{Memory, Elements, allocated, with_cell, elements_at}
use Rattle.go_kernel.specs.Actions.{Attempt, Done, Panics, Change, Outcome, Changes, Refuses}

-- a number of type int
abbrev pub int : ℕ → Value
int n = Number Int (pos n)

-- a number of type byte
abbrev pub byte : ℕ → Value
byte b = Number Uint8 (pos b)

-- the primitive `+` of strings
abbrev pub concat : List Value → List Value
concat (Str a ∷ Str b ∷ []) = Str (a ++ b) ∷ []
concat _ = []

-- ---- length and capacity, which nil has too

-- the length of a string or a slice; nil has length 0
abbrev pub length_of : Value → ℕ
length_of (Str t) = length t
length_of (Slice p from len cap) = len
length_of _ = 0

-- the capacity of a slice; nil has capacity 0
abbrev pub capacity_of : Value → ℕ
capacity_of (Slice p from len cap) = cap
capacity_of _ = 0

-- the primitive `len` of strings and slices
abbrev pub len : List Value → List Value
len (s ∷ []) = int (length_of s) ∷ []
len _ = []

-- the primitive `cap` of slices
abbrev pub cap : List Value → List Value
cap (s ∷ []) = int (capacity_of s) ∷ []
cap _ = []

-- ---- elements

-- the panic of an index out of range
abbrev pub no_index : Attempt
no_index = Panics (runtime_error (codes "index"))

-- goes on with an index within the length
abbrev pub at_index : ℕ → ℤ → (ℕ → Attempt) → Attempt
at_index n (negsuc i) k = no_index
at_index n (pos i) k = if nat_lt i n then k i else no_index

-- the element at a place of a cell
abbrev pub element_at : ℕ → ℕ → Memory → Value
element_at p i c = or_nil (slice_get (elements_at p c) i)

-- the primitive that reads an element of a slice
abbrev pub element : List Value → Memory → Attempt
element (Slice p from n cap ∷ Number k i ∷ []) c = at_index n i (λ j. Done (element_at p (from + j) c ∷ []))
element (Nil ∷ Number k i ∷ []) c = no_index
element _ c = Done []

-- the primitive that gives the address of a slice's element
abbrev pub element_address : List Value → Attempt
element_address (Slice p from n cap ∷ Number k i ∷ []) =
    at_index n i (λ j. Done (Pointer (Numbered p) ((from + j) ∷ []) ∷ []))
element_address (Nil ∷ Number k i ∷ []) = no_index
element_address _ = Done []

-- a byte that may be there, as a value
abbrev pub byte_or_nil : Option ℕ → Value
byte_or_nil None = Nil
byte_or_nil (Some b) = byte b

-- the primitive that reads a byte of a string
abbrev pub byte_at : List Value → Attempt
byte_at (Str t ∷ Number k i ∷ []) = at_index (length t) i (λ j. Done (byte_or_nil (slice_get t j) ∷ []))
byte_at _ = Done []

-- ---- slicing

-- the lower bound of a slice expression: the first operand, or 0
abbrev pub low_bound : Bool → List Value → ℤ
low_bound true (Number k i ∷ is) = i
low_bound _ _ = pos 0

-- the higher bound of a slice expression: the last operand, or the length
abbrev pub high_bound : Bool → Bool → ℕ → List Value → ℤ
high_bound true true n (i ∷ Number k j ∷ []) = j
high_bound false true n (Number k j ∷ []) = j
high_bound _ _ n _ = pos n

-- goes on with bounds in order, the higher within the limit
abbrev pub within : ℕ → ℤ → ℤ → (ℕ → ℕ → Value) → Attempt
within n (pos a) (pos b) k =
    if nat_le a b && nat_le b n then Done (k a b ∷ []) else Panics (runtime_error (codes "bounds"))
within n _ _ k = Panics (runtime_error (codes "bounds"))

-- a string is cut within its length, a slice within its capacity; a slice of nil is nil
abbrev pub cut_out : Value → ℤ → ℤ → Attempt
cut_out (Str t) a b = within (length t) a b (λ i j. Str (take (j - i) (drop i t)))
cut_out (Slice p from n cap) a b = within cap a b (λ i j. Slice p (from + i) (j - i) (cap - i))
cut_out Nil a b = within 0 a b (λ i j. Nil)
cut_out _ a b = Done []

-- the primitive of a slice expression, with or without a low and a high bound
abbrev pub slicing : Bool → Bool → List Value → Attempt
slicing low high (s ∷ is) = cut_out s (low_bound low is) (high_bound low high (length_of s) is)
slicing low high [] = Done []

-- ---- new slices

-- n times the value
abbrev pub copies : ℕ → Value → List Value
copies zero v = []
copies (suc n) v = v ∷ copies n v

-- a new list of elements, and a slice of the first n of it
abbrev pub new_slice : ℕ → List Value → Memory → Change
new_slice n vs c =
    record { values = Slice (length c.cells) 0 n (length vs) ∷ []; memory = allocated (Elements vs) c; events = [] }

-- the list with values set at these places
abbrev pub put_all_at : List ℕ → List Value → List Value → List Value
put_all_at (i ∷ is) (v ∷ vs) zs = put_all_at is vs (slice_set zs i v)
put_all_at _ _ zs = zs

-- one past the greatest index
abbrev pub past : ℕ → ℕ → ℕ
past i n = if nat_lt i n then n else suc i

-- how many elements a slice literal has whose values have these indices
abbrev pub span_of : List ℕ → ℕ
span_of [] = 0
span_of (i ∷ is) = past i (span_of is)

-- a slice literal, with the zero value where no value stands
abbrev pub slice_lit : Value → List ℕ → List Value → Memory → Change
slice_lit z is vs c = new_slice (span_of is) (put_all_at is vs (copies (span_of is) z)) c

-- the panic of a bad size
abbrev pub no_size : Outcome
no_size = Refuses (runtime_error (codes "size"))

-- a size is bad where it is negative or no int, or the length is above the capacity
abbrev pub made : Value → ℤ → ℤ → Memory → Outcome
made z (pos n) (pos m) c =
    elim (nat_le n m && nat_lt m (2 ^ 63)) [ true ↦ Changes (new_slice n (copies m z) c) | false ↦ no_size ]
made z _ _ c = no_size

-- `make` of a slice, with a length or with a capacity too
abbrev pub make_slice : Value → List Value → Memory → Outcome
make_slice z (Number k n ∷ []) c = made z n n c
make_slice z (Number k n ∷ Number l m ∷ []) c = made z n m c
make_slice z _ c = Changes (record { values = []; memory = c; events = [] })

-- ---- append and copy

-- what a slice or a string has
abbrev pub contents : Value → Memory → List Value
contents (Slice p from n cap) c = take n (drop from (elements_at p c))
contents (Str t) c = map byte t
contents _ c = []

-- a list with vs from place i on
abbrev pub spliced : ℕ → List Value → List Value → List Value
spliced i vs xs = take i xs ++ (vs ++ drop (i + length vs) xs)

-- elements of a slice written from its place i on
abbrev pub filled : Value → ℕ → List Value → Memory → Memory
filled (Slice p from n cap) i vs c = with_cell p (Elements (spliced (from + i) vs (elements_at p c))) c
filled _ i vs c = c

-- a slice k elements longer, in the same cell
abbrev pub extended : Value → ℕ → Value
extended (Slice p from n cap) k = Slice p from (n + k) cap
extended s k = s

-- past the capacity the new one is the greater of twice the old and the need
abbrev pub grown : ℕ → ℕ → ℕ
grown old need = if nat_lt (2 * old) need then need else 2 * old

-- a slice with values appended: in its own cell where its capacity allows, else in a new one
abbrev pub append_to : Value → Value → List Value → Memory → Change
append_to z s vs c =
    elim (nat_le (length_of s + length vs) (capacity_of s)) [
      | true ↦ record { values = extended s (length vs) ∷ []; memory = filled s (length_of s) vs c; events = [] }
      | false ↦ let need : ℕ =
          length_of s + length vs in new_slice need
          (contents s c ++ (vs ++ copies (grown (capacity_of s) need - need) z)) c
    ]

-- the primitive `append` of single values
abbrev pub append : Value → List Value → Memory → Change
append z (s ∷ vs) c = append_to z s vs c
append z [] c = record { values = []; memory = c; events = [] }

-- the source is read as a whole before the destination is written
abbrev pub copy_to : Value → List Value → Memory → Change
copy_to d vs c =
    let n : ℕ = length
    (take (length_of d) vs) in record { values = int n ∷ []; memory = filled d 0 (take n vs) c; events = [] }

-- the primitive `copy`
abbrev pub copy : List Value → Memory → Change
copy (d ∷ s ∷ []) c = copy_to d (contents s c) c
copy _ c = record { values = []; memory = c; events = [] }

-- ---- strings from and to bytes

-- a value as a byte
abbrev pub byte_of : Value → ℕ
byte_of (Number k (pos n)) = n
byte_of _ = 0

-- the conversion of a slice of bytes to a string
abbrev pub string_of_bytes : List Value → Memory → List Value
string_of_bytes (s ∷ []) c = Str (map byte_of (contents s c)) ∷ []
string_of_bytes _ c = []

-- the conversion of a string to a slice of bytes
abbrev pub bytes_of_string : List Value → Memory → Change
bytes_of_string (s ∷ []) c = let vs : List Value = contents s c in new_slice (length vs) vs c
bytes_of_string _ c = record { values = []; memory = c; events = [] }
