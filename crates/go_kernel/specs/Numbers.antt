-- Whole numbers of a kind (Go specification, "Arithmetic operators", "Integer operators", "Integer overflow",
-- "Conversions between numeric types").
use Rattle.std.specs.Prelude.{◌≡◌, ◌⊎◌, ◌<◌, ◌*◌, ℕ, ◌-◌, ◌^◌, Bool, true, false, List}
use Rattle.std.specs.Prelude.{[], ◌∷◌, if◌then◌else◌, nat_eq, nat_lt, ℤ, pos, negsuc, ◌+ℤ◌}
use Rattle.std.specs.Prelude.{◌-ℤ◌, ◌*ℤ◌, neg_ℤ, int_lt, int_div, int_rem, codes}
use Rattle.std.specs.Int.{int_bit_and, int_bit_or, int_bit_xor, int_rem_euclid, int_div_euclid, w128}
use Rattle.go_kernel.specs.Values.{Kind, Int, Int8, Int16, Int32, Int64, Uint, Uint8, Uint16, Uint32, Uint64, Value}
use Rattle.go_kernel.specs.Values.{Number, runtime_error}
use Rattle.go_kernel.specs.Ops.{Arithmetic, Add, Sub, Mul, And, Or, Xor, AndNot, Division, Quotient, Remainder}
use Rattle.go_kernel.specs.Ops.{Direction, Left, Right}
use Rattle.go_kernel.specs.Actions.{Attempt, Done, Panics}

-- how many bits a number of the kind has
abbrev pub bits : Kind → ℕ
bits Int = 64
bits Int8 = 8
bits Int16 = 16
bits Int32 = 32
bits Int64 = 64
bits Uint = 64
bits Uint8 = 8
bits Uint16 = 16
bits Uint32 = 32
bits Uint64 = 64

-- the kind has negative numbers
abbrev pub is_signed : Kind → Bool
is_signed Int = true
is_signed Int8 = true
is_signed Int16 = true
is_signed Int32 = true
is_signed Int64 = true
is_signed Uint = false
is_signed Uint8 = false
is_signed Uint16 = false
is_signed Uint32 = false
is_signed Uint64 = false

-- the least number of the kind; it has 2 ^ bits numbers from there on
abbrev pub least : Kind → ℤ
least k = if is_signed k then neg_ℤ (pos (2 ^ (bits k - 1))) else pos 0

-- the number of the kind that differs from z by a multiple of 2 ^ bits
abbrev pub wrap : Kind → ℤ → ℤ
wrap k z = int_rem_euclid (z -ℤ least k) (pos (2 ^ bits k)) +ℤ least k

-- two integers are equal
abbrev pub int_eq : ℤ → ℤ → Bool
int_eq (pos a) (pos b) = nat_eq a b
int_eq (negsuc a) (negsuc b) = nat_eq a b
int_eq (pos a) (negsuc b) = false
int_eq (negsuc a) (pos b) = false

-- bit by bit, negative numbers in two's complement
abbrev pub arithmetic : Arithmetic → ℤ → ℤ → ℤ
arithmetic Add a b = a +ℤ b
arithmetic Sub a b = a -ℤ b
arithmetic Mul a b = a *ℤ b
arithmetic And a b = int_bit_and w128 a b
arithmetic Or a b = int_bit_or w128 a b
arithmetic Xor a b = int_bit_xor w128 a b
arithmetic AndNot a b = int_bit_and w128 a (negsuc 0 -ℤ b)

-- the primitive of an operator that can't fail, wrapped to the kind
abbrev pub arith : Arithmetic → Kind → List Value → List Value
arith o k (Number j a ∷ Number l b ∷ []) = Number k (wrap k (arithmetic o a b)) ∷ []
arith o k _ = []

-- truncated toward zero; the least number divided by -1 wraps to itself
abbrev pub division : Division → ℤ → ℤ → ℤ
division Quotient a b = int_div a b
division Remainder a b = int_rem a b

-- the primitive of a division; by zero it panics
abbrev pub divide : Division → Kind → List Value → Attempt
divide o k (Number j a ∷ Number l b ∷ []) =
    elim (int_eq b (pos 0))
    [ true ↦ Panics (runtime_error (codes "divide")) | false ↦ Done (Number k (wrap k (division o a b)) ∷ []) ]
divide o k _ = Done []

-- by n places; no kind has more than 64, so past them only the sign is left
abbrev pub shifted : Direction → ℤ → ℕ → ℤ
shifted Left a n = elim (nat_lt n 64) [ true ↦ a *ℤ pos (2 ^ n) | false ↦ pos 0 ]
shifted Right a n =
    elim (nat_lt n 64)
    [ true ↦ int_div_euclid a (pos (2 ^ n)) | false ↦ (if int_lt a (pos 0) then negsuc 0 else pos 0) ]

-- the primitive of a shift; by a negative count it panics
abbrev pub shift : Direction → Kind → List Value → Attempt
shift d k (Number j a ∷ Number l (pos n) ∷ []) = Done (Number k (wrap k (shifted d a n)) ∷ [])
shift d k (Number j a ∷ Number l (negsuc n) ∷ []) = Panics (runtime_error (codes "shift"))
shift d k _ = Done []

-- the primitive `-`, wrapped to the kind
abbrev pub negate : Kind → List Value → List Value
negate k (Number j a ∷ []) = Number k (wrap k (neg_ℤ a)) ∷ []
negate k _ = []

-- all bits turned
abbrev pub complement : Kind → List Value → List Value
complement k (Number j a ∷ []) = Number k (wrap k (negsuc 0 -ℤ a)) ∷ []
complement k _ = []

-- a conversion to the kind
abbrev pub convert : Kind → List Value → List Value
convert k (Number j a ∷ []) = Number k (wrap k a) ∷ []
convert k _ = []

-- ---- what wrapping is for

-- z is one of the kind's numbers
abbrev pub IsOfKind : Kind → ℤ → Type 0
IsOfKind k z = (m : ℕ) × (m < 2 ^ bits k) × (z ≡ pos m +ℤ least k)

-- y and z differ by a multiple of 2 ^ bits, so they have the same lowest bits
abbrev pub SameBits : Kind → ℤ → ℤ → Type 0
SameBits k y z = (m : ℕ) × ((y +ℤ pos (m * 2 ^ bits k) ≡ z) ⊎ (z +ℤ pos (m * 2 ^ bits k) ≡ y))
