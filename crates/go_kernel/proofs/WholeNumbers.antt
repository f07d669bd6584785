-- Checks: whole numbers (Go specification, "Arithmetic operators", "Integer operators", "Integer overflow", "Conversions").
use Rattle.std.proofs.Common.{◌≡◌, refl}
use Rattle.std.specs.Prelude.{◌-◌, ◌^◌, [], ◌∷◌, pos, negsuc}
use Rattle.go_kernel.specs.Kernel.{Int, Int8, Int16, Int32, Int64, Uint, Uint8, Uint16, Uint32, Uint64, Value, Number, Op, Arith, Add, Sub, Mul, And, Or, Xor, AndNot, Divide, Quotient, Remainder, Shift, Left, Right, Negate, Complement, Convert, Checked, Unchecked, Answer, Ok, prim}
use Rattle.go_kernel.proofs.Programs.{int, minus, fresh}

-- a primitive on two numbers of a kind, and its one value
abbrev on_two : Op → Value → Value → Answer
on_two o a b = prim o (a ∷ b ∷ []) fresh

abbrev on_one : Op → Value → Answer
on_one o a = prim o (a ∷ []) fresh

abbrev is : Value → Answer
is v = Ok (v ∷ []) fresh []

-- ---- the greatest number and 1 is the least

int_wraps : on_two (Arith Add Int) (Number Int (pos (2 ^ 63 - 1))) (int 1) ≡ is (Number Int (negsuc (2 ^ 63 - 1)))
unfolding prim
int_wraps = refl

int8_wraps : on_two (Arith Add Int8) (Number Int8 (pos 127)) (Number Int8 (pos 1)) ≡ is (Number Int8 (negsuc 127))
unfolding prim
int8_wraps = refl

int16_wraps : on_two (Arith Add Int16) (Number Int16 (pos 32767)) (Number Int16 (pos 1)) ≡ is (Number Int16 (negsuc 32767))
unfolding prim
int16_wraps = refl

int32_wraps : on_two (Arith Add Int32) (Number Int32 (pos 2147483647)) (Number Int32 (pos 1)) ≡ is (Number Int32 (negsuc 2147483647))
unfolding prim
int32_wraps = refl

int64_wraps : on_two (Arith Add Int64) (Number Int64 (pos 9223372036854775807)) (Number Int64 (pos 1)) ≡ is (Number Int64 (negsuc 9223372036854775807))
unfolding prim
int64_wraps = refl

uint_wraps : on_two (Arith Add Uint) (Number Uint (pos (2 ^ 64 - 1))) (Number Uint (pos 1)) ≡ is (Number Uint (pos 0))
unfolding prim
uint_wraps = refl

uint8_wraps : on_two (Arith Add Uint8) (Number Uint8 (pos 255)) (Number Uint8 (pos 1)) ≡ is (Number Uint8 (pos 0))
unfolding prim
uint8_wraps = refl

uint16_wraps : on_two (Arith Add Uint16) (Number Uint16 (pos 65535)) (Number Uint16 (pos 1)) ≡ is (Number Uint16 (pos 0))
unfolding prim
uint16_wraps = refl

uint32_wraps : on_two (Arith Add Uint32) (Number Uint32 (pos 4294967295)) (Number Uint32 (pos 1)) ≡ is (Number Uint32 (pos 0))
unfolding prim
uint32_wraps = refl

uint64_wraps : on_two (Arith Add Uint64) (Number Uint64 (pos 18446744073709551615)) (Number Uint64 (pos 1)) ≡ is (Number Uint64 (pos 0))
unfolding prim
uint64_wraps = refl

-- below the least number, and by a product
uint8_below : on_two (Arith Sub Uint8) (Number Uint8 (pos 0)) (Number Uint8 (pos 1)) ≡ is (Number Uint8 (pos 255))
unfolding prim
uint8_below = refl

int8_product : on_two (Arith Mul Int8) (Number Int8 (pos 100)) (Number Int8 (pos 3)) ≡ is (Number Int8 (pos 44))
unfolding prim
int8_product = refl

-- ---- quotients and remainders of 5 and 3 with both signs

quotient_1 : on_two (Divide Checked Quotient Int) (int 5) (int 3) ≡ is (int 1)
unfolding prim
quotient_1 = refl

quotient_2 : on_two (Divide Checked Quotient Int) (minus 5) (int 3) ≡ is (minus 1)
unfolding prim
quotient_2 = refl

quotient_3 : on_two (Divide Checked Quotient Int) (int 5) (minus 3) ≡ is (minus 1)
unfolding prim
quotient_3 = refl

quotient_4 : on_two (Divide Checked Quotient Int) (minus 5) (minus 3) ≡ is (int 1)
unfolding prim
quotient_4 = refl

remainder_1 : on_two (Divide Checked Remainder Int) (int 5) (int 3) ≡ is (int 2)
unfolding prim
remainder_1 = refl

remainder_2 : on_two (Divide Checked Remainder Int) (minus 5) (int 3) ≡ is (minus 2)
unfolding prim
remainder_2 = refl

remainder_3 : on_two (Divide Checked Remainder Int) (int 5) (minus 3) ≡ is (int 2)
unfolding prim
remainder_3 = refl

remainder_4 : on_two (Divide Checked Remainder Int) (minus 5) (minus 3) ≡ is (minus 2)
unfolding prim
remainder_4 = refl

-- the least number divided by -1 is itself, and its remainder is 0
least_quotient : on_two (Divide Checked Quotient Int8) (Number Int8 (negsuc 127)) (Number Int8 (negsuc 0)) ≡ is (Number Int8 (negsuc 127))
unfolding prim
least_quotient = refl

least_remainder : on_two (Divide Checked Remainder Int8) (Number Int8 (negsuc 127)) (Number Int8 (negsuc 0)) ≡ is (Number Int8 (pos 0))
unfolding prim
least_remainder = refl

-- a constant divisor needs no check, and gives the same
unchecked_quotient : on_two (Divide Unchecked Quotient Int) (minus 11) (int 4) ≡ is (minus 2)
unfolding prim
unchecked_quotient = refl

-- ---- 11 and -11 by 4 as a shift and a mask

shift_1 : on_two (Shift Unchecked Right Int) (int 11) (Number Uint (pos 2)) ≡ is (int 2)
unfolding prim
shift_1 = refl

shift_2 : on_two (Shift Unchecked Right Int) (minus 11) (Number Uint (pos 2)) ≡ is (minus 3)
unfolding prim
shift_2 = refl

mask_1 : on_two (Arith And Int) (int 11) (int 3) ≡ is (int 3)
unfolding prim
mask_1 = refl

mask_2 : on_two (Arith And Int) (minus 11) (int 3) ≡ is (int 1)
unfolding prim
mask_2 = refl

-- a count has no upper limit; the left operand is shifted n times by 1
all_out : on_two (Shift Checked Left Uint8) (Number Uint8 (pos 255)) (int 8) ≡ is (Number Uint8 (pos 0))
unfolding prim
all_out = refl

far_left : on_two (Shift Unchecked Left Int) (int 1) (Number Uint64 (pos 18446744073709551615)) ≡ is (int 0)
unfolding prim
far_left = refl

far_right : on_two (Shift Unchecked Right Int) (minus 1) (Number Uint64 (pos 18446744073709551615)) ≡ is (minus 1)
unfolding prim
far_right = refl

sign_bit : on_two (Shift Checked Left Int8) (Number Int8 (pos 1)) (int 7) ≡ is (Number Int8 (negsuc 127))
unfolding prim
sign_bit = refl

-- ---- bits

or_bits : on_two (Arith Or Uint8) (Number Uint8 (pos 12)) (Number Uint8 (pos 10)) ≡ is (Number Uint8 (pos 14))
unfolding prim
or_bits = refl

xor_bits : on_two (Arith Xor Int) (int 12) (int 10) ≡ is (int 6)
unfolding prim
xor_bits = refl

clear_bits : on_two (Arith AndNot Uint64) (Number Uint64 (pos 18446744073709551615)) (Number Uint64 (pos 15)) ≡ is (Number Uint64 (pos 18446744073709551600))
unfolding prim
clear_bits = refl

-- ^x is x ^ m, with m all bits set for an unsigned x and -1 for a signed one
complement_signed : on_one (Complement Int) (int 1) ≡ is (minus 2)
unfolding prim
complement_signed = refl

complement_unsigned : on_one (Complement Uint8) (Number Uint8 (pos 1)) ≡ is (Number Uint8 (pos 254))
unfolding prim
complement_unsigned = refl

-- -x is 0 - x
negate_least : on_one (Negate Int8) (Number Int8 (negsuc 127)) ≡ is (Number Int8 (negsuc 127))
unfolding prim
negate_least = refl

negate_unsigned : on_one (Negate Uint16) (Number Uint16 (pos 1)) ≡ is (Number Uint16 (pos 65535))
unfolding prim
negate_unsigned = refl

-- ---- conversions: uint32(int8(uint16(0x10F0))) is 0xFFFFFFF0

narrowed : on_one (Convert Int8) (Number Uint16 (pos 4336)) ≡ is (Number Int8 (negsuc 15))
unfolding prim
narrowed = refl

widened : on_one (Convert Uint32) (Number Int8 (negsuc 15)) ≡ is (Number Uint32 (pos 4294967280))
unfolding prim
widened = refl
