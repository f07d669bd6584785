-- Comparisons and truth values (Go specification, "Comparison operators", "Logical operators"). Slices and maps are
-- compared with nil alone.
use Rattle.std.specs.Prelude.{Bool, true, false, not, ◌&&◌, ◌||◌, List, [], ◌∷◌, nat_eq, nat_lt, bytes_eq}
use Rattle.std.specs.Prelude.{int_lt}
use Rattle.go_kernel.specs.Names.{Text, same_text}
use Rattle.go_kernel.specs.Values.{Base, Numbered, Global, Value, Number, Truth, Str, Nil, Pointer, Empty, With}
use Rattle.go_kernel.specs.Numbers.{int_eq}
use Rattle.go_kernel.specs.Ops.{Comparison, Equal, NotEqual, Less, LessOrEqual, Greater, GreaterOrEqual}

-- two truth values are equal
abbrev pub same_truth : Bool → Bool → Bool
same_truth true b = b
same_truth false b = not b

-- pointers are equal where they lead to the same variable; distinct ones have distinct cells or paths, whatever their
-- size
abbrev pub same_base : Base → Base → Bool
same_base (Numbered p) (Numbered q) = nat_eq p q
same_base (Global p n) (Global q m) = same_text p q && same_text n m
same_base _ _ = false

-- two values are equal
abbrev pub same_value : Value → Value → Bool
same_value (Number j a) (Number k b) = int_eq a b
same_value (Truth a) (Truth b) = same_truth a b
same_value (Str a) (Str b) = bytes_eq a b
same_value Nil Nil = true
same_value (Pointer b is) (Pointer d js) = same_base b d && bytes_eq is js
same_value Empty Empty = true
same_value (With v vs) (With w ws) = same_value v w && same_value vs ws
same_value _ _ = false

-- byte by byte
abbrev pub text_before : Text → Text → Bool
text_before [] [] = false
text_before [] (y ∷ ys) = true
text_before (x ∷ xs) [] = false
text_before (x ∷ xs) (y ∷ ys) = nat_lt x y || (nat_eq x y && text_before xs ys)

-- of two numbers or two strings, the first is less
abbrev pub before : Value → Value → Bool
before (Number j a) (Number k b) = int_lt a b
before (Str a) (Str b) = text_before a b
before _ _ = false

-- a comparison holds of two values
abbrev pub holds : Comparison → Value → Value → Bool
holds Equal v w = same_value v w
holds NotEqual v w = not (same_value v w)
holds Less v w = before v w
holds LessOrEqual v w = not (before w v)
holds Greater v w = before w v
holds GreaterOrEqual v w = not (before v w)

-- the primitive of a comparison
abbrev pub compare : Comparison → List Value → List Value
compare o (v ∷ w ∷ []) = Truth (holds o v w) ∷ []
compare o _ = []

-- the primitive `!`
abbrev pub negation : List Value → List Value
negation (Truth b ∷ []) = Truth (not b) ∷ []
negation _ = []
