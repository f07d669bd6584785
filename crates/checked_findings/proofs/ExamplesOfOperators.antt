-- What is found in statements with operators, by go/types of Go 1.19: of each expression, its parts before it, the type
-- and the constant that `types.Info.Types` has (Go specification, Operators; Constant expressions).
use Rattle.std.specs.Prelude.{◌≡◌, refl, [], ◌∷◌, true, false, pos, negsuc, Some, None, codes}
use Rattle.go_tree.specs.declared.operators.BinOp.TheVariants.{Mul, Shl, Shr, Add, Eq, Lt, LogAnd}
use Rattle.go_tree.specs.declared.operators.UnOp.TheVariants.{Minus, Not, Flip}
use Rattle.go_tree.specs.declared.const_eval.kinds.Kind.TheVariants as kind
use Rattle.go_tree.specs.declared.const_eval.consts.Const.TheVariants.{Whole, Truth, Bytes}
use Rattle.go_tree.specs.GoTypes.Types.{basic, untyped, named_type, slice_of, tuple_of, no_go_types}
use Rattle.go_tree.proofs.GoTypes.Trees.{v, int, rune, str, idx, app, un, bin, ty, ss, vr, ev, stp, asg, def}
use Rattle.checked_findings.proofs.Told.{told, int_type}

-- x = x + 1
sum_of_variable_and_constant : told [] (ss (asg (v (codes "x") ∷ []) None (bin Add (v (codes "x")) (int (codes "1")) ∷
    []) ∷ []))
    ≡ ((basic kind.Int8, None) ∷ (basic kind.Int8, None) ∷ (basic kind.Int8, Some (Whole (pos 1))) ∷ (
      basic kind.Int8,
      None,
    ) ∷ [])
sum_of_variable_and_constant = refl

-- x = x + (1 + 2)
constant_sum_beside_variable : told [] (ss (asg (v (codes "x") ∷ []) None (bin Add (v (codes "x")) (bin Add (int (codes
    "1")) (int (codes "2"))) ∷ []) ∷ []))
    ≡ ((basic kind.Int8, None) ∷ (basic kind.Int8, None) ∷ (untyped kind.UntypedInt, Some (Whole (pos 1))) ∷ (
      untyped
          kind.UntypedInt,
      Some (Whole (pos 2)),
    ) ∷ (basic kind.Int8, Some (Whole (pos 3))) ∷ (basic kind.Int8, None) ∷ [])
constant_sum_beside_variable = refl

-- print(1 + 2)
constants_alone : told [] (ss (ev (app (v (codes "print")) (bin Add (int (codes "1")) (int (codes "2")) ∷ [])) ∷ []))
    ≡ ((untyped kind.UntypedInt, Some (Whole (pos 1))) ∷ (untyped kind.UntypedInt, Some (Whole (pos 2))) ∷ (
      int_type,
      Some (Whole (pos 3)),
    ) ∷ (tuple_of no_go_types, None) ∷ [])
constants_alone = refl

-- print(1 + '\x61')
rune_beside_number : told [] (ss (ev (app (v (codes "print")) (bin Add (int (codes "1")) (rune (codes "'\\x61'")) ∷ []))
    ∷ []))
    ≡ ((untyped kind.UntypedRune, Some (Whole (pos 1))) ∷ (untyped kind.UntypedRune, Some (Whole (pos 97))) ∷ (
      basic
          kind.Int32,
      Some (Whole (pos 98)),
    ) ∷ (tuple_of no_go_types, None) ∷ [])
rune_beside_number = refl

-- print((1+2)*'\x61')
product_of_constants_first : told [] (ss (ev (app (v (codes "print")) (bin Mul (bin Add (int (codes "1")) (int (codes
    "2"))) (rune (codes "'\\x61'")) ∷ [])) ∷ []))
    ≡ ((untyped kind.UntypedInt, Some (Whole (pos 1))) ∷ (untyped kind.UntypedInt, Some (Whole (pos 2))) ∷ (
      untyped
          kind.UntypedRune,
      Some (Whole (pos 3)),
    ) ∷ (untyped kind.UntypedRune, Some (Whole (pos 97))) ∷ (
      basic kind.Int32,
      Some (Whole (pos 291)),
    ) ∷ (tuple_of no_go_types, None) ∷ [])
product_of_constants_first = refl

-- i = -1
negative_constant : told [] (ss (asg (v (codes "i") ∷ []) None (un Minus (int (codes "1")) ∷ []) ∷ []))
    ≡ ((int_type, None) ∷ (untyped kind.UntypedInt, Some (Whole (pos 1))) ∷ (int_type, Some (Whole (negsuc 0))) ∷ [])
negative_constant = refl

-- print(-(-1))
negative_of_negative : told [] (ss (ev (app (v (codes "print")) (un Minus (un Minus (int (codes "1"))) ∷ [])) ∷ []))
    ≡ ((untyped kind.UntypedInt, Some (Whole (pos 1))) ∷ (untyped kind.UntypedInt, Some (Whole (negsuc 0))) ∷ (
      int_type,
      Some (Whole (pos 1)),
    ) ∷ (tuple_of no_go_types, None) ∷ [])
negative_of_negative = refl

-- x = ^1
flipped_constant : told [] (ss (asg (v (codes "x") ∷ []) None (un Flip (int (codes "1")) ∷ []) ∷ []))
    ≡ ((basic kind.Int8, None) ∷ (untyped kind.UntypedInt, Some (Whole (pos 1))) ∷ (
      basic kind.Int8,
      Some (Whole (negsuc
          1)),
    ) ∷ [])
flipped_constant = refl

-- x = x << 1
shift_by_constant : told [] (ss (asg (v (codes "x") ∷ []) None (bin Shl (v (codes "x")) (int (codes "1")) ∷ []) ∷ []))
    ≡ ((basic kind.Int8, None) ∷ (basic kind.Int8, None) ∷ (untyped kind.UntypedInt, Some (Whole (pos 1))) ∷ (
      basic
          kind.Int8,
      None,
    ) ∷ [])
shift_by_constant = refl

-- u = 1 << 3
constant_shifted_by_constant : told [] (ss (asg (v (codes "u") ∷ []) None (bin Shl (int (codes "1")) (int (codes "3")) ∷
    []) ∷ []))
    ≡ ((basic kind.Uint, None) ∷ (untyped kind.UntypedInt, Some (Whole (pos 1))) ∷ (
      untyped kind.UntypedInt,
      Some (Whole
          (pos 3)),
    ) ∷ (basic kind.Uint, Some (Whole (pos 8))) ∷ [])
constant_shifted_by_constant = refl

-- a := 1 << i; print(a)
untyped_shift_defined : told [] (ss (def (codes "a" ∷ []) (bin Shl (int (codes "1")) (v (codes "i")) ∷ []) ∷ ev (app (v
    (codes "print")) (v (codes "a") ∷ [])) ∷ []))
    ≡ ((int_type, Some (Whole (pos 1))) ∷ (int_type, None) ∷ (int_type, None) ∷ (int_type, None) ∷ (
      tuple_of
          no_go_types,
      None,
    ) ∷ [])
untyped_shift_defined = refl

-- var a int8 = 1 << i; print(a)
untyped_shift_of_type : told [] (ss (vr ((
  (codes "a" ∷ []),
  (
    Some (ty (codes "int8")),
    (bin Shl (int (codes "1")) (v
        (codes "i")) ∷ []),
  ),
) ∷ []) ∷ ev (app (v (codes "print")) (v (codes "a") ∷ [])) ∷ []))
    ≡ ((basic kind.Int8, Some (Whole (pos 1))) ∷ (int_type, None) ∷ (basic kind.Int8, None) ∷ (basic kind.Int8, None) ∷
    (tuple_of no_go_types, None) ∷ [])
untyped_shift_of_type = refl

-- x = 2 + 1<<i
untyped_shift_in_sum : told [] (ss (asg (v (codes "x") ∷ []) None (bin Add (int (codes "2")) (bin Shl (int (codes "1"))
    (v (codes "i"))) ∷ []) ∷ []))
    ≡ ((basic kind.Int8, None) ∷ (basic kind.Int8, Some (Whole (pos 2))) ∷ (basic kind.Int8, Some (Whole (pos 1))) ∷
    (int_type, None) ∷ (basic kind.Int8, None) ∷ (basic kind.Int8, None) ∷ [])
untyped_shift_in_sum = refl

-- x = -(1 << i)
untyped_shift_negated : told [] (ss (asg (v (codes "x") ∷ []) None (un Minus (bin Shl (int (codes "1")) (v (codes "i")))
    ∷ []) ∷ []))
    ≡ ((basic kind.Int8, None) ∷ (basic kind.Int8, Some (Whole (pos 1))) ∷ (int_type, None) ∷ (basic kind.Int8, None) ∷
    (basic kind.Int8, None) ∷ [])
untyped_shift_negated = refl

-- ok = 1<<i == 2
untyped_shift_compared : told [] (ss (asg (v (codes "ok") ∷ []) None (bin Eq (bin Shl (int (codes "1")) (v (codes "i")))
    (int (codes "2")) ∷ []) ∷ []))
    ≡ ((basic kind.Bool, None) ∷ (int_type, Some (Whole (pos 1))) ∷ (int_type, None) ∷ (int_type, None) ∷ (
      int_type,
      Some (Whole (pos 2)),
    ) ∷ (basic kind.Bool, None) ∷ [])
untyped_shift_compared = refl

-- ok = 1<<i == '\x61'
untyped_shift_beside_rune : told [] (ss (asg (v (codes "ok") ∷ []) None (bin Eq (bin Shl (int (codes "1")) (v (codes
    "i"))) (rune (codes "'\\x61'")) ∷ []) ∷ []))
    ≡ ((basic kind.Bool, None) ∷ (basic kind.Int32, Some (Whole (pos 1))) ∷ (int_type, None) ∷ (basic kind.Int32, None)
    ∷ (basic kind.Int32, Some (Whole (pos 97))) ∷ (basic kind.Bool, None) ∷ [])
untyped_shift_beside_rune = refl

-- ok = x < 1<<i
untyped_shift_beside_variable : told [] (ss (asg (v (codes "ok") ∷ []) None (bin Lt (v (codes "x")) (bin Shl (int (codes
    "1")) (v (codes "i"))) ∷ []) ∷ []))
    ≡ ((basic kind.Bool, None) ∷ (basic kind.Int8, None) ∷ (basic kind.Int8, Some (Whole (pos 1))) ∷ (int_type, None) ∷
    (basic kind.Int8, None) ∷ (basic kind.Bool, None) ∷ [])
untyped_shift_beside_variable = refl

-- print(uint8(1 << i))
untyped_shift_converted : told [] (ss (ev (app (v (codes "print")) (app (v (codes "uint8")) (bin Shl (int (codes "1"))
    (v (codes "i")) ∷ []) ∷ [])) ∷ []))
    ≡ ((basic kind.Uint8, Some (Whole (pos 1))) ∷ (int_type, None) ∷ (basic kind.Uint8, None) ∷ (basic kind.Uint8, None)
    ∷ (tuple_of no_go_types, None) ∷ [])
untyped_shift_converted = refl

-- i = s[1<<u]
untyped_shift_as_index : told [] (ss (asg (v (codes "i") ∷ []) None (idx (v (codes "s")) (bin Shl (int (codes "1")) (v
    (codes "u"))) ∷ []) ∷ []))
    ≡ ((int_type, None) ∷ (slice_of int_type, None) ∷ (int_type, Some (Whole (pos 1))) ∷ (basic kind.Uint, None) ∷
    (int_type, None) ∷ (int_type, None) ∷ [])
untyped_shift_as_index = refl

-- x = (1 << i) >> 2
untyped_shift_twice : told [] (ss (asg (v (codes "x") ∷ []) None (bin Shr (bin Shl (int (codes "1")) (v (codes "i")))
    (int (codes "2")) ∷ []) ∷ []))
    ≡ ((basic kind.Int8, None) ∷ (basic kind.Int8, Some (Whole (pos 1))) ∷ (int_type, None) ∷ (basic kind.Int8, None) ∷
    (untyped kind.UntypedInt, Some (Whole (pos 2))) ∷ (basic kind.Int8, None) ∷ [])
untyped_shift_twice = refl

-- x <<= 2
shift_with_assignment : told [] (ss (asg (v (codes "x") ∷ []) (Some Shl) (int (codes "2") ∷ []) ∷ []))
    ≡ ((basic kind.Int8, None) ∷ (untyped kind.UntypedInt, Some (Whole (pos 2))) ∷ [])
shift_with_assignment = refl

-- x += 1
sum_with_assignment : told [] (ss (asg (v (codes "x") ∷ []) (Some Add) (int (codes "1") ∷ []) ∷ []))
    ≡ ((basic kind.Int8, None) ∷ (basic kind.Int8, Some (Whole (pos 1))) ∷ [])
sum_with_assignment = refl

-- x++
increment : told [] (ss (stp (v (codes "x")) true ∷ []))
    ≡ ((basic kind.Int8, None) ∷ [])
increment = refl

-- ok = x < 1
comparison_with_constant : told [] (ss (asg (v (codes "ok") ∷ []) None (bin Lt (v (codes "x")) (int (codes "1")) ∷ []) ∷
    []))
    ≡ ((basic kind.Bool, None) ∷ (basic kind.Int8, None) ∷ (basic kind.Int8, Some (Whole (pos 1))) ∷ (
      basic kind.Bool,
      None,
    ) ∷ [])
comparison_with_constant = refl

-- ok = 1 == 2
comparison_of_constants : told [] (ss (asg (v (codes "ok") ∷ []) None (bin Eq (int (codes "1")) (int (codes "2")) ∷ [])
    ∷ []))
    ≡ ((basic kind.Bool, None) ∷ (untyped kind.UntypedInt, Some (Whole (pos 1))) ∷ (
      untyped kind.UntypedInt,
      Some (Whole
          (pos 2)),
    ) ∷ (basic kind.Bool, Some (Truth false)) ∷ [])
comparison_of_constants = refl

-- ok = 1 == '\x61'
comparison_of_number_and_rune : told [] (ss (asg (v (codes "ok") ∷ []) None (bin Eq (int (codes "1")) (rune (codes
    "'\\x61'")) ∷ []) ∷ []))
    ≡ ((basic kind.Bool, None) ∷ (untyped kind.UntypedRune, Some (Whole (pos 1))) ∷ (
      untyped kind.UntypedRune,
      Some
          (Whole (pos 97)),
    ) ∷ (basic kind.Bool, Some (Truth false)) ∷ [])
comparison_of_number_and_rune = refl

-- ok = (i < 1) == (x < 2)
comparison_of_comparisons : told [] (ss (asg (v (codes "ok") ∷ []) None (bin Eq (bin Lt (v (codes "i")) (int (codes
    "1"))) (bin Lt (v (codes "x")) (int (codes "2"))) ∷ []) ∷ []))
    ≡ ((basic kind.Bool, None) ∷ (int_type, None) ∷ (int_type, Some (Whole (pos 1))) ∷ (basic kind.Bool, None) ∷ (
      basic
          kind.Int8,
      None,
    ) ∷ (basic kind.Int8, Some (Whole (pos 2))) ∷ (basic kind.Bool, None) ∷ (basic kind.Bool, None) ∷
    [])
comparison_of_comparisons = refl

-- ok = true == (i < 1)
comparison_with_true : told [] (ss (asg (v (codes "ok") ∷ []) None (bin Eq (v (codes "true")) (bin Lt (v (codes "i"))
    (int (codes "1"))) ∷ []) ∷ []))
    ≡ ((basic kind.Bool, None) ∷ (basic kind.Bool, Some (Truth true)) ∷ (int_type, None) ∷ (
      int_type,
      Some (Whole (pos
          1)),
    ) ∷ (basic kind.Bool, None) ∷ (basic kind.Bool, None) ∷ [])
comparison_with_true = refl

-- ok = q == `a`
comparison_of_strings : told [] (ss (asg (v (codes "ok") ∷ []) None (bin Eq (v (codes "q")) (str (codes "`a`")) ∷ []) ∷
    []))
    ≡ ((basic kind.Bool, None) ∷ (basic kind.Str, None) ∷ (basic kind.Str, Some (Bytes (codes "a"))) ∷ (
      basic kind.Bool,
      None,
    ) ∷ [])
comparison_of_strings = refl

-- mb = x < 1
comparison_to_named_truth : told [] (ss (asg (v (codes "mb") ∷ []) None (bin Lt (v (codes "x")) (int (codes "1")) ∷ [])
    ∷ []))
    ≡ ((named_type 0 (codes "B"), None) ∷ (basic kind.Int8, None) ∷ (basic kind.Int8, Some (Whole (pos 1))) ∷
    (named_type 0 (codes "B"), None) ∷ [])
comparison_to_named_truth = refl

-- ok = ok && x < 1
logic_with_variable : told [] (ss (asg (v (codes "ok") ∷ []) None (bin LogAnd (v (codes "ok")) (bin Lt (v (codes "x"))
    (int (codes "1"))) ∷ []) ∷ []))
    ≡ ((basic kind.Bool, None) ∷ (basic kind.Bool, None) ∷ (basic kind.Int8, None) ∷ (
      basic kind.Int8,
      Some (Whole (pos
          1)),
    ) ∷ (basic kind.Bool, None) ∷ (basic kind.Bool, None) ∷ [])
logic_with_variable = refl

-- a := i < 1 && true; print(a)
logic_of_comparisons_defined : told [] (ss (def (codes "a" ∷ []) (bin LogAnd (bin Lt (v (codes "i")) (int (codes "1")))
    (v (codes "true")) ∷ []) ∷ ev (app (v (codes "print")) (v (codes "a") ∷ [])) ∷ []))
    ≡ ((int_type, None) ∷ (int_type, Some (Whole (pos 1))) ∷ (basic kind.Bool, None) ∷ (
      basic kind.Bool,
      Some (Truth
          true),
    ) ∷ (basic kind.Bool, None) ∷ (basic kind.Bool, None) ∷ (tuple_of no_go_types, None) ∷ [])
logic_of_comparisons_defined = refl

-- mb = !(i < 1)
negated_comparison : told [] (ss (asg (v (codes "mb") ∷ []) None (un Not (bin Lt (v (codes "i")) (int (codes "1"))) ∷
    []) ∷ []))
    ≡ ((named_type 0 (codes "B"), None) ∷ (int_type, None) ∷ (int_type, Some (Whole (pos 1))) ∷ (
      named_type 0 (codes
          "B"),
      None,
    ) ∷ (named_type 0 (codes "B"), None) ∷ [])
negated_comparison = refl
