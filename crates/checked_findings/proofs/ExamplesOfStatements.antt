-- What is found in declarations and statements, by go/types of Go 1.19: of each expression, its parts before it, the
-- type and the constant that `types.Info.Types` has (Go specification, Statements; Declarations and scope).
use Rattle.std.specs.Prelude.{◌≡◌, refl, [], ◌∷◌, true, pos, Some, None, codes}
use Rattle.go_tree.specs.declared.operators.BinOp.TheVariants.{Mul, Div, Shl, Shr, AndNot, Add, Eq, Lt, LogAnd}
use Rattle.go_tree.specs.declared.const_eval.kinds.Kind.TheVariants as kind
use Rattle.go_tree.specs.declared.const_eval.consts.Const.TheVariants.{Whole, Truth, Bytes}
use Rattle.go_tree.specs.Tree.{no_expr, some_expr, no_stmt, some_stmt, assigns, defines}
use Rattle.go_tree.specs.GoTypes.Types.{basic, untyped, untyped_nil, named_type, pointer_to, slice_of, map_of, tuple_of}
use Rattle.go_tree.specs.GoTypes.Types.{types_of, no_go_types}
use Rattle.go_tree.proofs.GoTypes.Trees.{v, int, rune, str, idx, app, top, bin, lit, sig, par, ty, ptr, slc, ns, es, ss}
use Rattle.go_tree.proofs.GoTypes.Trees.{cst, vr, ev, stp, asg, def, ret, blk, cond, loop, rng, sw, dfr}
use Rattle.checked_findings.proofs.Told.{told, int_type, type_T}

-- if x < 1 && i < 2 { none() }
condition_alone : told [] (ss (cond ((
  no_stmt,
  (
    bin LogAnd (bin Lt (v (codes "x")) (int (codes "1"))) (bin Lt (v (codes
        "i")) (int (codes "2"))),
    (ev (app (v (codes "none")) ([])) ∷ []),
  ),
) ∷ []) None ∷ []))
    ≡ ((basic kind.Int8, None) ∷ (basic kind.Int8, Some (Whole (pos 1))) ∷ (untyped kind.UntypedBool, None) ∷ (
      int_type,
      None,
    ) ∷ (int_type, Some (Whole (pos 2))) ∷ (untyped kind.UntypedBool, None) ∷ (untyped kind.UntypedBool, None) ∷
    (tuple_of no_go_types, None) ∷ [])
condition_alone = refl

-- if a := 1; a < 2 { print(a) } else { print(`b`) }
condition_with_first : told [] (ss (cond ((
  (some_stmt (def (codes "a" ∷ []) (int (codes "1") ∷ []))),
  (
    bin Lt (v (codes
        "a")) (int (codes "2")),
    (ev (app (v (codes "print")) (v (codes "a") ∷ [])) ∷ []),
  ),
) ∷ []) (Some (ev (app (v (codes
    "print")) (str (codes "`b`") ∷ [])) ∷ [])) ∷ []))
    ≡ ((int_type, Some (Whole (pos 1))) ∷ (int_type, None) ∷ (int_type, Some (Whole (pos 2))) ∷ (
      untyped
          kind.UntypedBool,
      None,
    ) ∷ (int_type, None) ∷ (tuple_of no_go_types, None) ∷ (
      basic kind.Str,
      Some (Bytes (codes
          "b")),
    ) ∷ (tuple_of no_go_types, None) ∷ [])
condition_with_first = refl

-- if true { none() }
condition_constant : told [] (ss (cond ((no_stmt, (v (codes "true"), (ev (app (v (codes "none")) ([])) ∷ []))) ∷ [])
    None ∷ []))
    ≡ ((untyped kind.UntypedBool, Some (Truth true)) ∷ (tuple_of no_go_types, None) ∷ [])
condition_constant = refl

-- ok = p == nil
-- (go/types keeps `untyped nil`)
nil_compared : told [] (ss (asg (v (codes "ok") ∷ []) None (bin Eq (v (codes "p")) (v (codes "nil")) ∷ []) ∷ []))
    ≡ ((basic kind.Bool, None) ∷ (pointer_to (named_type 0 (codes "T")), None) ∷ (pointer_to type_T, None) ∷ (
      basic
          kind.Bool,
      None,
    ) ∷ [])
nil_compared = refl

-- p = nil
-- (go/types keeps `untyped nil`)
nil_assigned : told [] (ss (asg (v (codes "p") ∷ []) None (v (codes "nil") ∷ []) ∷ []))
    ≡ ((pointer_to (named_type 0 (codes "T")), None) ∷ (pointer_to type_T, None) ∷ [])
nil_assigned = refl

-- var a []int = nil; print(len(a))
-- (go/types keeps `untyped nil`)
nil_defined : told [] (ss (vr (((codes "a" ∷ []), (Some (slc (ty (codes "int"))), (v (codes "nil") ∷ []))) ∷ []) ∷ ev
    (app (v (codes "print")) (app (v (codes "len")) (v (codes "a") ∷ []) ∷ [])) ∷ []))
    ≡ ((slice_of int_type, None) ∷ (slice_of int_type, None) ∷ (int_type, None) ∷ (tuple_of no_go_types, None) ∷ [])
nil_defined = refl

-- p = (*T)(nil)
-- (go/types keeps `untyped nil`)
nil_converted : told [] (ss (asg (v (codes "p") ∷ []) None (app (top (ptr (ty (codes "T")))) (v (codes "nil") ∷ []) ∷
    []) ∷ []))
    ≡ ((pointer_to (named_type 0 (codes "T")), None) ∷ (pointer_to type_T, None) ∷ (
      pointer_to (named_type 0 (codes
          "T")),
      None,
    ) ∷ [])
nil_converted = refl

-- return nil, 1
-- (go/types keeps `untyped nil`)
nil_returned : told (slice_of int_type ∷ basic kind.Int8 ∷ []) (ss (ret (v (codes "nil") ∷ int (codes "1") ∷ []) ∷ []))
    ≡ ((slice_of int_type, None) ∷ (basic kind.Int8, Some (Whole (pos 1))) ∷ [])
nil_returned = refl

-- return 1, i < 2
returned_constants : told (basic kind.Int8 ∷ basic kind.Bool ∷ []) (ss (ret (int (codes "1") ∷ bin Lt (v (codes "i"))
    (int (codes "2")) ∷ []) ∷ []))
    ≡ ((basic kind.Int8, Some (Whole (pos 1))) ∷ (int_type, None) ∷ (int_type, Some (Whole (pos 2))) ∷ (
      basic kind.Bool,
      None,
    ) ∷ [])
returned_constants = refl

-- return two()
returned_call : told (int_type ∷ basic kind.Str ∷ []) (ss (ret (app (v (codes "two")) ([]) ∷ []) ∷ []))
    ≡ ((tuple_of (types_of (int_type ∷ (basic kind.Str) ∷ [])), None) ∷ [])
returned_call = refl

-- const c = 1; x = c
constant_declared : told [] (ss (cst (((codes "c" ∷ []), (None, (int (codes "1") ∷ []))) ∷ []) ∷ asg (v (codes "x") ∷
    []) None (v (codes "c") ∷ []) ∷ []))
    ≡ ((untyped kind.UntypedInt, Some (Whole (pos 1))) ∷ (basic kind.Int8, None) ∷ (
      basic kind.Int8,
      Some (Whole (pos
          1)),
    ) ∷ [])
constant_declared = refl

-- const c int8 = 1; const d = c + 1; x = d
constant_of_type_declared : told [] (ss (cst (((codes "c" ∷ []), (Some (ty (codes "int8")), (int (codes "1") ∷ []))) ∷
    []) ∷ cst (((codes "d" ∷ []), (None, (bin Add (v (codes "c")) (int (codes "1")) ∷ []))) ∷ []) ∷ asg (v (codes "x") ∷
    []) None (v (codes "d") ∷ []) ∷ []))
    ≡ ((basic kind.Int8, Some (Whole (pos 1))) ∷ (basic kind.Int8, Some (Whole (pos 1))) ∷ (
      basic kind.Int8,
      Some (Whole
          (pos 1)),
    ) ∷ (basic kind.Int8, Some (Whole (pos 2))) ∷ (basic kind.Int8, None) ∷ (
      basic kind.Int8,
      Some (Whole
          (pos 2)),
    ) ∷ [])
constant_of_type_declared = refl

-- const c = 1 + '\x61'; print(c)
constant_sum_declared : told [] (ss (cst ((
  (codes "c" ∷ []),
  (
    None,
    (bin Add (int (codes "1")) (rune (codes "'\\x61'"))
        ∷ []),
  ),
) ∷ []) ∷ ev (app (v (codes "print")) (v (codes "c") ∷ [])) ∷ []))
    ≡ ((untyped kind.UntypedRune, Some (Whole (pos 1))) ∷ (untyped kind.UntypedRune, Some (Whole (pos 97))) ∷ (
      untyped
          kind.UntypedRune,
      Some (Whole (pos 98)),
    ) ∷ (basic kind.Int32, Some (Whole (pos 98))) ∷ (
      tuple_of no_go_types,
      None,
    ) ∷ [])
constant_sum_declared = refl

-- const ( c = iota + 1; d = iota + 1 ); x = c + d
constants_numbered : told [] (ss (cst (((codes "c" ∷ []), (None, (bin Add (v (codes "iota")) (int (codes "1")) ∷ []))) ∷
    ((codes "d" ∷ []), (None, (bin Add (v (codes "iota")) (int (codes "1")) ∷ []))) ∷ []) ∷ asg (v (codes "x") ∷ [])
    None (bin Add (v (codes "c")) (v (codes "d")) ∷ []) ∷ []))
    ≡ ((untyped kind.UntypedInt, Some (Whole (pos 0))) ∷ (untyped kind.UntypedInt, Some (Whole (pos 1))) ∷ (
      untyped
          kind.UntypedInt,
      Some (Whole (pos 1)),
    ) ∷ (untyped kind.UntypedInt, Some (Whole (pos 1))) ∷ (
      untyped
          kind.UntypedInt,
      Some (Whole (pos 1)),
    ) ∷ (untyped kind.UntypedInt, Some (Whole (pos 2))) ∷ (
      basic kind.Int8,
      None,
    ) ∷ (untyped kind.UntypedInt, Some (Whole (pos 1))) ∷ (untyped kind.UntypedInt, Some (Whole (pos 2))) ∷
    (basic kind.Int8, Some (Whole (pos 3))) ∷ [])
constants_numbered = refl

-- var a, b int8 = 1, 2; x = a + b
variable_of_type_declared : told [] (ss (vr ((
  (codes "a" ∷ codes "b" ∷ []),
  (
    Some (ty (codes "int8")),
    (int (codes "1")
        ∷ int (codes "2") ∷ []),
  ),
) ∷ []) ∷ asg (v (codes "x") ∷ []) None (bin Add (v (codes "a")) (v (codes "b")) ∷ []) ∷
    []))
    ≡ ((basic kind.Int8, Some (Whole (pos 1))) ∷ (basic kind.Int8, Some (Whole (pos 2))) ∷ (basic kind.Int8, None) ∷
    (basic kind.Int8, None) ∷ (basic kind.Int8, None) ∷ (basic kind.Int8, None) ∷ [])
variable_of_type_declared = refl

-- var a = '\x61'; print(a)
variable_declared : told [] (ss (vr (((codes "a" ∷ []), (None, (rune (codes "'\\x61'") ∷ []))) ∷ []) ∷ ev (app (v (codes
    "print")) (v (codes "a") ∷ [])) ∷ []))
    ≡ ((basic kind.Int32, Some (Whole (pos 97))) ∷ (basic kind.Int32, None) ∷ (tuple_of no_go_types, None) ∷ [])
variable_declared = refl

-- var a, b = mi[2]; print(a, b)
variable_and_whether_declared : told [] (ss (vr ((
  (codes "a" ∷ codes "b" ∷ []),
  (
    None,
    (idx (v (codes "mi")) (int (codes
        "2")) ∷ []),
  ),
) ∷ []) ∷ ev (app (v (codes "print")) (v (codes "a") ∷ v (codes "b") ∷ [])) ∷ []))
    ≡ ((map_of (basic kind.Int8) (basic kind.Str), None) ∷ (basic kind.Int8, Some (Whole (pos 2))) ∷ (
      tuple_of (types_of
          ((basic kind.Str) ∷ (basic kind.Bool) ∷ [])),
      None,
    ) ∷ (basic kind.Str, None) ∷ (basic kind.Bool, None) ∷
    (tuple_of no_go_types, None) ∷ [])
variable_and_whether_declared = refl

-- a := x; a, b := 1, 2; print(a, b)
defined_and_assigned : told [] (ss (def (codes "a" ∷ []) (v (codes "x") ∷ []) ∷ def (codes "a" ∷ codes "b" ∷ []) (int
    (codes "1") ∷ int (codes "2") ∷ []) ∷ ev (app (v (codes "print")) (v (codes "a") ∷ v (codes "b") ∷ [])) ∷ []))
    ≡ ((basic kind.Int8, None) ∷ (basic kind.Int8, Some (Whole (pos 1))) ∷ (int_type, Some (Whole (pos 2))) ∷ (
      basic
          kind.Int8,
      None,
    ) ∷ (int_type, None) ∷ (tuple_of no_go_types, None) ∷ [])
defined_and_assigned = refl

-- _ = 1
blank_assigned : told [] (ss (asg (v (codes "_") ∷ []) None (int (codes "1") ∷ []) ∷ []))
    ≡ ((int_type, Some (Whole (pos 1))) ∷ [])
blank_assigned = refl

-- i, x = 1, 2
swapped : told [] (ss (asg (v (codes "i") ∷ v (codes "x") ∷ []) None (int (codes "1") ∷ int (codes "2") ∷ []) ∷ []))
    ≡ ((int_type, None) ∷ (basic kind.Int8, None) ∷ (int_type, Some (Whole (pos 1))) ∷ (
      basic kind.Int8,
      Some (Whole
          (pos 2)),
    ) ∷ [])
swapped = refl

-- for a := 0; a < 2; a++ { print(a) }
loop_with_clause : told [] (ss (loop (some_stmt (def (codes "a" ∷ []) (int (codes "0") ∷ []))) (some_expr (bin Lt (v
    (codes "a")) (int (codes "2")))) (some_stmt (stp (v (codes "a")) true)) (ev (app (v (codes "print")) (v (codes "a")
    ∷ [])) ∷ []) ∷ []))
    ≡ ((int_type, Some (Whole (pos 0))) ∷ (int_type, None) ∷ (int_type, Some (Whole (pos 2))) ∷ (
      untyped
          kind.UntypedBool,
      None,
    ) ∷ (int_type, None) ∷ (int_type, None) ∷ (tuple_of no_go_types, None) ∷ [])
loop_with_clause = refl

-- for a, b := range s { print(a, b) }
loop_over_slice : told [] (ss (rng (defines (ns (codes "a" ∷ codes "b" ∷ []))) (v (codes "s")) (ev (app (v (codes
    "print")) (v (codes "a") ∷ v (codes "b") ∷ [])) ∷ []) ∷ []))
    ≡ ((slice_of int_type, None) ∷ (int_type, None) ∷ (int_type, None) ∷ (tuple_of no_go_types, None) ∷ [])
loop_over_slice = refl

-- for a := range mi { x = a }
loop_over_map : told [] (ss (rng (defines (ns (codes "a" ∷ []))) (v (codes "mi")) (asg (v (codes "x") ∷ []) None (v
    (codes "a") ∷ []) ∷ []) ∷ []))
    ≡ ((map_of (basic kind.Int8) (basic kind.Str), None) ∷ (basic kind.Int8, None) ∷ (basic kind.Int8, None) ∷ [])
loop_over_map = refl

-- for i = range s { none() }
loop_assigning : told [] (ss (rng (assigns (es (v (codes "i") ∷ []))) (v (codes "s")) (ev (app (v (codes "none")) ([]))
    ∷ []) ∷ []))
    ≡ ((int_type, None) ∷ (slice_of int_type, None) ∷ (tuple_of no_go_types, None) ∷ [])
loop_assigning = refl

-- switch x { case 1, 1 + 1: none(); default: none() }
switch_on_variable : told [] (ss (sw no_stmt (some_expr (v (codes "x"))) ((
  (int (codes "1") ∷ bin Add (int (codes "1"))
      (int (codes "1")) ∷ []),
  (ev (app (v (codes "none")) ([])) ∷ []),
) ∷ (([]), (ev (app (v (codes "none")) ([])) ∷ []))
    ∷ []) ∷ []))
    ≡ ((basic kind.Int8, None) ∷ (basic kind.Int8, Some (Whole (pos 1))) ∷ (
      untyped kind.UntypedInt,
      Some (Whole (pos
          1)),
    ) ∷ (untyped kind.UntypedInt, Some (Whole (pos 1))) ∷ (basic kind.Int8, Some (Whole (pos 2))) ∷ (
      tuple_of
          no_go_types,
      None,
    ) ∷ (tuple_of no_go_types, None) ∷ [])
switch_on_variable = refl

-- switch 1 { case '\x61': none() }
switch_on_constant : told [] (ss (sw no_stmt (some_expr (int (codes "1"))) ((
  (rune (codes "'\\x61'") ∷ []),
  (ev (app (v
      (codes "none")) ([])) ∷ []),
) ∷ []) ∷ []))
    ≡ ((int_type, Some (Whole (pos 1))) ∷ (int_type, Some (Whole (pos 97))) ∷ (tuple_of no_go_types, None) ∷ [])
switch_on_constant = refl

-- switch { case true: none(); case x < 1: none() }
switch_without_tag : told [] (ss (sw no_stmt no_expr (((v (codes "true") ∷ []), (ev (app (v (codes "none")) ([])) ∷ []))
    ∷ ((bin Lt (v (codes "x")) (int (codes "1")) ∷ []), (ev (app (v (codes "none")) ([])) ∷ [])) ∷ []) ∷ []))
    ≡ ((basic kind.Bool, Some (Truth true)) ∷ (tuple_of no_go_types, None) ∷ (basic kind.Int8, None) ∷ (
      basic kind.Int8,
      Some (Whole (pos 1)),
    ) ∷ (basic kind.Bool, None) ∷ (tuple_of no_go_types, None) ∷ [])
switch_without_tag = refl

-- switch a := 1; a { case 2: print(a) }
switch_with_first : told [] (ss (sw (some_stmt (def (codes "a" ∷ []) (int (codes "1") ∷ []))) (some_expr (v (codes
    "a"))) (((int (codes "2") ∷ []), (ev (app (v (codes "print")) (v (codes "a") ∷ [])) ∷ [])) ∷ []) ∷ []))
    ≡ ((int_type, Some (Whole (pos 1))) ∷ (int_type, None) ∷ (int_type, Some (Whole (pos 2))) ∷ (int_type, None) ∷
    (tuple_of no_go_types, None) ∷ [])
switch_with_first = refl

-- defer take(1, q)
deferred_call : told [] (ss (dfr (app (v (codes "take")) (int (codes "1") ∷ v (codes "q") ∷ [])) ∷ []))
    ≡ ((int_type, Some (Whole (pos 1))) ∷ (basic kind.Str, None) ∷ (tuple_of no_go_types, None) ∷ [])
deferred_call = refl

-- i = func(a int8) int { return 1 << a }(2)
function_literal : told [] (ss (asg (v (codes "i") ∷ []) None (app (lit (sig (par (Some (codes "a")) (ty (codes "int8"))
    ∷ []) (par None (ty (codes "int")) ∷ [])) (ret (bin Shl (int (codes "1")) (v (codes "a")) ∷ []) ∷ [])) (int (codes
    "2") ∷ []) ∷ []) ∷ []))
    ≡ ((int_type, None) ∷ (int_type, Some (Whole (pos 1))) ∷ (basic kind.Int8, None) ∷ (int_type, None) ∷ (
      basic
          kind.Int8,
      Some (Whole (pos 2)),
    ) ∷ (int_type, None) ∷ [])
function_literal = refl

-- i, q = func() (int, string) { return 1, `a` }()
function_literal_of_two : told [] (ss (asg (v (codes "i") ∷ v (codes "q") ∷ []) None (app (lit (sig ([]) (par None (ty
    (codes "int")) ∷ par None (ty (codes "string")) ∷ [])) (ret (int (codes "1") ∷ str (codes "`a`") ∷ []) ∷ [])) ([]) ∷
    []) ∷ []))
    ≡ ((int_type, None) ∷ (basic kind.Str, None) ∷ (int_type, Some (Whole (pos 1))) ∷ (
      basic kind.Str,
      Some (Bytes
          (codes "a")),
    ) ∷ (tuple_of (types_of (int_type ∷ (basic kind.Str) ∷ [])), None) ∷ [])
function_literal_of_two = refl

-- defer func() { recover() }()
recover_dropped : told [] (ss (dfr (app (lit (sig ([]) ([])) (ev (app (v (codes "recover")) ([])) ∷ [])) ([])) ∷ []))
    ≡ ((tuple_of no_go_types, None) ∷ [])
recover_dropped = refl

-- ok = recover() == nil
-- (go/types keeps `untyped nil`)
recover_compared : told [] (ss (asg (v (codes "ok") ∷ []) None (bin Eq (app (v (codes "recover")) ([])) (v (codes
    "nil")) ∷ []) ∷ []))
    ≡ ((basic kind.Bool, None) ∷ (untyped_nil, None) ∷ (basic kind.Bool, None) ∷ [])
recover_compared = refl

-- { var a int8; x = a &^ 1 }
inner_block : told [] (ss (blk (vr (((codes "a" ∷ []), (Some (ty (codes "int8")), ([]))) ∷ []) ∷ asg (v (codes "x") ∷
    []) None (bin AndNot (v (codes "a")) (int (codes "1")) ∷ []) ∷ []) ∷ []))
    ≡ ((basic kind.Int8, None) ∷ (basic kind.Int8, None) ∷ (basic kind.Int8, Some (Whole (pos 1))) ∷ (
      basic kind.Int8,
      None,
    ) ∷ [])
inner_block = refl

-- print(1 << 100 >> 98)
huge_constant : told [] (ss (ev (app (v (codes "print")) (bin Shr (bin Shl (int (codes "1")) (int (codes "100"))) (int
    (codes "98")) ∷ [])) ∷ []))
    ≡ ((untyped kind.UntypedInt, Some (Whole (pos 1))) ∷ (untyped kind.UntypedInt, Some (Whole (pos 100))) ∷ (
      untyped
          kind.UntypedInt,
      Some (Whole (pos 1267650600228229401496703205376)),
    ) ∷ (
      untyped kind.UntypedInt,
      Some (Whole
          (pos 98)),
    ) ∷ (int_type, Some (Whole (pos 4))) ∷ (tuple_of no_go_types, None) ∷ [])
huge_constant = refl

-- x = 7 / 2 * 2
divided_constants : told [] (ss (asg (v (codes "x") ∷ []) None (bin Mul (bin Div (int (codes "7")) (int (codes "2")))
    (int (codes "2")) ∷ []) ∷ []))
    ≡ ((basic kind.Int8, None) ∷ (untyped kind.UntypedInt, Some (Whole (pos 7))) ∷ (
      untyped kind.UntypedInt,
      Some (Whole
          (pos 2)),
    ) ∷ (untyped kind.UntypedInt, Some (Whole (pos 3))) ∷ (untyped kind.UntypedInt, Some (Whole (pos 2))) ∷
    (basic kind.Int8, Some (Whole (pos 6))) ∷ [])
divided_constants = refl
