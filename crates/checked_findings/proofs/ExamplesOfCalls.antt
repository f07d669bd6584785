-- What is found in calls, conversions, indices and slices, by go/types of Go 1.19: of each expression, its parts before
-- it, the type and the constant that `types.Info.Types` has (Go specification, Calls; Conversions; Index expressions).
use Rattle.std.specs.Prelude.{◌≡◌, refl, [], ◌∷◌, true, pos, Some, None, codes}
use Rattle.go_tree.specs.declared.operators.BinOp.TheVariants.{Shl, Add, Lt}
use Rattle.go_tree.specs.declared.const_eval.kinds.Kind.TheVariants as kind
use Rattle.go_tree.specs.declared.const_eval.consts.Const.TheVariants.{Whole, Truth, Bytes}
use Rattle.go_tree.specs.Tree.{some_expr}
use Rattle.go_tree.specs.GoTypes.Types.{basic, untyped, named_type, pointer_to, slice_of, map_of, tuple_of, types_of}
use Rattle.go_tree.specs.GoTypes.Types.{no_go_types}
use Rattle.go_tree.proofs.GoTypes.Trees.{v, int, rune, str, sel, idx, sl, app, top, bin, der, ty, slc, mp, ss, ev, asg}
use Rattle.go_tree.proofs.GoTypes.Trees.{def}
use Rattle.checked_findings.proofs.Told.{told, int_type}

-- print(1, '\x61', `s`, true, i < 1, 1<<i)
printed_values : told [] (ss (ev (app (v (codes "print")) (int (codes "1") ∷ rune (codes "'\\x61'") ∷ str (codes "`s`")
    ∷ v (codes "true") ∷ bin Lt (v (codes "i")) (int (codes "1")) ∷ bin Shl (int (codes "1")) (v (codes "i")) ∷ [])) ∷
    []))
    ≡ ((int_type, Some (Whole (pos 1))) ∷ (basic kind.Int32, Some (Whole (pos 97))) ∷ (
      basic kind.Str,
      Some (Bytes
          (codes "s")),
    ) ∷ (basic kind.Bool, Some (Truth true)) ∷ (int_type, None) ∷ (int_type, Some (Whole (pos 1))) ∷
    (basic kind.Bool, None) ∷ (int_type, Some (Whole (pos 1))) ∷ (int_type, None) ∷ (int_type, None) ∷ (
      tuple_of
          no_go_types,
      None,
    ) ∷ [])
printed_values = refl

-- panic(`a`)
panic_value : told [] (ss (ev (app (v (codes "panic")) (str (codes "`a`") ∷ [])) ∷ []))
    ≡ ((basic kind.Str, Some (Bytes (codes "a"))) ∷ (tuple_of no_go_types, None) ∷ [])
panic_value = refl

-- take(1, `a`)
arguments : told [] (ss (ev (app (v (codes "take")) (int (codes "1") ∷ str (codes "`a`") ∷ [])) ∷ []))
    ≡ ((int_type, Some (Whole (pos 1))) ∷ (basic kind.Str, Some (Bytes (codes "a"))) ∷ (tuple_of no_go_types, None) ∷
    [])
arguments = refl

-- x = f8(1 + 2)
argument_of_int8 : told [] (ss (asg (v (codes "x") ∷ []) None (app (v (codes "f8")) (bin Add (int (codes "1")) (int
    (codes "2")) ∷ []) ∷ []) ∷ []))
    ≡ ((basic kind.Int8, None) ∷ (untyped kind.UntypedInt, Some (Whole (pos 1))) ∷ (
      untyped kind.UntypedInt,
      Some (Whole
          (pos 2)),
    ) ∷ (basic kind.Int8, Some (Whole (pos 3))) ∷ (basic kind.Int8, None) ∷ [])
argument_of_int8 = refl

-- none()
call_without_results : told [] (ss (ev (app (v (codes "none")) ([])) ∷ []))
    ≡ ((tuple_of no_go_types, None) ∷ [])
call_without_results = refl

-- i, q = two()
two_results_assigned : told [] (ss (asg (v (codes "i") ∷ v (codes "q") ∷ []) None (app (v (codes "two")) ([]) ∷ []) ∷
    []))
    ≡ ((int_type, None) ∷ (basic kind.Str, None) ∷ (tuple_of (types_of (int_type ∷ (basic kind.Str) ∷ [])), None) ∷ [])
two_results_assigned = refl

-- p.Up(); i = t.Get()
method_call : told [] (ss (ev (app (sel (v (codes "p")) (codes "Up")) ([])) ∷ asg (v (codes "i") ∷ []) None (app (sel (v
    (codes "t")) (codes "Get")) ([]) ∷ []) ∷ []))
    ≡ ((pointer_to (named_type 0 (codes "T")), None) ∷ (tuple_of no_go_types, None) ∷ (int_type, None) ∷ (
      named_type 0
          (codes "T"),
      None,
    ) ∷ (int_type, None) ∷ [])
method_call = refl

-- i = len(`abc`)
length_of_constant : told [] (ss (asg (v (codes "i") ∷ []) None (app (v (codes "len")) (str (codes "`abc`") ∷ []) ∷ [])
    ∷ []))
    ≡ ((int_type, None) ∷ (untyped kind.UntypedStr, Some (Bytes (codes "abc"))) ∷ (int_type, Some (Whole (pos 3))) ∷ [])
length_of_constant = refl

-- i = len(s) + cap(s)
length_of_slice : told [] (ss (asg (v (codes "i") ∷ []) None (bin Add (app (v (codes "len")) (v (codes "s") ∷ [])) (app
    (v (codes "cap")) (v (codes "s") ∷ [])) ∷ []) ∷ []))
    ≡ ((int_type, None) ∷ (slice_of int_type, None) ∷ (int_type, None) ∷ (slice_of int_type, None) ∷ (int_type, None) ∷
    (int_type, None) ∷ [])
length_of_slice = refl

-- i = s[1]
index_of_slice : told [] (ss (asg (v (codes "i") ∷ []) None (idx (v (codes "s")) (int (codes "1")) ∷ []) ∷ []))
    ≡ ((int_type, None) ∷ (slice_of int_type, None) ∷ (int_type, Some (Whole (pos 1))) ∷ (int_type, None) ∷ [])
index_of_slice = refl

-- a := `abc`[i]; print(a)
index_of_constant_string : told [] (ss (def (codes "a" ∷ []) (idx (str (codes "`abc`")) (v (codes "i")) ∷ []) ∷ ev (app
    (v (codes "print")) (v (codes "a") ∷ [])) ∷ []))
    ≡ ((untyped kind.UntypedStr, Some (Bytes (codes "abc"))) ∷ (int_type, None) ∷ (basic kind.Uint8, None) ∷ (
      basic
          kind.Uint8,
      None,
    ) ∷ (tuple_of no_go_types, None) ∷ [])
index_of_constant_string = refl

-- t = m[`a`]
index_of_map : told [] (ss (asg (v (codes "t") ∷ []) None (idx (v (codes "m")) (str (codes "`a`")) ∷ []) ∷ []))
    ≡ ((named_type 0 (codes "T"), None) ∷ (map_of (basic kind.Str) (named_type 0 (codes "T")), None) ∷ (
      basic kind.Str,
      Some (Bytes (codes "a")),
    ) ∷ (named_type 0 (codes "T"), None) ∷ [])
index_of_map = refl

-- v, has := mi[1]; print(v, has)
element_and_whether : told [] (ss (def (codes "v" ∷ codes "has" ∷ []) (idx (v (codes "mi")) (int (codes "1")) ∷ []) ∷ ev
    (app (v (codes "print")) (v (codes "v") ∷ v (codes "has") ∷ [])) ∷ []))
    ≡ ((map_of (basic kind.Int8) (basic kind.Str), None) ∷ (basic kind.Int8, Some (Whole (pos 1))) ∷ (
      tuple_of (types_of
          ((basic kind.Str) ∷ (basic kind.Bool) ∷ [])),
      None,
    ) ∷ (basic kind.Str, None) ∷ (basic kind.Bool, None) ∷
    (tuple_of no_go_types, None) ∷ [])
element_and_whether = refl

-- q, mb = mi[1]
element_and_named_truth : told [] (ss (asg (v (codes "q") ∷ v (codes "mb") ∷ []) None (idx (v (codes "mi")) (int (codes
    "1")) ∷ []) ∷ []))
    ≡ ((basic kind.Str, None) ∷ (named_type 0 (codes "B"), None) ∷ (map_of (basic kind.Int8) (basic kind.Str), None) ∷
    (basic kind.Int8, Some (Whole (pos 1))) ∷ (
      tuple_of (types_of ((basic kind.Str) ∷ (named_type 0 (codes "B")) ∷
          [])),
      None,
    ) ∷ [])
element_and_named_truth = refl

-- q, _ = mi[1+1]
element_and_nothing : told [] (ss (asg (v (codes "q") ∷ v (codes "_") ∷ []) None (idx (v (codes "mi")) (bin Add (int
    (codes "1")) (int (codes "1"))) ∷ []) ∷ []))
    ≡ ((basic kind.Str, None) ∷ (map_of (basic kind.Int8) (basic kind.Str), None) ∷ (
      untyped kind.UntypedInt,
      Some
          (Whole (pos 1)),
    ) ∷ (untyped kind.UntypedInt, Some (Whole (pos 1))) ∷ (basic kind.Int8, Some (Whole (pos 2))) ∷
    (tuple_of (types_of ((basic kind.Str) ∷ (basic kind.Bool) ∷ [])), None) ∷ [])
element_and_nothing = refl

-- mi[1] = `a`
map_element_stored : told [] (ss (asg (idx (v (codes "mi")) (int (codes "1")) ∷ []) None (str (codes "`a`") ∷ []) ∷ []))
    ≡ ((map_of (basic kind.Int8) (basic kind.Str), None) ∷ (basic kind.Int8, Some (Whole (pos 1))) ∷ (
      basic kind.Str,
      None,
    ) ∷ (basic kind.Str, Some (Bytes (codes "a"))) ∷ [])
map_element_stored = refl

-- s = s[1:i]
slice_of_slice : told [] (ss (asg (v (codes "s") ∷ []) None (sl (v (codes "s")) (some_expr (int (codes "1"))) (some_expr
    (v (codes "i"))) ∷ []) ∷ []))
    ≡ ((slice_of int_type, None) ∷ (slice_of int_type, None) ∷ (int_type, Some (Whole (pos 1))) ∷ (int_type, None) ∷
    (slice_of int_type, None) ∷ [])
slice_of_slice = refl

-- q = `abc`[1:2]
slice_of_constant_string : told [] (ss (asg (v (codes "q") ∷ []) None (sl (str (codes "`abc`")) (some_expr (int (codes
    "1"))) (some_expr (int (codes "2"))) ∷ []) ∷ []))
    ≡ ((basic kind.Str, None) ∷ (untyped kind.UntypedStr, Some (Bytes (codes "abc"))) ∷ (int_type, Some (Whole (pos 1)))
    ∷ (int_type, Some (Whole (pos 2))) ∷ (basic kind.Str, None) ∷ [])
slice_of_constant_string = refl

-- bs = append(bs, 1, '\x61')
append : told [] (ss (asg (v (codes "bs") ∷ []) None (app (v (codes "append")) (v (codes "bs") ∷ int (codes "1") ∷ rune
    (codes "'\\x61'") ∷ []) ∷ []) ∷ []))
    ≡ ((slice_of (basic kind.Uint8), None) ∷ (slice_of (basic kind.Uint8), None) ∷ (
      basic kind.Uint8,
      Some (Whole (pos
          1)),
    ) ∷ (basic kind.Uint8, Some (Whole (pos 97))) ∷ (slice_of (basic kind.Uint8), None) ∷ [])
append = refl

-- i = copy(bs, `ab`)
copy_of_constant : told [] (ss (asg (v (codes "i") ∷ []) None (app (v (codes "copy")) (v (codes "bs") ∷ str (codes
    "`ab`") ∷ []) ∷ []) ∷ []))
    ≡ ((int_type, None) ∷ (slice_of (basic kind.Uint8), None) ∷ (untyped kind.UntypedStr, Some (Bytes (codes "ab"))) ∷
    (int_type, None) ∷ [])
copy_of_constant = refl

-- delete(mi, 1)
delete : told [] (ss (ev (app (v (codes "delete")) (v (codes "mi") ∷ int (codes "1") ∷ [])) ∷ []))
    ≡ ((map_of (basic kind.Int8) (basic kind.Str), None) ∷ (basic kind.Int8, Some (Whole (pos 1))) ∷ (
      tuple_of
          no_go_types,
      None,
    ) ∷ [])
delete = refl

-- s = make([]int, 1, i)
make_slice : told [] (ss (asg (v (codes "s") ∷ []) None (app (v (codes "make")) (top (slc (ty (codes "int"))) ∷ int
    (codes "1") ∷ v (codes "i") ∷ []) ∷ []) ∷ []))
    ≡ ((slice_of int_type, None) ∷ (int_type, Some (Whole (pos 1))) ∷ (int_type, None) ∷ (slice_of int_type, None) ∷ [])
make_slice = refl

-- mi = make(map[int8]string, 4)
make_map : told [] (ss (asg (v (codes "mi") ∷ []) None (app (v (codes "make")) (top (mp (ty (codes "int8")) (ty (codes
    "string"))) ∷ int (codes "4") ∷ []) ∷ []) ∷ []))
    ≡ ((map_of (basic kind.Int8) (basic kind.Str), None) ∷ (int_type, Some (Whole (pos 4))) ∷ (
      map_of (basic kind.Int8)
          (basic kind.Str),
      None,
    ) ∷ [])
make_map = refl

-- p = new(T)
new_pointer : told [] (ss (asg (v (codes "p") ∷ []) None (app (v (codes "new")) (v (codes "T") ∷ []) ∷ []) ∷ []))
    ≡ ((pointer_to (named_type 0 (codes "T")), None) ∷ (pointer_to (named_type 0 (codes "T")), None) ∷ [])
new_pointer = refl

-- x = int8(1)
conversion_of_constant : told [] (ss (asg (v (codes "x") ∷ []) None (app (v (codes "int8")) (int (codes "1") ∷ []) ∷ [])
    ∷ []))
    ≡ ((basic kind.Int8, None) ∷ (basic kind.Int8, Some (Whole (pos 1))) ∷ (basic kind.Int8, Some (Whole (pos 1))) ∷ [])
conversion_of_constant = refl

-- x = int8(1 + 2)
conversion_of_sum : told [] (ss (asg (v (codes "x") ∷ []) None (app (v (codes "int8")) (bin Add (int (codes "1")) (int
    (codes "2")) ∷ []) ∷ []) ∷ []))
    ≡ ((basic kind.Int8, None) ∷ (untyped kind.UntypedInt, Some (Whole (pos 1))) ∷ (
      untyped kind.UntypedInt,
      Some (Whole
          (pos 2)),
    ) ∷ (basic kind.Int8, Some (Whole (pos 3))) ∷ (basic kind.Int8, Some (Whole (pos 3))) ∷ [])
conversion_of_sum = refl

-- bs = []byte(`foo`)
conversion_to_bytes : told [] (ss (asg (v (codes "bs") ∷ []) None (app (top (slc (ty (codes "byte")))) (str (codes
    "`foo`") ∷ []) ∷ []) ∷ []))
    ≡ ((slice_of (basic kind.Uint8), None) ∷ (basic kind.Str, Some (Bytes (codes "foo"))) ∷ (
      slice_of (basic
          kind.Uint8),
      None,
    ) ∷ [])
conversion_to_bytes = refl

-- print(len(By(`a`)))
conversion_to_named_bytes : told [] (ss (ev (app (v (codes "print")) (app (v (codes "len")) (app (v (codes "By")) (str
    (codes "`a`") ∷ []) ∷ []) ∷ [])) ∷ []))
    ≡ ((basic kind.Str, Some (Bytes (codes "a"))) ∷ (named_type 0 (codes "By"), None) ∷ (int_type, None) ∷ (
      tuple_of
          no_go_types,
      None,
    ) ∷ [])
conversion_to_named_bytes = refl

-- x = int8(i)
conversion_of_variable : told [] (ss (asg (v (codes "x") ∷ []) None (app (v (codes "int8")) (v (codes "i") ∷ []) ∷ []) ∷
    []))
    ≡ ((basic kind.Int8, None) ∷ (int_type, None) ∷ (basic kind.Int8, None) ∷ [])
conversion_of_variable = refl

-- mb = B(i < 1)
conversion_of_comparison : told [] (ss (asg (v (codes "mb") ∷ []) None (app (v (codes "B")) (bin Lt (v (codes "i")) (int
    (codes "1")) ∷ []) ∷ []) ∷ []))
    ≡ ((named_type 0 (codes "B"), None) ∷ (int_type, None) ∷ (int_type, Some (Whole (pos 1))) ∷ (
      named_type 0 (codes
          "B"),
      None,
    ) ∷ (named_type 0 (codes "B"), None) ∷ [])
conversion_of_comparison = refl

-- mb = B(true)
conversion_of_truth : told [] (ss (asg (v (codes "mb") ∷ []) None (app (v (codes "B")) (v (codes "true") ∷ []) ∷ []) ∷
    []))
    ≡ ((named_type 0 (codes "B"), None) ∷ (named_type 0 (codes "B"), Some (Truth true)) ∷ (
      named_type 0 (codes "B"),
      Some (Truth true),
    ) ∷ [])
conversion_of_truth = refl

-- x = p.next.n
selected_field : told [] (ss (asg (v (codes "x") ∷ []) None (sel (sel (v (codes "p")) (codes "next")) (codes "n") ∷ [])
    ∷ []))
    ≡ ((basic kind.Int8, None) ∷ (pointer_to (named_type 0 (codes "T")), None) ∷ (
      pointer_to (named_type 0 (codes "T")),
      None,
    ) ∷ (basic kind.Int8, None) ∷ [])
selected_field = refl

-- i = lib.Wide
package_constant : told [] (ss (asg (v (codes "i") ∷ []) None (sel (v (codes "lib")) (codes "Wide") ∷ []) ∷ []))
    ≡ ((int_type, None) ∷ (int_type, Some (Whole (pos 8))) ∷ [])
package_constant = refl

-- x = x + lib.Wide
package_constant_beside_variable : told [] (ss (asg (v (codes "x") ∷ []) None (bin Add (v (codes "x")) (sel (v (codes
    "lib")) (codes "Wide")) ∷ []) ∷ []))
    ≡ ((basic kind.Int8, None) ∷ (basic kind.Int8, None) ∷ (basic kind.Int8, Some (Whole (pos 8))) ∷ (
      basic kind.Int8,
      None,
    ) ∷ [])
package_constant_beside_variable = refl

-- i = lib.Twice(1)
package_function : told [] (ss (asg (v (codes "i") ∷ []) None (app (sel (v (codes "lib")) (codes "Twice")) (int (codes
    "1") ∷ []) ∷ []) ∷ []))
    ≡ ((int_type, None) ∷ (int_type, Some (Whole (pos 1))) ∷ (int_type, None) ∷ [])
package_function = refl

-- t = *p
star_of_pointer : told [] (ss (asg (v (codes "t") ∷ []) None (der (v (codes "p")) ∷ []) ∷ []))
    ≡ ((named_type 0 (codes "T"), None) ∷ (pointer_to (named_type 0 (codes "T")), None) ∷ (
      named_type 0 (codes "T"),
      None,
    ) ∷ [])
star_of_pointer = refl
