-- What is found in composite literals, by go/types of Go 1.19: of each expression, its parts before it, the type and
-- the constant that `types.Info.Types` has (Go specification, Composite literals).
use Rattle.std.specs.Prelude.{◌≡◌, refl, [], ◌∷◌, pos, Some, None, codes}
use Rattle.go_tree.specs.declared.operators.UnOp.TheVariants.{Address}
use Rattle.go_tree.specs.declared.const_eval.kinds.Kind.TheVariants as kind
use Rattle.go_tree.specs.declared.const_eval.consts.Const.TheVariants.{Whole, Bytes}
use Rattle.go_tree.specs.Tree.{plain, no_value, some_value}
use Rattle.go_tree.specs.GoTypes.Types.{basic, named_type, pointer_to, slice_of, map_of, tuple_of, no_go_types}
use Rattle.go_tree.proofs.GoTypes.Trees.{v, int, str, app, un, comp, braces, ty, ptr, slc, mp, ss, ev, asg, def}
use Rattle.checked_findings.proofs.Told.{told, int_type}

-- t = T{1, p}
struct_by_place : told [] (ss (asg (v (codes "t") ∷ []) None (comp (ty (codes "T")) ((
  no_value,
  (plain (int (codes
      "1"))),
) ∷ (no_value, (plain (v (codes "p")))) ∷ []) ∷ []) ∷ []))
    ≡ ((named_type 0 (codes "T"), None) ∷ (basic kind.Int8, Some (Whole (pos 1))) ∷ (
      pointer_to (named_type 0 (codes
          "T")),
      None,
    ) ∷ (named_type 0 (codes "T"), None) ∷ [])
struct_by_place = refl

-- t = T{n: 1}
struct_by_name : told [] (ss (asg (v (codes "t") ∷ []) None (comp (ty (codes "T")) ((
  some_value (plain (v (codes "n"))),
  (plain (int (codes "1"))),
) ∷ []) ∷ []) ∷ []))
    ≡ ((named_type 0 (codes "T"), None) ∷ (basic kind.Int8, Some (Whole (pos 1))) ∷ (named_type 0 (codes "T"), None) ∷
    [])
struct_by_name = refl

-- p = &T{n: 2, next: p}
struct_address : told [] (ss (asg (v (codes "p") ∷ []) None (un Address (comp (ty (codes "T")) ((
  some_value (plain (v
      (codes "n"))),
  (plain (int (codes "2"))),
) ∷ (some_value (plain (v (codes "next"))), (plain (v (codes "p")))) ∷ []))
    ∷ []) ∷ []))
    ≡ ((pointer_to (named_type 0 (codes "T")), None) ∷ (basic kind.Int8, Some (Whole (pos 2))) ∷ (
      pointer_to (named_type
          0 (codes "T")),
      None,
    ) ∷ (named_type 0 (codes "T"), None) ∷ (pointer_to (named_type 0 (codes "T")), None) ∷ [])
struct_address = refl

-- s = []int{2: 1, 2}
slice_literal : told [] (ss (asg (v (codes "s") ∷ []) None (comp (slc (ty (codes "int"))) ((
  some_value (plain (int
      (codes "2"))),
  (plain (int (codes "1"))),
) ∷ (no_value, (plain (int (codes "2")))) ∷ []) ∷ []) ∷ []))
    ≡ ((slice_of int_type, None) ∷ (int_type, Some (Whole (pos 2))) ∷ (int_type, Some (Whole (pos 1))) ∷ (
      int_type,
      Some
          (Whole (pos 2)),
    ) ∷ (slice_of int_type, None) ∷ [])
slice_literal = refl

-- mi = map[int8]string{1: `a`}
map_literal : told [] (ss (asg (v (codes "mi") ∷ []) None (comp (mp (ty (codes "int8")) (ty (codes "string")))
    ((some_value (plain (int (codes "1"))), (plain (str (codes "`a`")))) ∷ []) ∷ []) ∷ []))
    ≡ ((map_of (basic kind.Int8) (basic kind.Str), None) ∷ (basic kind.Int8, Some (Whole (pos 1))) ∷ (
      basic kind.Str,
      Some (Bytes (codes "a")),
    ) ∷ (map_of (basic kind.Int8) (basic kind.Str), None) ∷ [])
map_literal = refl

-- a := []*T{{1, p}, {n: 2}}; print(len(a))
literals_in_braces : told [] (ss (def (codes "a" ∷ []) (comp (slc (ptr (ty (codes "T")))) ((
  no_value,
  (braces
      ((no_value, (plain (int (codes "1")))) ∷ (no_value, (plain (v (codes "p")))) ∷ [])),
) ∷ (
  no_value,
  (braces
      ((some_value (plain (v (codes "n"))), (plain (int (codes "2")))) ∷ [])),
) ∷ []) ∷ []) ∷ ev (app (v (codes "print"))
    (app (v (codes "len")) (v (codes "a") ∷ []) ∷ [])) ∷ []))
    ≡ ((basic kind.Int8, Some (Whole (pos 1))) ∷ (pointer_to (named_type 0 (codes "T")), None) ∷ (
      pointer_to (named_type
          0 (codes "T")),
      None,
    ) ∷ (basic kind.Int8, Some (Whole (pos 2))) ∷ (pointer_to (named_type 0 (codes "T")), None)
    ∷ (slice_of (pointer_to (named_type 0 (codes "T"))), None) ∷ (
      slice_of (pointer_to (named_type 0 (codes "T"))),
      None,
    ) ∷ (int_type, None) ∷ (tuple_of no_go_types, None) ∷ [])
literals_in_braces = refl

-- a := [][]int8{{1}, {}}; print(len(a))
slices_in_braces : told [] (ss (def (codes "a" ∷ []) (comp (slc (slc (ty (codes "int8")))) ((
  no_value,
  (braces
      ((no_value, (plain (int (codes "1")))) ∷ [])),
) ∷ (no_value, (braces ([]))) ∷ []) ∷ []) ∷ ev (app (v (codes "print"))
    (app (v (codes "len")) (v (codes "a") ∷ []) ∷ [])) ∷ []))
    ≡ ((basic kind.Int8, Some (Whole (pos 1))) ∷ (slice_of (basic kind.Int8), None) ∷ (slice_of (basic kind.Int8), None)
    ∷ (slice_of (slice_of (basic kind.Int8)), None) ∷ (slice_of (slice_of (basic kind.Int8)), None) ∷ (
      int_type,
      None,
    ) ∷ (tuple_of no_go_types, None) ∷ [])
slices_in_braces = refl

-- m = map[string]T{`a`: {n: 1}}
map_of_structs : told [] (ss (asg (v (codes "m") ∷ []) None (comp (mp (ty (codes "string")) (ty (codes "T")))
    ((
      some_value (plain (str (codes "`a`"))),
      (braces ((some_value (plain (v (codes "n"))), (plain (int (codes "1")))) ∷
          [])),
    ) ∷ []) ∷ []) ∷ []))
    ≡ ((map_of (basic kind.Str) (named_type 0 (codes "T")), None) ∷ (basic kind.Str, Some (Bytes (codes "a"))) ∷ (
      basic
          kind.Int8,
      Some (Whole (pos 1)),
    ) ∷ (named_type 0 (codes "T"), None) ∷ (
      map_of (basic kind.Str) (named_type 0
          (codes "T")),
      None,
    ) ∷ [])
map_of_structs = refl
