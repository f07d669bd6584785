-- What is found in the declarations of a package, by go/types of Go 1.19, and look-ups by place (Go specification,
-- Packages; Iota; Variable declarations; Function declarations; Method declarations).
use Rattle.std.specs.Prelude.{◌≡◌, refl, ℕ, List, [], ◌∷◌, map, Option, Some, None, true, false, pos, codes}
use Rattle.go_tree.specs.declared.spans.Span.{Span}
use Rattle.go_tree.specs.declared.operators.BinOp.TheVariants.{Add, Lt}
use Rattle.go_tree.specs.declared.const_eval.kinds.Kind.TheVariants as kind
use Rattle.go_tree.specs.declared.const_eval.consts.Const.{Const}
use Rattle.go_tree.specs.declared.const_eval.consts.Const.TheVariants.{Whole}
use Rattle.go_tree.specs.Tree.{Expr, ident, int_lit, binary, no_value, plain}
use Rattle.go_tree.specs.GoTypes.Types.{GoType, basic, untyped, pointer_to, slice_of}
use Rattle.go_tree.specs.GoTypes.Programs.{Program}
use Rattle.go_tree.proofs.GoTypes.Trees.{ty, slc, st, par, sig, v, int, sel, bin, comp, asg, ret, consts_at, vars_at}
use Rattle.go_tree.proofs.GoTypes.Trees.{type_at as declared_type, func_at, method_at, file, pack}
use Rattle.go_tree.proofs.GoTypes.Setting.{here}
use Rattle.checked_findings.specs.Facts.{Facts, as_it_is}
use Rattle.checked_findings.specs.Found.{found}
use Rattle.checked_findings.specs.Packages.{program_found}
use Rattle.checked_findings.specs.LookUp.{type_at, const_at, places_distinct, from_start, as_written}
use Rattle.checked_findings.specs.Laws.{nowhere}
use Rattle.checked_findings.proofs.Told.{int_type, type_T}

-- const ( a = iota; b = iota + 1; c int8 = 2 )
-- var v, w int8 = 1, a
-- var q = []int{1}
-- type T struct { n int8 }
-- func (t *T) Set(x int8) { t.n = x + 1 }
-- func f(x int8) (int8, bool) { return c, x < b }
abbrev a_package : Program ℕ
a_package =
    pack 0 (codes "p")
    (file []
    (consts_at 1
    ((codes "a" ∷ [], (None, v (codes "iota") ∷ []))
    ∷ (codes "b" ∷ [], (None, bin Add (v (codes "iota")) (int (codes "1")) ∷ []))
    ∷ (codes "c" ∷ [], (Some (ty (codes "int8")), int (codes "2") ∷ [])) ∷ [])
    ∷ vars_at 2
    ((codes "v" ∷ codes "w" ∷ [], (Some (ty (codes "int8")), int (codes "1") ∷ v (codes "a") ∷ [])) ∷ [])
    ∷ vars_at 3 ((codes "q" ∷ [], (None, comp (slc (ty (codes "int"))) ((no_value, plain (int (codes "1"))) ∷ []) ∷ []))
    ∷ [])
    ∷ declared_type 4 (codes "T") false (st ((codes "n", ty (codes "int8")) ∷ []))
    ∷ method_at 5 (Some (codes "t")) true (codes "T") (codes "Set") (sig (par (Some (codes "x")) (ty (codes "int8")) ∷
    []) [])
    (asg (sel (v (codes "t")) (codes "n") ∷ []) None (bin Add (v (codes "x")) (int (codes "1")) ∷ []) ∷ [])
    ∷ func_at 6 (codes "f")
    (sig (par (Some (codes "x")) (ty (codes "int8")) ∷ []) (par None (ty (codes "int8")) ∷ par None (ty (codes "bool"))
    ∷ []))
    (ret (v (codes "c") ∷ bin Lt (v (codes "x")) (v (codes "b")) ∷ []) ∷ []) ∷ []) ∷ []) ∷ []

-- types and constants, without places
abbrev told_of : Facts (Unit {0}) → List (GoType × Option Const)
told_of fs = map (λ f. (f.type, f.constant)) fs

abbrev int8_type : GoType
int8_type = basic kind.Int8

abbrev whole : ℕ → Option Const
whole n = Some (Whole (pos n))

declarations_found :
    map (map (map told_of)) (program_found nowhere a_package)
    ≡ ((((untyped kind.UntypedInt, whole 0) ∷ (untyped kind.UntypedInt, whole 1) ∷ (untyped kind.UntypedInt, whole 1)
    ∷ (untyped kind.UntypedInt, whole 2) ∷ (int8_type, whole 2) ∷ [])
    ∷ ((int8_type, whole 1) ∷ (int8_type, whole 0) ∷ []) ∷ ((int_type, whole 1) ∷ (slice_of int_type, None) ∷ []) ∷ []
    ∷ ((pointer_to type_T, None) ∷ (int8_type, None) ∷ (int8_type, None) ∷ (int8_type, whole 1) ∷ (int8_type, None) ∷
    [])
    ∷ ((int8_type, whole 2) ∷ (int8_type, None) ∷ (int8_type, whole 2) ∷ (basic kind.Bool, None) ∷ []) ∷ []) ∷ []) ∷ []
declarations_found = refl

-- ---- look-ups: `x + 1` at 10 to 15, in a declaration that starts at 8

abbrev from_to : ℕ → ℕ → Span
from_to a b = record { start = a; end = b }

abbrev a_sum : Expr Span
a_sum = binary (from_to 10 15) Add (ident (from_to 10 11) (codes "x")) (int_lit (from_to 14 15) (codes "1"))

abbrev files : List (List (Facts Span))
files = (found as_written here as_it_is a_sum ∷ []) ∷ []

sum_looked_up : type_at files 0 (from_to 10 15) ≡ Some int8_type
sum_looked_up = refl

constant_looked_up : const_at files 0 (from_to 14 15) ≡ whole 1
constant_looked_up = refl

no_constant_there : const_at files 0 (from_to 10 11) ≡ None
no_constant_there = refl

nothing_there : type_at files 0 (from_to 11 12) ≡ None
nothing_there = refl

no_such_file : type_at files 1 (from_to 10 15) ≡ None
no_such_file = refl

places_apart : places_distinct (found as_written here as_it_is a_sum) ≡ true
places_apart = refl

-- the same places, counted from the start of the declaration
counted_from_start : map (λ f. f.at) (found (from_start 8) here as_it_is a_sum) ≡ from_to 2 3 ∷ from_to 6 7 ∷ from_to 2
    7 ∷ []
counted_from_start = refl
