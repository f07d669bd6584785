-- What is found of an expression in its place: its type, and its constant if it is one (Go specification, Expressions;
-- Constants; Constant expressions). An untyped expression has a kind by its parts, and its type by the place where it
-- stands.
use Rattle.std.specs.Prelude.{Bool, List, [], ◌∷◌, Option, Some, None, if◌then◌else◌}
use Rattle.go_tree.specs.declared.const_eval.consts.Const.{Const}
use Rattle.go_tree.specs.GoTypes.Answers.{given, and_also}
use Rattle.go_tree.specs.GoTypes.Types.{GoType, tuple_of, types_of, is_untyped}
use Rattle.go_tree.specs.GoTypes.Operands.{Operand, value, constant_of}
use Rattle.go_tree.specs.GoTypes.Recorded.{operand_type}

-- what a place asks of the expression in it: nothing, a type if it is untyped, or an element of a map with a second
-- value of this type, whether it is there (Constants; Index expressions)
pub data Asked : Type 0 where
  as_it_is : Asked
  at_type : GoType → Asked
  with_ok : GoType → Asked

-- the type that is asked, if one is
abbrev pub asked : Option GoType → Asked
asked None = as_it_is
asked (Some t) = at_type t

-- the type in its place of an expression that has this one by its parts
abbrev pub type_in : Asked → GoType → GoType
type_in as_it_is t = t
type_in (at_type u) t = if is_untyped t then u else t
type_in (with_ok u) t = tuple_of (types_of (t ∷ u ∷ []))

-- the constant that an operand is
abbrev pub operand_constant : Operand → Option Const
operand_constant (value t c) = constant_of c
operand_constant o = None

-- an expression's place, its type there, and its constant, if it is one
pub record Fact (S : Type 0) : Type 0 where
  pub at : S
  pub type : GoType
  pub constant : Option Const

-- findings in order
abbrev pub Facts : Type 0 → Type 0
Facts S = List (Fact S)

-- what is found of an operand of a type: types, functions and what `recover()` gives have none
abbrev pub fact_of : {S : Type 0} → S → Asked → Operand → Option (Fact S)
fact_of s a o =
    given (operand_type o) (λ t. Some (record { at = s; type = type_in a t; constant = operand_constant o }))

-- what is found of an expression that is typed
abbrev pub finding : {S : Type 0} → S → Asked → Option Operand → Facts S
finding s a o = and_also (given o (fact_of s a)) []
