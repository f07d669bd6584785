-- Which type a place asks of an untyped expression in it (Go specification, Constants; Constant expressions; Operators;
-- Conversions; Index expressions; Calls; Built-in functions; Composite literals; Assignment statements; Return
-- statements; For statements; Switch statements).
use Rattle.std.specs.Prelude.{ℕ, Bool, true, false, ◌&&◌, List, [], ◌∷◌, map, Option, Some, None}
use Rattle.std.specs.Prelude.{is_some, if◌then◌else◌}
use Rattle.go_tree.specs.declared.operators.BinOp.{BinOp}
use Rattle.go_tree.specs.declared.operators.BinOp.TheVariants.{Shl, Shr}
use Rattle.go_tree.specs.declared.const_eval.kinds.Kind.TheVariants as kind
use Rattle.go_tree.specs.ConstEval.Operators.{is_comparison}
use Rattle.go_tree.specs.Tree.{Exprs, no_exprs, expr_and, ValueOption, no_value, some_value, RangeLeft, assigns}
use Rattle.go_tree.specs.GoTypes.Answers.{given, both, otherwise}
use Rattle.go_tree.specs.GoTypes.Types.{GoType, basic, struct_of, GoFields, no_go_fields, go_field, is_untyped}
use Rattle.go_tree.specs.GoTypes.Types.{element_of, basic_kind, fields_of}
use Rattle.go_tree.specs.GoTypes.Defined.{Defined, under}
use Rattle.go_tree.specs.GoTypes.Entities.{Builtin, Append, Delete, Make, Panic, Print, Println, Content, exact, Place}
use Rattle.go_tree.specs.GoTypes.Entities.{map_element, Entity, variable, Env, defined_in, meaning, is_declared_here}
use Rattle.go_tree.specs.GoTypes.Operands.{Operand, value, a_type, a_function, a_builtin, Typed, typed, constant_of}
use Rattle.go_tree.specs.GoTypes.Operands.{default_type}
use Rattle.go_tree.specs.GoTypes.Operators.{common_type}
use Rattle.go_tree.specs.GoTypes.Primary.{find_field}
use Rattle.go_tree.specs.GoTypes.Literals.{field_key, key_type, inner_type}
use Rattle.go_tree.specs.GoTypes.Statements.{Target, blank, store}
use Rattle.go_tree.specs.GoTypes.Typing.{targets}
use Rattle.checked_findings.specs.Facts.{Asked, as_it_is, at_type, with_ok, asked}

-- ---- operators (Operators; Constant expressions)

-- both are constants
abbrev pub both_constant : Content → Content → Bool
both_constant c d = is_some (constant_of c) && is_some (constant_of d)

-- `<<` or `>>`
abbrev pub shifts : BinOp → Bool
shifts Shl = true
shifts Shr = true
shifts op = false

-- the type that is asked, or else this one
abbrev pub or_type : Asked → GoType → Asked
or_type (at_type u) t = at_type u
or_type a t = at_type t

-- the operand of a unary operator: of a constant nothing is asked, as its value isn't computed; else what is asked of
-- the whole
abbrev pub unary_asks : Asked → Option Operand → Asked
unary_asks a (Some (value t (exact c))) = as_it_is
unary_asks a o = a

-- what is asked of one of two operands that are values
abbrev pub of_values : (Typed → Typed → Asked) → Option Operand → Option Operand → Asked
of_values f o q = otherwise (both (given o typed) (given q typed) (λ v w. Some (f v w))) as_it_is

module _ (ds : List Defined) where
  -- a value that no place gives a type has its default type
  abbrev pub by_default : Operand → Asked
  by_default o = asked (given (typed o) (λ v. default_type ds v.0))

  -- so has a value that may be left out
  abbrev pub option_by_default : Option (Option Typed) → Asked
  option_by_default v = asked (given v (λ v. given v (λ v. default_type ds v.0)))

  -- two untyped operands of the common type `t`: constants keep that kind; what is compared has its default type; else
  -- both are what is asked of the whole
  abbrev pub untyped_asks : BinOp → Asked → Typed → Typed → GoType → Asked
  untyped_asks op a v w t =
      if both_constant v.1 w.1
      then at_type t
      else (if is_comparison op then asked (default_type ds t) else or_type a t)

  -- two operands of an operator that is no shift: an untyped one takes the type of the other
  abbrev pub operands_ask : BinOp → Asked → Typed → Typed → Asked
  operands_ask op a v w =
      otherwise
      (given (common_type ds v.0 w.0) (λ t.
      Some (if is_untyped t then untyped_asks op a v w t else at_type t))) as_it_is

  -- the left operand: that of a shift is what is asked of the whole, unless both are constant
  abbrev pub left_asks : BinOp → Asked → Typed → Typed → Asked
  left_asks op a v w =
      if shifts op then (if both_constant v.1 w.1 then as_it_is else a) else operands_ask op a v w

  -- the right operand: of the count of a shift nothing is asked
  abbrev pub right_asks : BinOp → Asked → Typed → Typed → Asked
  right_asks op a v w = if shifts op then as_it_is else operands_ask op a v w

  -- ---- indices (Index expressions)

  -- the key type of a map, or `int`
  abbrev pub index_asks : Option Operand → Asked
  index_asks o =
      at_type (otherwise (given (given o typed) (λ v. key_type ds (under ds v.0))) (basic kind.Int))

  -- ---- calls (Calls; Conversions; Built-in functions)

  -- a constant that is converted to a type without constants has its default type
  abbrev pub conversion_asks : GoType → Operand → Asked
  conversion_asks to (value t (exact c)) =
      if is_some (basic_kind (under ds to)) then at_type to else asked (default_type ds t)
  conversion_asks to o = at_type to

  -- the element type of the first, which is a slice
  abbrev pub append_asks : List Operand → Asked
  append_asks [] = as_it_is
  append_asks (o ∷ os) = asked (given (typed o) (λ v. element_of (under ds v.0)))

  -- the key type of the first, which is a map
  abbrev pub delete_asks : List Operand → Asked
  delete_asks [] = as_it_is
  delete_asks (o ∷ os) = asked (given (typed o) (λ v. key_type ds (under ds v.0)))

  -- the arguments of a predeclared function
  abbrev pub builtin_asks : Builtin → List Operand → List Asked
  builtin_asks Append os = map (λ o. append_asks os) os
  builtin_asks Delete os = map (λ o. delete_asks os) os
  builtin_asks Make os = map (λ o. at_type (basic kind.Int)) os
  builtin_asks Panic os = map by_default os
  builtin_asks Print os = map by_default os
  builtin_asks Println os = map by_default os
  builtin_asks b os = []

  -- the arguments of a call
  abbrev pub call_asks : Option Operand → Option (List Operand) → List Asked
  call_asks (Some (a_function f)) os = map at_type f.params
  call_asks (Some (a_type t)) os = map (conversion_asks t) (otherwise os [])
  call_asks (Some (a_builtin b)) os = builtin_asks b (otherwise os [])
  call_asks o os = []

  -- ---- values that are stored (Assignment statements; Variable declarations; Short variable declarations)

  -- a value goes to a place of a type, or to one whose type is its own
  abbrev pub stored_asks : Option GoType → Operand → Asked
  stored_asks None o = by_default o
  stored_asks (Some t) o = at_type t

  -- each its own
  abbrev pub each_asks : List (Option GoType) → List Operand → List Asked
  each_asks [] os = []
  each_asks (t ∷ ts) [] = []
  each_asks (t ∷ ts) (o ∷ os) = stored_asks t o ∷ each_asks ts os

  -- an element of a map may give two values, the second whether it is there
  abbrev pub values_ask : List Place → List (Option GoType) → List Operand → List Asked
  values_ask (map_element ∷ []) (t ∷ u ∷ []) (value v c ∷ []) = with_ok (otherwise u (basic kind.Bool)) ∷ []
  values_ask ps ts os = each_asks ts os

  -- the right side of `x op= y` is the right operand of `x op y`
  abbrev pub update_asks : BinOp → Option (List Operand) → Option (List Operand) → List Asked
  update_asks op (Some (o ∷ [])) (Some (q ∷ [])) = of_values (right_asks op as_it_is) (Some o) (Some q) ∷ []
  update_asks op os qs = []

  -- a value of a case is compared with the tag, or with `true`
  abbrev pub case_asks : Option Typed → Asked
  case_asks tag = asked (given tag (λ v. default_type ds v.0))

-- the type of what a target stores, if it has one
abbrev pub target_type : Target → Option GoType
target_type blank = None
target_type (store t) = Some t

-- those of targets
abbrev pub target_types : Option (List Target) → List (Option GoType)
target_types ts = map target_type (otherwise ts [])

-- the type of one target alone, if it has one
abbrev pub only_target : Option (List Target) → Option GoType
only_target (Some (store t ∷ [])) = Some t
only_target ts = None

-- the type of a variable
abbrev pub variable_type : Option Entity → Option GoType
variable_type (Some (variable t)) = Some t
variable_type e = None

-- the types of the names of a short declaration: that of a variable that it assigns to, or none
abbrev pub defined_types : Env → List (List ℕ) → List (Option GoType)
defined_types env ns = map (λ n. if is_declared_here env n then variable_type (meaning env n) else None) ns

-- ---- composite literals (Composite literals)

-- the type of a key in a literal with this underlying type: the key type of a map, or `int`
abbrev pub key_asked : List Defined → GoType → Option GoType
key_asked ds u = Some (otherwise (key_type ds u) (basic kind.Int))

module _ {S : Type 0} where
  -- the same of each expression
  abbrev pub each_of : Asked → Exprs S → List Asked
  each_of a no_exprs = []
  each_of a (expr_and e es) = a ∷ each_of a es

  -- a value in a struct goes to the field that its key names, or to the first
  abbrev pub field_asked : ℕ → ValueOption S → GoFields → Option GoType
  field_asked home no_value no_go_fields = None
  field_asked home no_value (go_field n p t fs) = Some t
  field_asked home (some_value k) fs = given (field_key k) (λ n. find_field home n fs)

  -- a value without a key leaves the fields behind the first to the values after it
  abbrev pub behind_field : ValueOption S → GoType → GoType
  behind_field no_value (struct_of (go_field n p t fs)) = struct_of fs
  behind_field k u = u

  -- the type of a value in a literal with this underlying type
  abbrev pub value_asked : List Defined → ℕ → ValueOption S → GoType → Option GoType
  value_asked ds home k u = elim (fields_of u) [ Some fs ↦ field_asked home k fs | None ↦ inner_type ds u ]

  -- ---- ranges (For statements with range clause)

  -- a number goes to the variable that it is assigned to, or has its default type
  abbrev pub over_asks : Env → Operand → RangeLeft S → Asked
  over_asks env o (assigns es) = stored_asks (defined_in env) (only_target (targets env es)) o
  over_asks env o l = by_default (defined_in env) o
