-- When two environments agree on names at a place below the top of a file (Go specification, Declarations and scope).
use Rattle.std.specs.Prelude.{◌≡◌, ℕ, true, false, List, Option, None}
use Rattle.go_tree.specs.ScopeNames.Means.{Environment, is_blank}
use Rattle.go_tree.specs.GoTypes.Agreement.{Agrees}
use Rattle.go_tree.specs.GoTypes.Answers.{is_among}
use Rattle.go_tree.specs.GoTypes.Defined.{under}
use Rattle.go_tree.specs.GoTypes.Entities.{Entity, Env, meaning, defined_in}
use Rattle.go_tree.specs.GoTypes.TypeNames.{type_meant}
use Rattle.go_tree.specs.GoTypes.Types.{GoType}
use Rattle.go_tree.specs.Tree.{TypeExpr}
use Rattle.go_translation.specs.Agreement.{SameVariable}
use Rattle.go_translation.specs.Here.{Location, Here}

-- They agree on the names that are declared around; any other means at the place what it means at the top of the file,
-- which is in the same package and program.
pub record AgreesBelow (top : Env) (around : List (List ℕ)) (a : Env) (m : Environment Entity) : Type 0 where
  pub agrees : Agrees around a m
  pub outside : (n : List ℕ) → is_among n around ≡ false → meaning a n ≡ meaning top n
  pub home : a.home ≡ top.home
  pub world : a.world ≡ top.world

-- So they do, and variables of the names that are declared around are at the same locations.
pub record AgreesHereBelow
    (top : Env) (around : List (List ℕ)) (h : Here) (m : Environment Entity) (l : Environment Location)
    : Type 0 where
  pub names : AgreesBelow top around h.env m
  pub bound : (n : List ℕ) → is_among n around ≡ true → SameVariable h l n
  pub here : (n : List ℕ) → is_among n h.env.here ≡ true → SameVariable h l n
  pub blank : (n : List ℕ) → is_blank n ≡ true → SameVariable h l n

-- ---- types before all is known

-- one of two answers is missing, or they are the same
pub data Fitting : Option GoType → Option GoType → Type 0 where
  nothing_there : {u : Option GoType} → Fitting None u
  nothing_here : {t : Option GoType} → Fitting t None
  same_type : {u : Option GoType} → Fitting u u

-- While package blocks are found, a type means at a place what it means at last, or nothing yet; and a type has the
-- underlying type that it has at last.
pub record Settled (S : Type 0) (top a : Env) : Type 0 where
  pub types : (t : TypeExpr S) → Fitting (type_meant top t) (type_meant a t)
  pub underlying : (u : GoType) → under (defined_in a) u ≡ under (defined_in top) u
