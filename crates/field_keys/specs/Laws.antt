-- The laws of names that parts look up, where keys that name fields are told from them. Each is the contract of a
-- function of this crate (Go specification, Composite literals; Declarations and scope).
use Rattle.std.specs.Prelude.{◌≡◌, ℕ, Bool, List, [], Option}
use Rattle.go_tree.specs.declared.spans.Span.{Span}
use Rattle.go_tree.specs.ScopeNames.Means.{Environment}
use Rattle.go_tree.specs.ScopeNames.FreeNames.{free_type_option}
use Rattle.go_tree.specs.Tree.{NameAt, TypeExpr, Expr, Exprs, Stmts}
use Rattle.go_tree.specs.GoTypes.Agreement.{On, Agrees, with_names}
use Rattle.go_tree.specs.GoTypes.Collect.{package_constants, package_variables}
use Rattle.go_tree.specs.GoTypes.Entities.{Entity, Env}
use Rattle.go_tree.specs.GoTypes.Statements.{Ctx}
use Rattle.go_tree.specs.GoTypes.Typing.{parts, all_parts, used_stmts, stmts}
use Rattle.go_translation.specs.Agreement.{OnHere, at_names}
use Rattle.go_translation.specs.Here.{Here, Location}
use Rattle.go_translation.specs.Translation.{stmts_term}
use Rattle.field_keys.specs.Below.{AgreesBelow, AgreesHereBelow, Settled}
use Rattle.field_keys.specs.Looked.{looked_expr, looked_exprs, looked_stmts}

-- Where the names that an expression looks up mean the same in another environment, it is the same operand there,
abbrev pub OperandsAreAlike : Type 0
OperandsAreAlike =
    (top a : Env) (e : Expr Span) (m : Environment Entity) (around : List (List ℕ)) → AgreesBelow top around a m
    → On (looked_expr top around e) a m → parts a e ≡ parts (with_names a m) e

-- so are expressions,
abbrev pub ListsAreAlike : Type 0
ListsAreAlike =
    (top a : Env) (es : Exprs Span) (m : Environment Entity) (around : List (List ℕ)) → AgreesBelow top around a m
    → On (looked_exprs top around es) a m → all_parts a es ≡ all_parts (with_names a m) es

-- statements are as well typed,
abbrev pub BodiesAreAlike : Type 0
BodiesAreAlike =
    (c : Ctx) (top a : Env) (before : Bool) (b : Stmts Span) (m : Environment Entity) (around : List (List ℕ))
    → AgreesBelow top around a m → On (looked_stmts top around b) a m
    → stmts c a before b ≡ stmts c (with_names a m) before b

-- and use the same names.
abbrev pub UsesAreAlike : Type 0
UsesAreAlike =
    (top a : Env) (b : Stmts Span) (m : Environment Entity) (around : List (List ℕ)) → AgreesBelow top around a m
    → On (looked_stmts top around b) a m → used_stmts a b ≡ used_stmts (with_names a m) b

-- And they are the same term, where besides variables of these names are at the same locations.
abbrev pub TermsAreAlike : Type 0
TermsAreAlike =
    (top : Env) (h : Here) (b : Stmts Span) (m : Environment Entity) (l : Environment Location)
    (around : List (List ℕ)) → AgreesHereBelow top around h m l → OnHere (looked_stmts top around b) h m l
    → stmts_term h b ≡ stmts_term (at_names h m l) b

-- ---- specs of a package, in the rounds in which its block is found

-- Where types mean what they mean at last, or nothing yet, and the names that the type and the values of a spec look up
-- mean the same in another environment, which keys name fields being told at last, the spec declares the same constants
-- there,
abbrev pub ConstantsStay : Type 0
ConstantsStay =
    (top a : Env) (m : Environment Entity) → Agrees [] a m → Settled Span top a → (ns : List (NameAt Span))
    (t : Option (TypeExpr Span)) (es : Exprs Span) → On (free_type_option [] t) a m → On (looked_exprs top [] es) a m
    → package_constants a ns t es ≡ package_constants (with_names a m) ns t es

-- or the same variables.
abbrev pub VariablesStay : Type 0
VariablesStay =
    (top a : Env) (m : Environment Entity) → Agrees [] a m → Settled Span top a → (ns : List (NameAt Span))
    (t : Option (TypeExpr Span)) (es : Exprs Span) → On (free_type_option [] t) a m → On (looked_exprs top [] es) a m
    → package_variables a ns t es ≡ package_variables (with_names a m) ns t es
