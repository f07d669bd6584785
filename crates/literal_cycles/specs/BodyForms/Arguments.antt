-- A call that becomes the one expression of its function or method, with the receiver and the arguments in the places of
-- parameters (Go specification, Calls; Return statements; Selectors; Method declarations).
use Rattle.std.specs.Prelude.{◌≡◌, ℕ, Bool, true, false, List, [], ◌∷◌, Some}
use Rattle.go_tree.specs.Tree.{Expr, composite, selector, index, slice, call, func_lit, unary, binary, star, Exprs}
use Rattle.go_tree.specs.Tree.{no_exprs, expr_and, ExprOption, no_expr, some_expr}
use Rattle.pkg_graph.specs.Package.{Package}
use Rattle.run_rules.specs.Surroundings.{Use, called, other, Place, Seen, seen, inner_slot, callee_place}
use Rattle.run_rules.specs.Places.{expr_seen}
use Rattle.run_rules.specs.Rewriting.{new_expr}
use Rattle.run_rules.specs.Sites.{MarkRef, is_among_marks, Site, called_mark}
use Rattle.run_rules.specs.Calls.{start, start_with}
use Rattle.run_rules.specs.FormTrees.{ExprForm, one_expr}
use Rattle.run_rules.specs.Forms.{body_changes, chosen_arg}
use Rattle.run_rules.specs.Steps.{At, same_here}
use Rattle.order_runs.specs.CycleLaws.PutCalls.{called_among}
use Rattle.literal_cycles.specs.BodyForms.Uses.{CalledUse, call_of, chosen_of, names_for, Becomes, ConvertsToType}

abbrev mutual
  -- no literal of a function stands in the expression, and no composite literal
  pub IsFlat : Expr At → Type 0
  IsFlat (composite s t es) = ⊥
  IsFlat (selector s b n) = IsFlat b
  IsFlat (index s b i) = IsFlat b × IsFlat i
  IsFlat (slice s b i j) = IsFlat b × (OptionFlat i × OptionFlat j)
  IsFlat (call s f xs r) = IsFlat f × AllFlat xs
  IsFlat (func_lit s g z b) = ⊥
  IsFlat (unary s o e) = IsFlat e
  IsFlat (binary s o a b) = IsFlat a × IsFlat b
  IsFlat (star s e) = IsFlat e
  IsFlat e = Unit {0}

  -- in none of these
  pub AllFlat : Exprs At → Type 0
  AllFlat no_exprs = Unit {0}
  AllFlat (expr_and e es) = IsFlat e × AllFlat es

  -- nor in one that may be left out
  pub OptionFlat : ExprOption At → Type 0
  OptionFlat no_expr = Unit {0}
  OptionFlat (some_expr e) = IsFlat e

module _ (commented : ℕ → ℕ → At → Bool) (rs : List (Package At)) (marks : List MarkRef) (x : Site At)
    (u : CalledUse same_here commented rs marks x) where
  -- what is written for an expression of the body, at this place of it
  abbrev pub written_for : Place At → Use → Expr At → Expr At
  written_for p w e =
      new_expr
      (body_changes same_here rs (call_of same_here commented rs marks x u) (names_for same_here commented rs marks x u ExprForm)
      (chosen_of same_here commented rs marks x u)) p w e

  -- what is called in a part of the body names at the use, as it is written, what it names in the function
  abbrev pub CalleeNamed : Seen At → Type 0
  CalleeNamed (seen p w (call s f xs r)) =
      called_mark rs marks x.at x.place
      (written_for (callee_place (inner_slot p.slot (call s f xs r) 7 true false) f p) called f)
      ≡ called_mark rs marks u.home (start same_here rs (call_of same_here commented rs marks x u)) f
  CalleeNamed y = Unit {0}

  -- so it is in all parts of a list
  abbrev pub AllCalleesNamed : List (Seen At) → Type 0
  AllCalleesNamed [] = Unit {0}
  AllCalleesNamed (y ∷ ys) = CalleeNamed y × AllCalleesNamed ys

  -- what is written in the place of a parameter calls what the call does
  abbrev pub ArgumentsCall : Type 0
  ArgumentsCall =
      (w : Use) (i : ℕ) (z : Expr At) →
      chosen_arg same_here rs (call_of same_here commented rs marks x u)
      (names_for same_here commented rs marks x u ExprForm) (chosen_of same_here commented rs marks x u) w i ≡ Some z →
      (at : ℕ) (b : MarkRef) → is_among_marks (called_among rs marks x.at at (expr_seen x.place other z)) b ≡ true →
      is_among_marks (called_among rs marks x.at at (expr_seen x.place other u.tree)) b ≡ true

  -- The use becomes the one expression of the body; a type to which it is converted names no marked function, nothing
  -- in it declares names, what is called in it names what it named, and what is put for its parameters calls what the
  -- call does.
  pub record PutsArguments : Type 0 where
    pub becomes : Becomes same_here commented rs marks x u ExprForm
    pub returned_value : Bool
    pub value : Expr At
    pub one : one_expr u.callee.body ≡ Some (returned_value, value)
    pub flat : IsFlat value
    pub conversion : ConvertsToType same_here commented rs marks x u
    pub callees :
        (w : Use) → AllCalleesNamed (expr_seen
        (start_with same_here rs (call_of same_here commented rs marks x u) (chosen_of same_here commented rs marks x u))
        w value)
    pub arguments : ArgumentsCall
