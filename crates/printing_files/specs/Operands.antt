-- What files of constants print (Go specification, Integer literals; Qualified identifiers; Bootstrapping).
use Rattle.std.specs.Prelude.{ℕ, ◌==◌, Bool, true, false, not, ◌&&◌, ◌||◌, nat_lt, List, [], ◌∷◌}
use Rattle.std.specs.Prelude.{length, bytes_eq, codes}
use Rattle.std.specs.List.{list_all}
use Rattle.std.specs.Char.{is_ascii_digit}
use Rattle.go_tree.specs.declared.exprs.Rest.TheVariants.{Plain}
use Rattle.go_tree.specs.Tree.{Expr, ident, int_lit, selector, call, Exprs, no_exprs, expr_and}

-- `0`, or at most 18 decimal digits that begin with another one
abbrev pub is_short_decimal : List ℕ → Bool
is_short_decimal [] = false
is_short_decimal (b ∷ bs) =
    is_ascii_digit b && (list_all is_ascii_digit bs && (nat_lt (length bs) 18 && (not (b == 48) || nat_lt (length bs) 1)))

module _ {S : Type 0} where
  -- a name
  abbrev pub is_name_alone : Expr S → Bool
  is_name_alone (ident _ _) = true
  is_name_alone _ = false

  -- a name, one behind the name of a package, or such a literal
  abbrev pub is_operand : Expr S → Bool
  is_operand (ident _ _) = true
  is_operand (selector _ b _) = is_name_alone b
  is_operand (int_lit _ n) = is_short_decimal n
  is_operand _ = false

  -- all of them
  abbrev pub are_operands : Exprs S → Bool
  are_operands no_exprs = true
  are_operands (expr_and e es) = is_operand e && are_operands es

  -- the name `println`
  abbrev pub is_println : Expr S → Bool
  is_println (ident _ n) = bytes_eq n (codes "println")
  is_println _ = false

  -- a call of it with such arguments
  abbrev pub is_print : Expr S → Bool
  is_print (call _ f xs Plain) = is_println f && are_operands xs
  is_print _ = false
