-- Steps over uses that are expressions and become types: what is called in a conversion, or another operand (Go
-- specification, Alias declarations; Conversions; Calls; Types).
use Rattle.std.specs.Prelude.{◌≡◌, Bool, true, false, List}
use Rattle.go_tree.specs.Tree.{TypeExpr, named, pointer}
use Rattle.go_layout.specs.LayoutLaws.Formed.{FormedType}
use Rattle.run_rules.specs.FormTrees.{as_expr, type_expr}
use Rattle.run_rules.specs.Run.{Standing, Logged, Next}
use Rattle.run_rules.specs.Sites.{MarkRef, part_span}
use Rattle.run_rules.specs.Steps.{At}
use Rattle.run_rules.specs.Surroundings.{Slot, a_slot}

module _ {S : Type 0} where
  -- the text of the type ends in a type that begins with `[`, `map` or `struct`
  abbrev pub ends_bracketed : TypeExpr S → Bool
  ends_bracketed (named s q n) = false
  ends_bracketed (pointer s t) = ends_bracketed t
  ends_bracketed t = true

  -- A type may be laid out in a slot as an expression: the slot is that of what is called; or neither `(`, `,` nor `)`
  -- directly follows it; or the type's text doesn't end in a type that begins with `[`, `map` or `struct`.
  pub data MayBeLaid (s : Slot) (t : TypeExpr S) : Type 0 where
    as_called : (header : Bool) → s ≡ a_slot 7 header true → MayBeLaid s t
    in_the_open : s.closed ≡ false → MayBeLaid s t
    ends_in_a_name : ends_bracketed t ≡ false → MayBeLaid s t

-- The use becomes a type as an expression, which may be laid out in the use's slot.
pub record BecomesTypeExpr {marks : List MarkRef} {st : Standing} {l : Logged} {after : Standing}
    (n : Next marks st l after) : Type 0 where
  pub new : TypeExpr At
  pub form_is : n.found.form ≡ as_expr (type_expr (part_span n.found.site.part) new)
  pub range_is : n.found.range ≡ part_span n.found.site.part
  pub formed : FormedType new
  pub laid : MayBeLaid n.found.site.place.slot new
