-- Parts of a tree as values without places in memory.
use Rattle.std.specs.Prelude.{Option}
use Rattle.std.specs.Borrow.{Bor}
use Rattle.std.specs.Option.{option_map}
use Rattle.go_tree.specs.declared.spans.Span.{Span}
use Rattle.go_tree.specs.declared.types.TypeExpr as declared
use Rattle.go_tree.specs.Tree.{TypeExpr}
use Rattle.go_tree.specs.View.{expr_of, type_of, name_at_of}
use Rattle.run_rules.specs.Sites.{an_expr, a_type_part}
use Rattle.member_uses.specs.declared.possible_uses.parts.PartRef.{PartRef}
use Rattle.member_uses.specs.declared.possible_uses.parts.PartRef.TheVariants as ref
use Rattle.member_uses.specs.PossibleUses.Candidates.{Candidate, plain_part, key_part, receiver_part}

-- a part as a value
abbrev pub part_of : PartRef → Candidate Span
part_of (ref.Expr e) = plain_part (an_expr (expr_of e.now))
part_of (ref.Key e) = key_part (expr_of e.now)
part_of (ref.Type t) = plain_part (a_type_part (type_of t.now))
part_of (ref.Receiver n) = plain_part (receiver_part (name_at_of n.now))

-- a type that is written, or none, as a value
abbrev pub written_of : Option (Bor declared.TypeExpr) → Option (TypeExpr Span)
written_of h = option_map (λ t. type_of t.now) h
