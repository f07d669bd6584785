-- Parts of a layout that have a function of their own.
use Rattle.std.specs.Prelude.{ℕ, Bool, true, false, ◌&&◌, List, [], ◌∷◌, ◌++◌, Option, Some, codes}
use Rattle.go_tree.specs.Tree.{NameAt, TypeExpr, Expr, Exprs, Elems, Value, ValueOption, Stmts, StmtOption, Cases}
use Rattle.go_tree.specs.Tree.{ValueSpecs, no_exprs, expr_and, no_stmts, stmt_and, no_stmt, some_stmt, no_cases, case}
use Rattle.go_tree.specs.Tree.{no_specs, spec}
use Rattle.go_tree.specs.File.{TypeSpec}
use Rattle.go_layout.specs.Layouts.{Layout, gap, line, ◌⊕◌, key, op, name_layout, deeper, within}
use Rattle.go_layout.specs.Parens.{header_within, closed_within}
use Rattle.go_layout.specs.TypeLayout.{names_layout, type_layout}
use Rattle.go_layout.specs.FileLayout.{specs_indent, group_layout, type_spec_layout}
use Rattle.go_layout.specs.TreeLayout.{clause_indent, block_start, block_layout, case_word, equals_before, expr_layout}
use Rattle.go_layout.specs.TreeLayout.{operand_layout, exprs_layout, elems_layout, key_layout, value_layout}
use Rattle.go_layout.specs.TreeLayout.{first_layout, stmts_layout, spec_type_layout}

-- text that stands only on a condition
abbrev pub text_if : Bool → List ℕ → List ℕ
text_if true text = text
text_if false text = []

-- around the specs of a group: its parentheses, and the lines on which the first spec and the end stand
abbrev pub opening_text : Bool → Bool → List ℕ
opening_text grouped any = text_if grouped (codes "(") ++ text_if (grouped && any) (10 ∷ specs_indent true)

-- the newline before the end of a group that has specs, and the closing parenthesis
abbrev pub closing_text : Bool → Bool → List ℕ
closing_text grouped any = text_if (grouped && any) (10 ∷ []) ++ text_if grouped (codes ")")

module _ {S : Type 0} where
  -- a declaration of types
  abbrev pub types_layout : Bool → List (TypeSpec S) → Layout
  types_layout grouped specs = key (codes "type") ⊕ gap ⊕ group_layout type_spec_layout grouped specs

  -- one field of a struct
  abbrev pub field_layout : S × NameAt S × TypeExpr S → Layout
  field_layout x = name_layout x.1 ⊕ gap ⊕ type_layout x.2

  -- an expression in the parentheses that were chosen for it
  abbrev pub within_layout : List ℕ → Bool → Bool → Bool → Expr S → Layout
  within_layout i parens h c e = within parens (expr_layout i (header_within parens h) (closed_within parens c) e)

  -- the braces of a composite literal with its elements
  abbrev pub braced_layout : List ℕ → Elems S → Layout
  braced_layout i es = op (codes "{") ⊕ elems_layout i es ⊕ op (codes "}")

  -- one element of a composite literal: its key, if any, and its value
  abbrev pub elem_layout : List ℕ → Bool → S × ValueOption S × Value S → Layout
  elem_layout i closed x = key_layout i x.1 ⊕ value_layout i closed x.2

  -- one arm of an `if`
  abbrev pub arm_layout : List ℕ → S × StmtOption S × Expr S × (S × Stmts S) → Layout
  arm_layout i x =
      key (codes "if") ⊕ gap ⊕ first_layout i x.1 ⊕ operand_layout i 1 true false x.2 ⊕ gap ⊕ block_layout i x.3.1

  -- the statements of a block with the newlines around them
  abbrev pub body_layout : List ℕ → Stmts S → Layout
  body_layout i body = block_start i body ⊕ stmts_layout (deeper i) (Some i) body

  -- one clause of a `switch`, with its statements
  abbrev pub clause_layout : List ℕ → S × Exprs S × Stmts S → Layout
  clause_layout i x =
      case_word x.1 ⊕ exprs_layout i false false x.1 ⊕ op (codes ":") ⊕ line false (clause_indent i x.2) ⊕ stmts_layout
      (deeper i) (Some i) x.2

  -- one spec: its names, its type and its values
  abbrev pub spec_layout : List ℕ → S × List (NameAt S) × Option (TypeExpr S) × Exprs S → Layout
  spec_layout i x = names_layout x.1 ⊕ spec_type_layout x.2 ⊕ equals_before x.3 ⊕ exprs_layout i false false x.3

  -- whether there is any
  abbrev pub has_exprs : Exprs S → Bool
  has_exprs no_exprs = false
  has_exprs (expr_and _ _) = true

  -- whether there is any statement
  abbrev pub has_stmts : Stmts S → Bool
  has_stmts no_stmts = false
  has_stmts (stmt_and _ _) = true

  -- whether there is any clause
  abbrev pub has_cases : Cases S → Bool
  has_cases no_cases = false
  has_cases (case _ _ _ _) = true

  -- whether there is any spec
  abbrev pub has_specs : ValueSpecs S → Bool
  has_specs no_specs = false
  has_specs (spec _ _ _ _ _) = true

  -- whether a `for` has a statement before or after its condition
  abbrev pub has_clause : StmtOption S → StmtOption S → Bool
  has_clause no_stmt no_stmt = false
  has_clause no_stmt (some_stmt _) = true
  has_clause (some_stmt _) _ = true
