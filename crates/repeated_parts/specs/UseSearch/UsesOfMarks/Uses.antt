-- The uses of marked constants in the declarations of a file, and where each stands (Go specification, Constant
-- declarations; Declarations and scope).
use Rattle.std.specs.Prelude.{ℕ, Bool, List, [], ◌∷◌, ◌++◌, map, Option, Some, None}
use Rattle.go_tree.specs.declared.spans.Span.{Span}
use Rattle.go_tree.specs.File.{Decl}
use Rattle.pkg_graph.specs.Package.{Package}
use Rattle.run_rules.specs.Sites.{MarkRef}
use Rattle.member_uses.specs.PossibleUses.Parts.{parts_of}
use Rattle.member_uses.specs.Uses.{Used, Names}
use Rattle.repeated_parts.specs.declared.literal_types.table.LiteralTypes.{LiteralTypes}
use Rattle.repeated_parts.specs.Flags.{flags_of}
use Rattle.repeated_parts.specs.LiteralTypes.Tables.{numbers_in}
use Rattle.repeated_parts.specs.UsesRepeated.Uses.{flagged_uses}
use Rattle.repeated_parts.specs.UsesRepeated.Laws.{FlaggedMark, flagged_marks}

-- the number of a use's declaration in its file, and where the use stands, with its mark and its flag
abbrev pub PlacedMark : Type 0
PlacedMark = ℕ × FlaggedMark

-- a use in the declaration with this number, where its member is marked
abbrev pub placed_if : ℕ → Used × Bool → Option MarkRef → List PlacedMark
placed_if i u None = []
placed_if i u (Some m) = (i, ((u.0.span, m), u.1)) ∷ []

-- each in the declaration with this number
abbrev pub in_decl : ℕ → List FlaggedMark → List PlacedMark
in_decl i xs = map (λ x. (i, x)) xs

module _ {S : Type 0} (ps : List (Package S)) (marks : List MarkRef) where
  -- those of the uses in the declaration with this number whose members are marked
  abbrev pub placed_in : ℕ → List (Used × Bool) → List PlacedMark
  placed_in i us = in_decl i (flagged_marks ps marks us)

-- `to` says where a node stands in the text; `t` has the declared types.
module _ {S P : Type 0} (to : S → Span) (ps : List (Package P)) (marks : List MarkRef) (f : Names) (t : LiteralTypes)
  where
    -- the uses of marked constants in a numbered declaration
    abbrev pub decl_uses : ℕ × Decl S → List PlacedMark
    decl_uses d = placed_in ps marks d.0 (flagged_uses to f (parts_of d.1) (flags_of (numbers_in to f t) d.1))

    -- those in numbered declarations
    abbrev pub decls_uses : List (ℕ × Decl S) → List PlacedMark
    decls_uses [] = []
    decls_uses (d ∷ ds) = decl_uses d ++ decls_uses ds
