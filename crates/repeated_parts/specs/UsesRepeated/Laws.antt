-- Which uses of members are uses of marked constants that a later member of a group repeats (Go specification, Constant
-- declarations; Declarations and scope; Composite literals).
use Rattle.std.specs.Prelude.{◌≡◌, ℕ, Bool, List, [], ◌∷◌, Some, None, map, slice_get}
use Rattle.go_tree.specs.declared.spans.Span.{Span}
use Rattle.go_tree.specs.File.{Decl, File}
use Rattle.pkg_graph.specs.Package.{Package}
use Rattle.run_rules.specs.Programs.{decl_seen}
use Rattle.run_rules.specs.Sites.{MarkRef, Where, Site, part_span, sites_among}
use Rattle.member_uses.specs.PossibleUses.Among.{Keyed}
use Rattle.member_uses.specs.PossibleUses.Parts.{parts_of}
use Rattle.member_uses.specs.Parts.{AllScoped}
use Rattle.member_uses.specs.Uses.{Used, Names}
use Rattle.member_uses.specs.Laws.{AllConstants, mark_used, Knows}
use Rattle.repeated_parts.specs.Flags.{flags_of}
use Rattle.repeated_parts.specs.Along.{is_again}
use Rattle.repeated_parts.specs.declared.literal_types.table.LiteralTypes.{LiteralTypes}
use Rattle.repeated_parts.specs.LiteralTypes.Tables.{numbers_in}
use Rattle.repeated_parts.specs.LiteralTypes.Told.{FieldsTold}
use Rattle.repeated_parts.specs.UsesRepeated.Uses.{flagged_uses}

-- where a use stands, its mark and its flag
abbrev pub FlaggedMark : Type 0
FlaggedMark = (Span × MarkRef) × Bool

module _ {S : Type 0} (ps : List (Package S)) (marks : List MarkRef) where
  -- the uses of marked members, each with its mark and its flag
  abbrev pub flagged_marks : List (Used × Bool) → List FlaggedMark
  flagged_marks [] = []
  flagged_marks (u ∷ us) =
      elim (mark_used ps marks u.0) [ None ↦ flagged_marks us | Some m ↦ ((u.0.span, m), u.1) ∷ flagged_marks us ]

-- sites by where they stand and by their marks, each with whether a later member of a group repeats it
abbrev pub site_flags : {S : Type 0} → (S → Span) → List (Site S) → List FlaggedMark
site_flags to xs = map (λ x. ((to (part_span x.part), x.mark), is_again x.place)) xs

-- In a program whose marks are all of constants the uses of marked members are the sites of a declaration, each with
-- its flag, where the table tells which keys that are names name fields.
abbrev pub RepeatedUsesAreSites : (S : Type 0) → (S → Span) → (File S → File Span) → Type 0
RepeatedUsesAreSites S to as_it_stands =
    (ps : List (Package S)) (marks : List MarkRef) (w : Where S) (f : Names) (t : LiteralTypes) (i : ℕ) (d : Decl S)
    → Knows to as_it_stands ps w f → AllConstants ps marks → slice_get w.source.tree.decls i ≡ Some d
    → AllScoped (decl_seen ps w.number w.of w.source.tree d) → Keyed (decl_seen ps w.number w.of w.source.tree d)
    → FieldsTold (numbers_in to f t) (decl_seen ps w.number w.of w.source.tree d)
    → site_flags to (sites_among ps marks w i (decl_seen ps w.number w.of w.source.tree d))
    ≡ flagged_marks ps marks (flagged_uses to f (parts_of d) (flags_of (numbers_in to f t) d))
