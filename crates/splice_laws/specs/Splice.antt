-- A form put into a text in place of a node.
use Rattle.std.specs.Prelude.{◌≡◌, ℕ, Bool, true, false, not, ◌&&◌, ◌||◌, nat_eq, List, [], ◌∷◌}
use Rattle.std.specs.Prelude.{◌++◌, length, drop, Option, Some, None}
use Rattle.std.specs.Str.{chars}
use Rattle.go_tree.specs.declared.spans.Span.{Span}
use Rattle.go_tree.specs.declared.tokens.Token.{Token}
use Rattle.go_tree.specs.declared.tokens.Comment.{Comment}
use Rattle.go_tree.specs.declared.tokens.TokenKind.{TokenKind}
use Rattle.go_tree.specs.declared.tokens.TokenKind.TheVariants.{Inserted}
use Rattle.go_tree.specs.File.{File}
use Rattle.go_tree.specs.FileBare.{bare_file}
use Rattle.go_tree.specs.GoWords.Tokens.{TokensOf}
use Rattle.go_tree.specs.GoWords.Tokens.Pieces.{PieceKind, Piece}
use Rattle.go_scan.specs.Pieces.{piece_of}
use Rattle.go_read.specs.SpellsFiles.{SpellsFile}
use Rattle.go_layout.specs.Layouts.{Layout, text_of}
use Rattle.go_layout.specs.LayoutLaws.LayoutPieces.{pieces_of}
use Rattle.go_layout.specs.LayoutLaws.Laid.{is_indent}
use Rattle.text_edits.specs.declared.edit.Edit.{Edit}
use Rattle.text_edits.specs.Applied.{applied}
use Rattle.splice_laws.specs.Joints.{begins_with_dot, is_open}
use Rattle.splice_laws.specs.Dots.{UndottedFile}
use Rattle.splice_laws.specs.Swaps.{Swap, FileIn}
use Rattle.splice_laws.specs.Fits.{swap_mark}
use Rattle.splice_laws.specs.Forms.{new_layout, FormedNew, AsksOld}

-- ---- what stands before

-- the word is the first piece of the two side by side
abbrev pub has_length : Option (PieceKind × ℕ) → ℕ → Bool
has_length None n = false
has_length (Some x) n = nat_eq x.1 n

-- the first of two words is the first piece where they stand side by side
unfoldable pub are_two : List ℕ → List ℕ → Bool
are_two word next = has_length (piece_of (word ++ next)) (length word)

-- an inserted semicolon
abbrev pub is_inserted : TokenKind → Bool
is_inserted Inserted = true
is_inserted _ = false

-- A token of the text that ends at this byte is read as itself before the characters; and it is no integer and no
-- dot, where they begin with a dot.
unfoldable pub stays_apart : ℕ → List ℕ → Token → Bool
stays_apart at next t = is_inserted t.kind ||
    (not (nat_eq t.span.end at) || (are_two (chars t.spelling) next && not
    (is_open t.kind t.spelling && begins_with_dot next)))

-- Where a token ends directly before a place, it and the first word that is written there would be read as these two.
abbrev pub are_apart : List Token → ℕ → List ℕ → Bool
are_apart [] at next = true
are_apart (t ∷ ts) at next = stays_apart at next t && are_apart ts at next

-- the first piece of a layout
abbrev pub first_of : List Piece → List ℕ
first_of [] = []
first_of (p ∷ ps) = p.word

-- the first word of a layout
abbrev pub first_word : Layout → List ℕ
first_word a = first_of (pieces_of a [])

-- one blank before it, or none
abbrev pub lead : Bool → List ℕ
lead true = 32 ∷ []
lead false = []

-- ---- the new text

-- the edit that puts the layout in place of a span
abbrev pub splice : Span → Bool → Layout → Edit
splice span blank a = record { span = span; text = lead blank ++ text_of a }

-- the text with the layout in place of a span
abbrev pub spliced_text : List ℕ → Span → Bool → Layout → List ℕ
spliced_text text span blank a = applied text (splice span blank a ∷ [])

-- the text has tokens, and they spell a file that is this one, spans aside
pub record ReadsAs (text : List ℕ) (f : File (Unit {0})) : Type 0 where
  pub tokens : List Token
  pub comments : List Comment
  pub of_text : TokensOf text tokens comments
  pub file : File Span
  pub spelled : SpellsFile tokens file
  pub same : bare_file file ≡ f

-- the text reads as the file, and these are its comments
pub record ReadsWith (text : List ℕ) (f : File (Unit {0})) (comments : List Comment) : Type 0 where
  pub read : ReadsAs text f
  pub comments_are : read.comments ≡ comments

-- A text of a file, and a second file that is the first with one node replaced. The new node is written with this
-- indent; `dotted` says that a dot follows it, `wrapped` that it stands in parentheses of its own, and `blank` that a
-- blank stands before it.
pub record IsPut (text : List ℕ) (tokens : List Token) (comments : List Comment) (f g : File Span) (w : Swap Span)
    (indent : List ℕ) (dotted wrapped blank : Bool) : Type 0 where
  pub of_text : TokensOf text tokens comments
  pub spelled : SpellsFile tokens f
  -- no selector stands on an integer literal
  pub undotted_file : UndottedFile (bare_file f)
  pub swapped : FileIn w f g
  pub asks : AsksOld w
  pub formed : FormedNew dotted w
  pub spaces : is_indent indent ≡ true
  -- a dot follows only where that is said
  pub undotted : dotted ≡ false → begins_with_dot (drop (swap_mark w).end text) ≡ false
  -- a blank may always stand there; none is needed where what ends there and the first word are read as these two
  pub apart : blank ≡ false → are_apart tokens (swap_mark w).start (first_word (new_layout indent dotted wrapped w))
      ≡ true
