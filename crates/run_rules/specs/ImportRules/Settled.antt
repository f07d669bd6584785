-- The edits that settle a file's imports: specs that aren't used any more go, and new ones are added.
use Rattle.std.specs.Prelude.{ℕ, Bool, false, nat_le, if◌then◌else◌, List, [], ◌∷◌, map}
use Rattle.go_tree.specs.declared.spans.Span.{Span}
use Rattle.go_tree.specs.declared.tokens.Token.{Token}
use Rattle.go_tree.specs.declared.tokens.Comment.{Comment}
use Rattle.go_tree.specs.File.{File}
use Rattle.text_edits.specs.declared.edit.Edit.{Edit}
use Rattle.run_rules.specs.declared.import_rules.new_import.NewImport.{NewImport}
use Rattle.run_rules.specs.ImportRules.SpecText.{in_order}
use Rattle.run_rules.specs.ImportRules.Removed.{ranges}
use Rattle.run_rules.specs.ImportRules.Added.{Addition, adds_to_group, addition}

-- the span is removed
abbrev pub removal : Span → Edit
removal s = record { span = s; text = [] }

-- bytes are added at an offset
abbrev pub insertion : Addition → Edit
insertion a = record { span = record { start = a.at; end = a.at }; text = a.text }

-- the edits by place: an empty span stands before another that starts there
abbrev pub put_edit : Edit → List Edit → List Edit
put_edit e [] = e ∷ []
put_edit e (f ∷ fs) = if nat_le e.span.start f.span.start then e ∷ f ∷ fs else f ∷ put_edit e fs

module _ (text : List ℕ) (tokens : List Token) (comments : List Comment) where
  -- the edits that remove specs
  abbrev pub removals : File Span → Bool → List Span → List Edit
  removals file grows unused = map removal (ranges text tokens comments unused grows file.imports)

  -- these, and the one that adds imports
  abbrev pub with_addition : File Span → List NewImport → List Span → List Edit
  with_addition file [] unused = removals file false unused
  with_addition file (i ∷ is) unused =
      put_edit (insertion (addition text tokens comments unused file (in_order (i ∷ is))))
      (removals file (adds_to_group text file.imports) unused)

  -- The edits that add imports and remove the specs at these spans, by place.
  abbrev pub settled : File Span → List NewImport → List Span → List Edit
  settled file added unused = with_addition file added unused
