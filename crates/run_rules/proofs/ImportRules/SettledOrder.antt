-- The edits that settle a file's imports stand in order, within the text.
use Rattle.std.proofs.Common.{◌≡◌, ◌≤◌, ℕ, Bool, true, false, if◌then◌else◌, List, [], ◌∷◌, ◌++◌, length, codes, map, refl, arith}
use Rattle.go_tree.specs.declared.spans.Span.{Span}
use Rattle.go_tree.specs.declared.tokens.Token.{Token}
use Rattle.go_tree.specs.declared.tokens.Comment.{Comment}
use Rattle.go_tree.specs.File.{ImportDecl, File}
use Rattle.text_edits.specs.declared.edit.Edit.{Edit}
use Rattle.text_edits.specs.Applied.{Within, Ascend, applied}
use Rattle.text_edits.proofs.Ordered.{keeps_applied}
use Rattle.text_edits.proofs.Stays.{bytes_stay}
use Rattle.run_rules.specs.declared.import_rules.new_import.NewImport.{NewImport}
use Rattle.run_rules.specs.ImportRules.SpecText.{in_order}
use Rattle.run_rules.specs.ImportRules.Removed.{ranges}
use Rattle.run_rules.specs.ImportRules.Added.{each_within, adds_to_group, last_closing, front_of, addition_among}
use Rattle.run_rules.specs.ImportRules.Settled.{removal, insertion, put_edit, settled}
use Rattle.run_rules.specs.ImportRules.Laid.{StandInOrder, DeclsLie, Laid}
use Rattle.run_rules.specs.ImportRules.SettledLaws.{SettledInOrder, SettledWithin, SettledAscend, SettledKeeps, SettledBytesStay}
use Rattle.run_rules.proofs.ImportRules.Blanks.{IsStop, ink_stops}
use Rattle.run_rules.proofs.ImportRules.Chains.{Stand, removals_stand, put_first, put_last}
use Rattle.run_rules.proofs.ImportRules.Ranges.{ranges_chain, ranges_before, closing_within, front_within, ranges_behind}

module _ (text : List ℕ) (tokens : List Token) (comments : List Comment) (unused : List Span) (order : StandInOrder text 0 tokens) where
  -- an insertion beside what is removed of the declarations, by whether it is made in the last group
  added_by : (from : ℕ) (d : ImportDecl Span) (ds : List (ImportDecl Span)) (added : List NewImport) → from ≤ length text → IsStop text from → DeclsLie text tokens from (d ∷ ds)
      → (b : Bool) → adds_to_group text (d ∷ ds) ≡ b
      → Stand from (length text) (put_edit (insertion (if b then record { at = last_closing (d ∷ ds); text = each_within (codes "\t") (codes "\n") added } else record { at = front_of text tokens comments unused d; text = each_within (codes "import ") (codes "\n") added })) (map removal (ranges text tokens comments unused b (d ∷ ds))))
  added_by from d ds added le st h true e =
      put_last from (length text) (record { at = last_closing (d ∷ ds); text = each_within (codes "\t") (codes "\n") added }) (ranges text tokens comments unused true (d ∷ ds))
      (closing_within text tokens comments unused order from (d ∷ ds) h) (ranges_before text tokens comments unused order from (d ∷ ds) e st h)
  added_by from d ds added le st h false e =
      let f : (from ≤ front_of text tokens comments unused d) × (front_of text tokens comments unused d ≤ length text) = front_within text tokens comments unused order from d h.0 st h.1 in
      put_first from (length text) (record { at = front_of text tokens comments unused d; text = each_within (codes "import ") (codes "\n") added }) (ranges text tokens comments unused false (d ∷ ds))
      f.0 f.1 (ranges_behind text tokens comments unused order from d ds le st h)

  added_among : (from : ℕ) (ds : List (ImportDecl Span)) (added : List NewImport) → from ≤ length text → IsStop text from → DeclsLie text tokens from ds
      → Stand from (length text) (put_edit (insertion (addition_among text tokens comments unused from ds added)) (map removal (ranges text tokens comments unused (adds_to_group text ds) ds)))
  added_among from [] added le st h =
      put_first from (length text) (record { at = from; text = codes "\n" ++ each_within (codes "\nimport ") [] added }) [] (omega arith) le le
  added_among from (d ∷ ds) added le st h = added_by from d ds added le st h (adds_to_group text (d ∷ ds)) refl

  stand_with : (file : File Span) (added : List NewImport) → Laid text tokens file → Stand file.package_name.span.end (length text) (settled text tokens comments file added unused)
  stand_with file [] laid = removals_stand file.package_name.span.end (length text) (ranges text tokens comments unused false file.imports)
      (ranges_chain text tokens comments unused order false file.package_name.span.end file.imports laid.name_within (ink_stops text file.package_name.span.end laid.name_ends) laid.imports)
  stand_with file (i ∷ is) laid = added_among file.package_name.span.end file.imports (in_order (i ∷ is)) laid.name_within (ink_stops text file.package_name.span.end laid.name_ends) laid.imports

pub stands : (text : List ℕ) (tokens : List Token) (comments : List Comment) (file : File Span) (added : List NewImport) (unused : List Span) → Laid text tokens file
    → Stand file.package_name.span.end (length text) (settled text tokens comments file added unused)
stands text tokens comments file added unused laid = stand_with text tokens comments unused laid.order file added laid

within_of : (from size : ℕ) (es : List Edit) → Ascend from size es → Within size es
within_of from size [] h = tt
within_of from size (e ∷ es) h = (h.2, within_of e.span.end size es h.3)

from_start : (from size : ℕ) (es : List Edit) → Ascend from size es → Ascend 0 size es
from_start from size [] h = omega arith
from_start from size (e ∷ es) h = (omega arith, h.1, h.2, h.3)

pub settled_in_order : SettledInOrder
settled_in_order text tokens comments file added unused laid = (stands text tokens comments file added unused laid).order

pub settled_ascend : SettledAscend
settled_ascend text tokens comments file added unused laid = (stands text tokens comments file added unused laid).ascend

pub settled_within : SettledWithin
settled_within text tokens comments file added unused laid =
    within_of file.package_name.span.end (length text) (settled text tokens comments file added unused) (settled_ascend text tokens comments file added unused laid)

all_ascend : (text : List ℕ) (tokens : List Token) (comments : List Comment) (file : File Span) (added : List NewImport) (unused : List Span) → Laid text tokens file → Ascend 0 (length text) (settled text tokens comments file added unused)
all_ascend text tokens comments file added unused laid =
    from_start file.package_name.span.end (length text) (settled text tokens comments file added unused) (settled_ascend text tokens comments file added unused laid)

pub settled_keeps : SettledKeeps
settled_keeps text tokens comments file added unused laid =
    keeps_applied text (applied text (settled text tokens comments file added unused)) (settled text tokens comments file added unused) (all_ascend text tokens comments file added unused laid) refl

pub settled_bytes_stay : SettledBytesStay
settled_bytes_stay text tokens comments file added unused laid k lt out =
    bytes_stay text (settled text tokens comments file added unused) k (all_ascend text tokens comments file added unused laid) lt out
