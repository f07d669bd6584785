-- Lines one after another.
use Rattle.std.proofs.Common.{◌≡◌, ◌∙◌, ◌≤◌, ◌<◌, ◌+◌, ℕ, List, [], ◌∷◌, ◌++◌, length, take, drop, get_or, refl, ap, sym, subst, arith, append_assoc}
use Rattle.std.specs.Prelude.{decimal, codes}
use Rattle.std.proofs.lemmas.List.{append-nil, at_drop_more, at_drop_all}
use Rattle.text_places.specs.Lines.{lines_before, column_after}
use Rattle.go_tree.specs.declared.spans.Place.{Place}
use Rattle.report_lines.specs.declared.lines.ReportItem.{ReportItem}
use Rattle.report_lines.specs.Lines.{IsPlace, StandInOrder, line_at, line_of, lines_of}

-- a line by two numbers
abbrev row : List ℕ → ℕ → ℕ → List ℕ → List ℕ
row path line col told = path ++ (codes ":" ++ (decimal line ++ (codes ":" ++ decimal col))) ++ (told ++ codes "\n")

-- a line by its place is that of the item
pub line_is : (path text : List ℕ) (i : ReportItem) (place : Place) → IsPlace text i.offset place → line_at path place i.told ≡ line_of path text i
line_is path text i place is =
    ap (λ n. row path n place.col i.told) is.line_is ∙ ap (λ m. row path (lines_before (take i.offset text) + 1) m i.told) is.col_is

-- so many lines are written, and the rest stands in order
pub record AreWritten (path text : List ℕ) (items : List ReportItem) (k at : ℕ) (place : Place) (out : List ℕ) : Type 0 where
  pub lines : out ++ lines_of path text (drop k items) ≡ lines_of path text items
  pub place_is : IsPlace text at place
  pub order : StandInOrder at (length text) (drop k items)

pub none_written : (path text : List ℕ) (items : List ReportItem) → StandInOrder 0 (length text) items → AreWritten path text items 0 0 (record { line = 1; col = 1 }) []
none_written path text items order = record {
  lines = refl;
  place_is = record { line_is = refl; col_is = refl; line_small = omega arith; col_small = omega arith };
  order = order;
}

module _ (path text : List ℕ) (items : List ReportItem) (k at : ℕ) (place : Place) (out : List ℕ) (w : AreWritten path text items k at place out) (i : ReportItem) (l : k < length items) (is : i ≡ get_or items k i) where
  -- the next item, and those behind it
  pub next_order : StandInOrder at (length text) (i ∷ drop (k + 1) items)
  next_order =
      let cut : drop k items ≡ get_or items k i ∷ drop (k + 1) items = at_drop_more (λ xs. xs) items k i l in
      subst (λ j. StandInOrder at (length text) (j ∷ drop (k + 1) items)) (sym is) (subst (λ xs. StandInOrder at (length text) xs) cut w.order)

  pub one_written : (next : Place) (new : List ℕ) → IsPlace text i.offset next → new ≡ out ++ line_at path next i.told → AreWritten path text items (k + 1) i.offset next new
  one_written next new here pushed =
      let rest = lines_of path text (drop (k + 1) items) in
      let cut : lines_of path text (drop k items) ≡ lines_of path text (i ∷ drop (k + 1) items) =
      at_drop_more (λ xs. lines_of path text xs) items k i l ∙ ap (λ j. lines_of path text (j ∷ drop (k + 1) items)) (sym is) in
      record {
        lines = ap (λ o. o ++ rest) pushed ∙ ap (λ r. (out ++ r) ++ rest) (line_is path text i next here) ∙ append_assoc out (line_of path text i) rest
            ∙ ap (λ r. out ++ r) (sym cut) ∙ w.lines;
        place_is = here;
        order = next_order.2;
      }

pub all_written : (path text : List ℕ) (items : List ReportItem) (k at : ℕ) (place : Place) (out : List ℕ) → AreWritten path text items k at place out → length items ≤ k → out ≡ lines_of path text items
all_written path text items k at place out w over =
    sym (append-nil out) ∙ ap (λ r. out ++ r) (sym (at_drop_all (λ xs. lines_of path text xs) items k over)) ∙ w.lines
