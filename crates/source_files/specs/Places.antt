-- Where the bytes of a text stand.
use Rattle.std.specs.Prelude.{ℕ, ◌+◌, List, take}
use Rattle.go_tree.specs.declared.spans.Place.{Place}
use Rattle.text_places.specs.Lines.{lines_before, column_after}

-- the line and the column of a byte of a text, or of its end, both from 1
abbrev pub place_of : List ℕ → ℕ → Place
place_of text at = record { line = lines_before (take at text) + 1; col = column_after (take at text) + 1 }
