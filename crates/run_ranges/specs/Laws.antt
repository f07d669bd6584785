-- Laws of the ranges of a run. Each is the contract of a function of this crate.
use Rattle.std.specs.Prelude.{◌≡◌, ℕ, ◌+◌, ◌<◌, ◌^◌, if◌then◌else◌, bytes_eq, List, []}
use Rattle.std.specs.Prelude.{◌∷◌, ◌++◌, length, map}
use Rattle.text_edits.specs.declared.edit.Edit.{Edit}
use Rattle.text_edits.specs.Applied.{applied}
use Rattle.text_edits.specs.Joined as text
use Rattle.run_rules.specs.Run.{Logged, joined_with, edits_of}
use Rattle.run_ranges.specs.Ranges.{range_of}
use Rattle.run_ranges.specs.Walks.{HasRoom}

-- The edits of a file as read, after one more step.
abbrev pub EditsFollowTheLog : Type 0
EditsFollowTheLog =
    (path : List ℕ) (made : List Edit) (log : List Logged) (l : Logged)
    → edits_of path made (log ++ l ∷ [])
    ≡ (if bytes_eq path l.file then joined_with l.edits (edits_of path made log) else edits_of path made log)

-- Edits of a text, and one more of the text that they make, have room, where both texts are small.
abbrev pub MadeHaveRoom : Type 0
MadeHaveRoom =
    (old : List ℕ) (es : List Edit) (next : Edit) → text.Next old es next → length old < 2 ^ 32
    → length (applied old es) + length next.text < 2 ^ 32 → HasRoom (range_of next) 0 0 (map range_of es)
