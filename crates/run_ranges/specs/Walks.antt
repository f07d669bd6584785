-- A range joined with those that it touches, as they are looked at one after another (text_edits' joined edits, of
-- which only the lengths of the texts are known).
use Rattle.std.specs.Prelude.{ℕ, ◌+◌, ◌-◌, ◌≤◌, ◌<◌, ◌^◌, if◌then◌else◌, nat_lt, List, []}
use Rattle.std.specs.Prelude.{◌∷◌, Some, None}
use Rattle.run_ranges.specs.declared.ranges.ChangedRange.{ChangedRange}
use Rattle.run_ranges.specs.declared.ranges.Walk.{Walk}

-- before the first range
abbrev pub at_first : Walk
at_first = record { from = 0; at = 0; start = None; before = 0 }

-- where the bytes of a range begin now
abbrev pub begins : Walk → ChangedRange → ℕ
begins w r = w.at + (r.start - w.from)

-- where they end now
abbrev pub ends : Walk → ChangedRange → ℕ
ends w r = begins w r + r.length

module _ (next : ChangedRange) where
  -- the first range that is joined starts the joined one, or the edit does, where that comes before
  abbrev pub met : Walk → ChangedRange → Walk
  met w r = elim w.start [
    | Some s ↦ record { from = r.end; at = ends w r; start = Some s; before = w.before }
    | None ↦ if nat_lt next.start (begins w r)
        then record { from = r.end; at = ends w r; start = Some (w.from + (next.start - w.at)); before = 0 }
        else record { from = r.end; at = ends w r; start = Some r.start; before = next.start - begins w r }
  ]

  -- the joined range, where no other is joined: what stays before the edit, what it writes, and what stays behind it
  abbrev pub joint : Walk → ChangedRange
  joint w =
      record {
        start = elim w.start [ Some s ↦ s | None ↦ w.from + (next.start - w.at) ];
        end = w.from + (next.end - w.at);
        length = w.before + (next.length + (w.at - next.end));
      }

  -- the ranges behind a walk, and the joined one among them
  abbrev pub joined_on : Walk → List ChangedRange → List ChangedRange
  joined_on w [] = joint w ∷ []
  joined_on w (r ∷ rs) =
      if nat_lt (ends w r) next.start then r ∷ joined_on (record w { from = r.end; at = ends w r }) rs
      else (if nat_lt next.end (begins w r) then joint w ∷ r ∷ rs else joined_on (met w r) rs)

  -- The ranges ascend in a file of so many bytes, from a byte on that stands at another one now; the text as it is,
  -- with what the edit writes, stays small, and the edit lies within it.
  abbrev pub Rises : ℕ → ℕ → ℕ → List ChangedRange → Type 0
  Rises size from at [] = (from ≤ size) × (next.end ≤ at + (size - from))
  Rises size from at (r ∷ rs) =
      (from ≤ r.start) × (r.start ≤ r.end) × (at + (r.start - from) + r.length + next.length < 2 ^ 32)
      × Rises size r.end (at + (r.start - from) + r.length) rs

  -- So it is in a file of less than 4 GiB.
  pub record HasRoom (from at : ℕ) (rs : List ChangedRange) : Type 0 where
    pub size : ℕ
    pub small : size < 2 ^ 32
    pub order : next.start ≤ next.end
    pub rises : Rises size from at rs
