-- How the ranges of edits join that are made in turn: an edit of the text that earlier ones made, as an edit of the
-- text that was first.
use Rattle.std.specs.Prelude.{◌≡◌, ℕ, ◌+◌, ◌-◌, ◌≤◌, ◌<◌, ◌⊎◌, if◌then◌else◌}
use Rattle.std.specs.Prelude.{nat_lt, List, [], ◌∷◌, ◌++◌, length, take, drop}
use Rattle.go_tree.specs.declared.spans.Span.{Span}
use Rattle.text_edits.specs.declared.edit.Edit.{Edit}
use Rattle.text_edits.specs.Spans.{IsSpan, IsEmpty, Holds}
use Rattle.text_edits.specs.Order.{spans}
use Rattle.text_edits.specs.Applied.{Ascend, applied}
use Rattle.text_edits.specs.Keeps.{Keeps}
use Rattle.text_edits.specs.Places.{place_after}

-- where the text of an earlier edit begins and ends now, if the offset `from` of the first text stands at `at`
abbrev pub begins : ℕ → ℕ → Edit → ℕ
begins from at f = at + (f.span.start - from)

-- where the text of an earlier edit ends now
abbrev pub ends : ℕ → ℕ → Edit → ℕ
ends from at f = at + (f.span.start - from) + length f.text

module _ (next : Edit) where
  -- ---- what the edit's range covers of the first text

  -- the bytes of the first text from an offset on that stand in the edit's range
  abbrev pub HoldsBytes : Span → ℕ → ℕ → (ℕ → Type 0) → Type 0
  HoldsBytes s from at P = (k : ℕ) → from ≤ k → P k → next.span.start ≤ at + (k - from) →
      at + (k - from) < next.span.end → Holds s k

  -- the edit's range and the text of an earlier edit share a byte or meet
  abbrev pub Touches : ℕ → ℕ → Edit → Type 0
  Touches from at f = (begins from at f ≤ next.span.end) × (next.span.start ≤ ends from at f)

  -- A span of the first text covers all bytes of the edit's range that stood there, and the range of each earlier edit
  -- that it touches.
  abbrev pub Covers : Span → ℕ → ℕ → List Edit → Type 0
  Covers s from at [] = HoldsBytes s from at (λ k. Unit {0})
  Covers s from at (f ∷ fs) =
      HoldsBytes s from at (λ k. k < f.span.start)
      × (Touches from at f → (s.start ≤ f.span.start) × (f.span.end ≤ s.end))
      × Covers s f.span.end (ends from at f) fs

  -- the edit's range touches one of the earlier edits
  abbrev pub TouchesOne : ℕ → ℕ → List Edit → Type 0
  TouchesOne from at [] = ⊥
  TouchesOne from at (f ∷ fs) = Touches from at f ⊎ TouchesOne f.span.end (ends from at f) fs

  -- ---- the edit of the first text

  -- the earlier edits that end before the range, and those that begin behind it
  abbrev pub edits_before : ℕ → ℕ → List Edit → List Edit
  edits_before from at [] = []
  edits_before from at (f ∷ fs) =
      if nat_lt (ends from at f) next.span.start then f ∷ edits_before f.span.end (ends from at f) fs else []

  -- the earlier edits that begin behind the range
  abbrev pub edits_behind : ℕ → ℕ → List Edit → List Edit
  edits_behind from at [] = []
  edits_behind from at (f ∷ fs) =
      if nat_lt next.span.end (begins from at f) then f ∷ fs else edits_behind f.span.end (ends from at f) fs

  -- where the range begins and ends in the first text; with the ranges that it touches
  abbrev pub start_of : ℕ → ℕ → List Edit → ℕ
  start_of from at [] = from + (next.span.start - at)
  start_of from at (f ∷ fs) =
      if nat_lt (ends from at f) next.span.start then start_of f.span.end (ends from at f) fs
      else if nat_lt next.span.start (begins from at f) then from + (next.span.start - at) else f.span.start

  -- where the range ends in the first text, with the ranges that it touches
  abbrev pub end_of : ℕ → ℕ → List Edit → ℕ
  end_of from at [] = from + (next.span.end - at)
  end_of from at (f ∷ fs) =
      if nat_lt next.span.end (begins from at f) then from + (next.span.end - at)
      else end_of f.span.end (ends from at f) fs

  -- what stays before and behind the range of the texts that it touches
  abbrev pub text_before : ℕ → ℕ → List Edit → List ℕ
  text_before from at [] = []
  text_before from at (f ∷ fs) =
      if nat_lt (ends from at f) next.span.start then text_before f.span.end (ends from at f) fs
      else take (next.span.start - begins from at f) f.text

  -- what stays behind the range of the last text that it touches
  abbrev pub text_behind : ℕ → ℕ → List Edit → List ℕ
  text_behind from at [] = []
  text_behind from at (f ∷ fs) =
      if nat_lt next.span.end (begins from at f) then []
      else drop (next.span.end - begins from at f) f.text ++ text_behind f.span.end (ends from at f) fs

  -- the edit, joined with all that it touches
  abbrev pub joined_edit : List Edit → Edit
  joined_edit es =
      record {
        span = record { start = start_of 0 0 es; end = end_of 0 0 es };
        text = text_before 0 0 es ++ (next.text ++ text_behind 0 0 es);
      }

  -- the edits of the first text, with one more that is made in the text that they make
  abbrev pub joined : List Edit → List Edit
  joined es = edits_before 0 0 es ++ joined_edit es ∷ edits_behind 0 0 es

-- between each range and the next one some byte stays
abbrev pub Behind : ℕ → List Edit → Type 0
Behind k [] = Unit {0}
Behind k (e ∷ es) = k < e.span.start

-- between all ranges some byte stays
abbrev pub Apart : List Edit → Type 0
Apart [] = Unit {0}
Apart (e ∷ es) = Behind e.span.end es × Apart es

-- ---- its laws, for an edit within the text as it stands

-- edits of a text, and one more of the text that they make
abbrev pub Next : List ℕ → List Edit → Edit → Type 0
Next old es next = Ascend 0 (length old) es × IsSpan next.span × (next.span.end ≤ length (applied old es))

-- The joined edits make together what the earlier ones and then the next one make.
abbrev pub JoinedAgree : Type 0
JoinedAgree = (old : List ℕ) (es : List Edit) (next : Edit) → Next old es next →
    applied old (joined next es) ≡ applied (applied old es) (next ∷ [])

-- The joined edits stand in order, within the text.
abbrev pub JoinedAscend : Type 0
JoinedAscend = (old : List ℕ) (es : List Edit) (next : Edit) → Next old es next → Ascend 0 (length old) (joined next es)

-- The span of the joined edit covers what it has to, and any other that does holds it.
abbrev pub JoinedCovers : Type 0
JoinedCovers = (old : List ℕ) (es : List Edit) (next : Edit) → Next old es next →
    Covers next (joined_edit next es).span 0 0 es

-- Where there is something to cover, any span that covers it holds that of the joined edit.
abbrev pub JoinedIsLeast : Type 0
JoinedIsLeast =
    (old : List ℕ) (es : List Edit) (next : Edit) (other : Span) → Next old es next →
    (next.span.start < next.span.end) ⊎ TouchesOne next 0 0 es → Covers next other 0 0 es
    → (other.start ≤ (joined_edit next es).span.start) × ((joined_edit next es).span.end ≤ other.end)

-- Where there is nothing to cover, it is empty and stands between the same bytes as the edit.
abbrev pub JoinedStands : Type 0
JoinedStands =
    (old : List ℕ) (es : List Edit) (next : Edit) → Next old es next → IsEmpty next.span → (TouchesOne next 0 0 es → ⊥)
    → IsEmpty (joined_edit next es).span × (place_after es (joined_edit next es).span.start ≡ next.span.start)

-- Ranges that touch are joined: where none did before, none does.
abbrev pub JoinedApart : Type 0
JoinedApart = (old : List ℕ) (es : List Edit) (next : Edit) → Next old es next → Apart es → Apart (joined next es)

-- What keeps a text but for ranges, and is edited once more, keeps it but for the joined ranges.
abbrev pub JoinedKeeps : Type 0
JoinedKeeps =
    (old new : List ℕ) (es : List Edit) (next : Edit) → Next old es next → new ≡ applied old es →
    Keeps old (applied new (next ∷ [])) (spans (joined next es))
