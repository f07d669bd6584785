-- Edits of small texts have room.
use Rattle.std.proofs.Common.{◌≡◌, ℕ, ◌+◌, ◌-◌, ◌<◌, ◌≤◌, ◌^◌, List, [], ◌∷◌, ◌++◌, length, map, drop, arith, length-append, length-drop}
use Rattle.std.specs.Prelude.{slice_range}
use Rattle.std.proofs.lemmas.List.Edits.{length-between}
use Rattle.text_edits.specs.declared.edit.Edit.{Edit}
use Rattle.text_edits.specs.Applied.{Ascend, applied, replaced_from}
use Rattle.run_ranges.specs.Ranges.{range_of}
use Rattle.run_ranges.specs.Walks.{Rises}
use Rattle.run_ranges.specs.Laws.{MadeHaveRoom}

module _ (old : List ℕ) (next : Edit) (total : ℕ) (within : next.span.end ≤ total) (small : total + length next.text < 2 ^ 32) where
  rises : (from at : ℕ) (es : List Edit) → Ascend from (length old) es → at + length (replaced_from old from es) ≡ total → Rises (range_of next) (length old) from at (map range_of es)
  rises from at [] a e = let d : length (drop from old) ≡ length old - from = length-drop from old in (a, omega (arith, d, e, within))
  rises from at (f ∷ fs) a e =
      let part : List ℕ = slice_range old from f.span.start in
      let rest : List ℕ = replaced_from old f.span.end fs in
      let front : length part ≡ f.span.start - from = length-between old from f.span.start (omega (arith, a.1, a.2)) in
      let all : length (part ++ (f.text ++ rest)) ≡ length part + length (f.text ++ rest) = length-append part (f.text ++ rest) in
      let back : length (f.text ++ rest) ≡ length f.text + length rest = length-append f.text rest in (
        a.0,
        a.1,
        omega (arith, front, all, back, e, small),
        rises f.span.end (at + (f.span.start - from) + length f.text) fs a.3 (omega (arith, front, all, back, e)),
      )

none_before : (n : ℕ) → 0 + n ≡ n
none_before n = omega arith

pub have_room : MadeHaveRoom
have_room old es next n file small =
    record {
      size = length old;
      small = file;
      order = n.1;
      rises = rises old next (length (applied old es)) n.2 small 0 0 es n.0 (none_before (length (applied old es)));
    }
