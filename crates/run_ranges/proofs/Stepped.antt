-- The walk over ranges, one range after another.
use Rattle.std.proofs.Common.{◌≡◌, ◌∙◌, refl, sym, ap, subst, ℕ, ◌+◌, ◌-◌, ◌<◌, ◌≤◌, ◌^◌, Bool, true, false, nat_lt, if◌then◌else◌, List, [], ◌∷◌, ◌++◌, length, drop, get_or, Option, Some, None, arith, drop-cons, add-one}
use Rattle.std.proofs.lemmas.Bool.{lt-ltb, le-ltb}
use Rattle.std.proofs.lemmas.List.{append_assoc}
use Rattle.run_ranges.specs.declared.ranges.ChangedRange.{ChangedRange}
use Rattle.run_ranges.specs.declared.ranges.Walk.{Walk}
use Rattle.run_ranges.specs.Walks.{begins, ends, met, joined_on, at_first, Rises, HasRoom}

-- what is known of the next range, and of those behind it
record Here (next : ChangedRange) (from at : ℕ) (r : ChangedRange) (rest : List ChangedRange) : Type 0 where
  order : from ≤ r.start
  span : r.start ≤ r.end
  fits : r.end < 2 ^ 32
  small : at + (r.start - from) + r.length + next.length < 2 ^ 32
  room : HasRoom next r.end (at + (r.start - from) + r.length) rest

rises_fit : (next : ChangedRange) (size from at : ℕ) (rs : List ChangedRange) → Rises next size from at rs → from ≤ size
rises_fit next size from at [] h = h.0
rises_fit next size from at (r ∷ rs) h = let k : r.end ≤ size = rises_fit next size r.end (at + (r.start - from) + r.length) rs h.3 in omega (arith, h.0, h.1, k)

drop_here : (made : List ChangedRange) (i : ℕ) (d : ChangedRange) → i < length made → drop i made ≡ get_or made i d ∷ drop (i + 1) made
drop_here made i d h = rw (add-one, drop-cons made i d) refl

first_here : (next : ChangedRange) (from at : ℕ) (r : ChangedRange) (rest : List ChangedRange) → HasRoom next from at (r ∷ rest) → Here next from at r rest
first_here next from at r rest h =
    let k : r.end ≤ h.size = rises_fit next h.size r.end (at + (r.start - from) + r.length) rest h.rises.3 in
    record {
      order = h.rises.0;
      span = h.rises.1;
      fits = let s = h.small in omega (arith, k, s);
      small = h.rises.2;
      room = record { size = h.size; small = h.small; order = h.order; rises = h.rises.3 };
    }

here : (next : ChangedRange) (from at : ℕ) (made : List ChangedRange) (i : ℕ) (d : ChangedRange) → i < length made → HasRoom next from at (drop i made) → Here next from at (get_or made i d) (drop (i + 1) made)
here next from at made i d lt h = first_here next from at (get_or made i d) (drop (i + 1) made) (subst (HasRoom next from at) (drop_here made i d lt) h)

-- the joined range ends before what stands behind it
pub joint_fits : (next : ChangedRange) (from at first : ℕ) (made : List ChangedRange) (i : ℕ) (d : ChangedRange) → i < length made → HasRoom next from at (drop i made) → first ≡ at + ((get_or made i d).start - from)
    → next.end < first → from + (next.end - at) < 2 ^ 32
joint_fits next from at first made i d lt h is behind =
    let k : Here next from at (get_or made i d) (drop (i + 1) made) = here next from at made i d lt h in
    let a = k.order in
    let b = k.span in
    let c = k.fits in
    omega (arith, is, behind, a, b, c)

-- ---- what the loop keeps

abbrev pub Kept : ChangedRange → List ChangedRange → List ChangedRange → Walk → ℕ → Type 0
Kept next made out walk i = record {
  list : out ++ joined_on next walk (drop i made) ≡ joined_on next at_first made;
  room : HasRoom next walk.from walk.at (drop i made);
  small : walk.at + next.length < 2 ^ 32;
  stays : walk.before ≤ walk.at;
  before : walk.before ≤ next.end;
}

module _ (next : ChangedRange) (made : List ChangedRange) (i : ℕ) (d : ChangedRange) (lt : i < length made) where
  abbrev r : ChangedRange
  r = get_or made i d

  abbrev rest : List ChangedRange
  rest = drop (i + 1) made

  at_range : (walk : Walk) → joined_on next walk (drop i made) ≡ joined_on next walk (r ∷ rest)
  at_range walk = ap (joined_on next walk) (drop_here made i d lt)

  passed_list : (out : List ChangedRange) (walk : Walk) → ends walk r < next.start
      → (out ++ r ∷ []) ++ joined_on next (record walk { from = r.end; at = ends walk r }) rest ≡ out ++ joined_on next walk (drop i made)
  passed_list out walk h =
      append_assoc out (r ∷ []) (joined_on next (record walk { from = r.end; at = ends walk r }) rest)
      ∙ ap (λ (xs : List ChangedRange). out ++ xs) (sym (at_range walk ∙ rw (lt-ltb (ends walk r) next.start h) refl))

  pub passed : (out : List ChangedRange) (walk : Walk) → ends walk r < next.start → Kept next made out walk i → Kept next made (out ++ r ∷ []) (record walk { from = r.end; at = ends walk r }) (i + 1)
  passed out walk h k =
      let x : Here next walk.from walk.at r rest = here next walk.from walk.at made i d lt k.room in
      let stays = k.stays in
      record {
        list = passed_list out walk h ∙ k.list;
        room = x.room;
        small = x.small;
        stays = omega (arith, stays);
        before = k.before;
      }

  met_list : (walk : Walk) → next.start ≤ ends walk r → begins walk r ≤ next.end → joined_on next walk (drop i made) ≡ joined_on next (met next walk r) rest
  met_list walk a b = at_range walk ∙ rw (le-ltb (ends walk r) next.start a, le-ltb next.end (begins walk r) b) refl

  met_none : (from at b : ℕ) → next.start ≤ at + (r.start - from) + r.length → Here next from at r rest → (c : Bool) → nat_lt next.start (at + (r.start - from)) ≡ c
      → (walk : Walk) → walk ≡ (if c then record { from = r.end; at = at + (r.start - from) + r.length; start = Some (from + (next.start - at)); before = 0 } else record { from = r.end; at = at + (r.start - from) + r.length; start = Some r.start; before = next.start - (at + (r.start - from)) })
      → record {
        room : HasRoom next walk.from walk.at rest;
        small : walk.at + next.length < 2 ^ 32;
        stays : walk.before ≤ walk.at;
        before : walk.before ≤ next.end;
      }
  met_none from at b h x true e walk is =
      subst (λ (w : Walk). record { room : HasRoom next w.from w.at rest; small : w.at + next.length < 2 ^ 32; stays : w.before ≤ w.at; before : w.before ≤ next.end }) (sym is)
      (record { room = x.room; small = x.small; stays = omega arith; before = omega arith })
  met_none from at b h x false e walk is =
      let order : next.start ≤ next.end = let m = x.room in m.order in
      subst (λ (w : Walk). record { room : HasRoom next w.from w.at rest; small : w.at + next.length < 2 ^ 32; stays : w.before ≤ w.at; before : w.before ≤ next.end }) (sym is)
      (record { room = x.room; small = x.small; stays = omega (arith, h); before = omega (arith, order) })

  met_kept : (from at : ℕ) (start : Option ℕ) (b : ℕ) → next.start ≤ at + (r.start - from) + r.length → b ≤ at → b ≤ next.end → Here next from at r rest
      → record {
        room : HasRoom next (met next (record { from = from; at = at; start = start; before = b }) r).from (met next (record { from = from; at = at; start = start; before = b }) r).at rest;
        small : (met next (record { from = from; at = at; start = start; before = b }) r).at + next.length < 2 ^ 32;
        stays : (met next (record { from = from; at = at; start = start; before = b }) r).before ≤ (met next (record { from = from; at = at; start = start; before = b }) r).at;
        before : (met next (record { from = from; at = at; start = start; before = b }) r).before ≤ next.end;
      }
  met_kept from at (Some s) b h stays within x = record { room = x.room; small = x.small; stays = omega (arith, stays); before = within }
  met_kept from at None b h stays within x = met_none from at b h x (nat_lt next.start (at + (r.start - from))) refl (met next (record { from = from; at = at; start = None; before = b }) r) refl

  pub met_on : (out : List ChangedRange) (walk : Walk) → next.start ≤ ends walk r → begins walk r ≤ next.end → Kept next made out walk i → Kept next made out (met next walk r) (i + 1)
  met_on out walk a b k =
      let m = met_kept walk.from walk.at walk.start walk.before a k.stays k.before (here next walk.from walk.at made i d lt k.room) in
      record {
        list = ap (λ (xs : List ChangedRange). out ++ xs) (sym (met_list walk a b)) ∙ k.list;
        room = m.room;
        small = m.small;
        stays = m.stays;
        before = m.before;
      }
