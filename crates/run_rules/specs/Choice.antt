-- Which parameters of a call may be replaced by their arguments, found by striking out until nothing changes (Go
-- specification, Order of evaluation; Calls).
use Rattle.std.specs.Prelude.{ℕ, zero, suc, Bool, true, false, not, ◌&&◌, ◌||◌, List, [], ◌∷◌, map}
use Rattle.std.specs.Prelude.{length, drop, if◌then◌else◌, nat_eq, nat_lt}
use Rattle.std.specs.List.{list_any, list_all, count_by, position_or_len}
use Rattle.order_hazards.specs.declared.facts.Class.{Class}
use Rattle.order_hazards.specs.declared.facts.Class.TheVariants.{Steady, Looks, Acts}
use Rattle.order_hazards.specs.declared.facts.Item.{Item}
use Rattle.order_hazards.specs.declared.facts.ParamRow.{ParamRow}
use Rattle.order_hazards.specs.Items.{is_use, is_write, is_effect}
use Rattle.param_choice.specs.declared.table.CallTable.{CallTable}
use Rattle.param_choice.specs.Chosen.{has}

-- it is the class of arguments that act
abbrev pub is_acts : Class → Bool
is_acts Acts = true
is_acts Looks = false
is_acts Steady = false

-- the one implies the other
abbrev pub holds_if : Bool → Bool → Bool
holds_if a b = not a || b

-- it is the class of arguments that look
abbrev pub is_looks : Class → Bool
is_looks Acts = false
is_looks Looks = true
is_looks Steady = false

-- so many uses of parameter i are listed, each before each item that passes
abbrev pub all_ahead : (Item → Bool) → ℕ → ℕ → List Item → Bool
all_ahead test i uses items =
    nat_eq (count_by (is_use i) items) uses && not (list_any (is_use i) (drop (position_or_len test items) items))

-- what looks comes before each write of a body that has one; what acts is used once, and before each effect
abbrev pub keeps_place : Class → ℕ → ℕ → List Item → Bool → Bool
keeps_place c i uses items writes =
    holds_if (is_looks c) (not writes || all_ahead is_write i uses items)
    && holds_if (is_acts c) (nat_eq uses 1 && all_ahead is_effect i 1 items)

-- an argument whose parameter has no use may be left out
abbrev pub may_be_dropped : ParamRow → Bool
may_be_dropped r = not (is_acts r.class) && (not r.address && (not r.names_held && not r.last_use))

-- the argument may take the parameter's place as far as it alone tells
abbrev pub solo : ParamRow → ℕ → List Item → Bool → Bool
solo r i items writes =
    not r.barred
    && (holds_if r.deferred_use r.constant
    && (holds_if (nat_lt 1 r.uses) r.duplicable
    && (holds_if (nat_eq r.uses 0) (may_be_dropped r)
    && keeps_place r.class i r.uses items writes)))

-- two arguments that may not change their order
abbrev pub clash : Class → Class → Bool
clash Acts Acts = true
clash Acts Looks = true
clash Looks Acts = true
clash Looks Looks = false
clash Looks Steady = false
clash Acts Steady = false
clash Steady c = false

-- all uses of parameter i are listed, each before each use of parameter j
abbrev pub before : List Item → ℕ → ℕ → ℕ → Bool
before items i uses j = all_ahead (is_use j) i uses items

-- rows with their numbers, from a number on
abbrev pub rows_from : ℕ → List ParamRow → List (ℕ × ParamRow)
rows_from i [] = []
rows_from i (r ∷ rs) = (i, r) ∷ rows_from (suc i) rs

module _ (t : CallTable) where
  -- the later parameters with which one clashes
  abbrev pub clashes_with : ℕ × ParamRow → ℕ × ParamRow → Bool
  clashes_with q x = nat_lt q.0 x.0 && clash q.1.class x.1.class

  -- it may be chosen as far as no other has to be
  abbrev pub may_be_chosen : Bool → ℕ × ParamRow → Bool
  may_be_chosen constants q =
      (constants || not q.1.constant)
      && (solo q.1 q.0 t.items t.body_writes && list_all (λ x.
      holds_if (clashes_with q x) (before t.items q.0 q.1.uses x.0)) (rows_from 0 t.rows))

  -- what it needs to be chosen too: those that it clashes with, and those whose names its argument has
  abbrev pub needs_met : List Bool → ℕ × ParamRow → Bool
  needs_met kept q =
      list_all (λ x. holds_if (clashes_with q x) (has kept x.0)) (rows_from 0 t.rows)
      && list_all (λ n. holds_if (nat_eq n.0 q.0 && not (nat_eq n.1 q.0)) (has kept n.1)) t.names

  -- the parameters that may be chosen as far as no other has to be
  abbrev pub first_kept : Bool → List Bool
  first_kept constants = map (may_be_chosen constants) (rows_from 0 t.rows)

  -- those of a list that are kept and have what they need
  abbrev pub struck : List Bool → List (ℕ × ParamRow) → List Bool → List Bool
  struck kept [] bs = []
  struck kept (q ∷ qs) [] = []
  struck kept (q ∷ qs) (b ∷ bs) = (b && needs_met kept q) ∷ struck kept qs bs

  -- each that is kept has what it needs
  abbrev pub all_met : List Bool → List (ℕ × ParamRow) → List Bool → Bool
  all_met kept [] bs = true
  all_met kept (q ∷ qs) [] = true
  all_met kept (q ∷ qs) (b ∷ bs) = holds_if b (needs_met kept q) && all_met kept qs bs

  -- what is left after at most so many rounds of striking out
  abbrev pub strikes : ℕ → List Bool → List Bool
  strikes zero kept = kept
  strikes (suc n) kept =
      if all_met kept (rows_from 0 t.rows) kept then kept else strikes n (struck kept (rows_from 0 t.rows) kept)

  -- the greatest safe set; without constant arguments where `constants` isn't set
  abbrev pub best : Bool → List Bool
  best constants = strikes (length t.rows) (first_kept constants)
