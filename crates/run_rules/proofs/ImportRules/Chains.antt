-- Ranges that ascend, as edits in their order.
use Rattle.std.proofs.Common.{◌≤◌, ◌<◌, ℕ, nat_le, List, [], ◌∷◌, ◌++◌, map, arith}
use Rattle.std.proofs.lemmas.Bool.{cond_both, leb-true, leb-false}
use Rattle.go_tree.specs.declared.spans.Span.{Span}
use Rattle.text_edits.specs.declared.edit.Edit.{Edit}
use Rattle.text_edits.specs.Spans.{Precedes}
use Rattle.text_edits.specs.Order.{InOrder, PrecedesEach}
use Rattle.text_edits.specs.Applied.{Ascend}
use Rattle.run_rules.specs.ImportRules.Added.{Addition}
use Rattle.run_rules.specs.ImportRules.Settled.{removal, insertion, put_edit}

-- The ranges aren't empty, ascend from an offset on, and end before another.
abbrev pub Chain : ℕ → ℕ → List Span → Type 0
Chain from to [] = from ≤ to
Chain from to (r ∷ rs) = (from ≤ r.start) × (r.start < r.end) × Chain r.end to rs

-- where the last one ends
abbrev pub last_end : ℕ → List Span → ℕ
last_end from [] = from
last_end from (r ∷ rs) = last_end r.end rs

pub chain_append : (from mid to : ℕ) (a b : List Span) → Chain from mid a → Chain (last_end from a) to b → Chain from to (a ++ b)
chain_append from mid to [] b h k = k
chain_append from mid to (r ∷ rs) b h k = (h.0, h.1, chain_append r.end mid to rs b h.2 k)

pub chain_within : (from to size : ℕ) (rs : List Span) → to ≤ size → Chain from to rs → Chain from size rs
chain_within from to size [] le h = omega (arith, h)
chain_within from to size (r ∷ rs) le h = (h.0, h.1, chain_within r.end to size rs le h.2)

pub chain_from : (before from to : ℕ) (rs : List Span) → before ≤ from → Chain from to rs → Chain before to rs
chain_from before from to [] le h = omega (arith, h)
chain_from before from to (r ∷ rs) le h = (omega (arith, h.0), h.1, h.2)

pub chain_last : (from to : ℕ) (rs : List Span) → Chain from to rs → last_end from rs ≤ to
chain_last from to [] h = h
chain_last from to (r ∷ rs) h = chain_last r.end to rs h.2

pub chain_over : (from to : ℕ) (rs : List Span) → Chain from to rs → from ≤ to
chain_over from to [] h = h
chain_over from to (r ∷ rs) h = let k : r.end ≤ to = chain_over r.end to rs h.2 in omega (arith, k, h.0, h.1)

-- the first range starts at the offset or later
abbrev pub HeadFrom : ℕ → ℕ → List Span → Type 0
HeadFrom from to [] = from ≤ to
HeadFrom from to (r ∷ rs) = from ≤ r.start

pub chain_head : (from other to : ℕ) (rs : List Span) → HeadFrom other to rs → Chain from to rs → Chain other to rs
chain_head from other to [] le h = le
chain_head from other to (r ∷ rs) le h = (le, h.1, h.2)

pub head_of : (from other to : ℕ) (rs : List Span) → other ≤ from → Chain from to rs → HeadFrom other to rs
head_of from other to [] le h = omega (arith, h)
head_of from other to (r ∷ rs) le h = omega (arith, h.0)

pub head_append : (from other to : ℕ) (a b : List Span) → HeadFrom other to a → other ≤ from → Chain from to b → HeadFrom other to (a ++ b)
head_append from other to [] b h le k = head_of from other to b le k
head_append from other to (r ∷ rs) b h le k = h

-- ---- removals

pub each_removed : (s : Span) (from to : ℕ) (rs : List Span) → s.start ≤ from → s.end ≤ from → Chain from to rs → PrecedesEach s (map removal rs)
each_removed s from to [] p q h = tt
each_removed s from to (r ∷ rs) p q h = ((omega (arith, h.0), omega (arith, h.0, h.1)), each_removed s r.end to rs (omega (arith, h.0, h.1)) (omega (arith, h.0, h.1)) h.2)

pub removals_order : (from to : ℕ) (rs : List Span) → Chain from to rs → InOrder (map removal rs)
removals_order from to [] h = tt
removals_order from to (r ∷ rs) h = let k : r.start ≤ r.end = omega (arith, h.1) in (k, each_removed r r.end to rs k (omega arith) h.2, removals_order r.end to rs h.2)

pub removals_ascend : (from to : ℕ) (rs : List Span) → Chain from to rs → Ascend from to (map removal rs)
removals_ascend from to [] h = h
removals_ascend from to (r ∷ rs) h = (h.0, omega (arith, h.1), chain_over r.end to rs h.2, removals_ascend r.end to rs h.2)

-- ---- with an insertion

-- The edits stand in order, and ascend in a text from an offset on.
pub record Stand (from size : ℕ) (es : List Edit) : Type 0 where
  pub order : InOrder es
  pub ascend : Ascend from size es

pub removals_stand : (from size : ℕ) (rs : List Span) → Chain from size rs → Stand from size (map removal rs)
removals_stand from size rs h = record { order = removals_order from size rs h; ascend = removals_ascend from size rs h }

-- before all ranges
pub put_first : (from size : ℕ) (a : Addition) (rs : List Span) → from ≤ a.at → a.at ≤ size → Chain a.at size rs → Stand from size (put_edit (insertion a) (map removal rs))
put_first from size a [] lo hi h = record { order = (omega arith, tt, tt); ascend = (lo, omega arith, hi, hi) }
put_first from size a (r ∷ rs) lo hi h =
    cond_both (nat_le a.at r.start) (insertion a ∷ removal r ∷ map removal rs) (removal r ∷ put_edit (insertion a) (map removal rs)) (λ (es : List Edit). Stand from size es)
    (λ t. record {
      order = (omega arith, each_removed (record { start = a.at; end = a.at }) a.at size (r ∷ rs) (omega arith) (omega arith) h, removals_order a.at size (r ∷ rs) h);
      ascend = (lo, omega arith, hi, removals_ascend a.at size (r ∷ rs) h);
    })
    (λ t. absurd (let k : r.start < a.at = leb-false a.at r.start t in omega (arith, k, h.0)))

each_put : (s : Span) (e : Edit) (es : List Edit) → Precedes s e.span → PrecedesEach s es → PrecedesEach s (put_edit e es)
each_put s e [] p h = (p, tt)
each_put s e (f ∷ fs) p h = cond_both (nat_le e.span.start f.span.start) (e ∷ f ∷ fs) (f ∷ put_edit e fs) (λ (l : List Edit). PrecedesEach s l) (λ t. (p, h)) (λ t. (h.0, each_put s e fs p h.1))

-- behind all ranges
put_last_order : (from : ℕ) (a : Addition) (rs : List Span) → Chain from a.at rs → InOrder (put_edit (insertion a) (map removal rs))
put_last_order from a [] h = (omega arith, tt, tt)
put_last_order from a (r ∷ rs) h =
    let over : r.end ≤ a.at = chain_over r.end a.at rs h.2 in
    let k : r.start ≤ r.end = omega (arith, h.1) in
    cond_both (nat_le a.at r.start) (insertion a ∷ removal r ∷ map removal rs) (removal r ∷ put_edit (insertion a) (map removal rs)) (λ (es : List Edit). InOrder es)
    (λ t. absurd (let j : a.at ≤ r.start = leb-true a.at r.start t in omega (arith, j, over, h.1)))
    (λ t. (k, each_put r (insertion a) (map removal rs) (over, omega (arith, over, h.1)) (each_removed r r.end a.at rs k (omega arith) h.2), put_last_order r.end a rs h.2))

put_last_ascend : (from size : ℕ) (a : Addition) (rs : List Span) → a.at ≤ size → Chain from a.at rs → Ascend from size (put_edit (insertion a) (map removal rs))
put_last_ascend from size a [] hi h = (h, omega arith, hi, hi)
put_last_ascend from size a (r ∷ rs) hi h =
    let over : r.end ≤ a.at = chain_over r.end a.at rs h.2 in
    let k : r.start ≤ r.end = omega (arith, h.1) in
    let le : r.end ≤ size = omega (arith, over, hi) in
    cond_both (nat_le a.at r.start) (insertion a ∷ removal r ∷ map removal rs) (removal r ∷ put_edit (insertion a) (map removal rs)) (λ (es : List Edit). Ascend from size es)
    (λ t. absurd (let j : a.at ≤ r.start = leb-true a.at r.start t in omega (arith, j, over, h.1)))
    (λ t. (h.0, k, le, put_last_ascend r.end size a rs hi h.2))

pub put_last : (from size : ℕ) (a : Addition) (rs : List Span) → a.at ≤ size → Chain from a.at rs → Stand from size (put_edit (insertion a) (map removal rs))
put_last from size a rs hi h = record { order = put_last_order from a rs h; ascend = put_last_ascend from size a rs hi h }
