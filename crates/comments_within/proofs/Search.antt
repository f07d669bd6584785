-- Where comments begin in their order, the first that begins from a span's start on decides.
use Rattle.std.proofs.Common.{◌≡◌, ◌∙◌, ℕ, zero, suc, ◌≤◌, ◌<◌, Bool, true, false, ◌&&◌, ◌||◌, nat_le, nat_lt, List, [], ◌∷◌, length, drop, get_or, refl, sym, ap, arith}
use Rattle.std.specs.List.{list_any}
use Rattle.std.specs.List.Sorted.{IsNonDecreasingBy}
use Rattle.std.proofs.lemmas.Bool.{le-leb, lt-leb, le-ltb, ltb-false, and_right}
use Rattle.go_tree.specs.declared.spans.Span.{Span}
use Rattle.go_tree.specs.declared.tokens.Comment.{Comment}
use Rattle.run_rules.specs.ImportRules.Laid.{CommentsAscend}
use Rattle.run_rules.specs.Steps.{lies_in}
use Rattle.comments_within.specs.Begun.{BeginBefore, BeginFrom, begins_before}

-- ---- comments in their order

-- each begins at an offset from which they ascend, or behind it
begin_behind : (from : ℕ) (cs : List Comment) → CommentsAscend from cs → (j : ℕ) (d : Comment) → j < length cs → from ≤ (get_or cs j d).span.start
begin_behind from [] a j d h = absurd (omega arith)
begin_behind from (c ∷ cs) a zero d h = a.0
begin_behind from (c ∷ cs) a (suc j) d h =
    let k : c.span.start ≤ (get_or cs j d).span.start = begin_behind c.span.start cs a.1 j d (omega (arith, h)) in
    omega (arith, a.0, k)

pub in_order : (from : ℕ) (cs : List Comment) → CommentsAscend from cs → IsNonDecreasingBy (λ (c : Comment). c.span.start) cs
in_order from [] a i j d le h = absurd (omega arith)
in_order from (c ∷ cs) a zero zero d le h = omega arith
in_order from (c ∷ cs) a zero (suc j) d le h = begin_behind c.span.start cs a.1 j d (omega (arith, h))
in_order from (c ∷ cs) a (suc i) zero d le h = absurd (omega (arith, le))
in_order from (c ∷ cs) a (suc i) (suc j) d le h = in_order c.span.start cs a.1 i j d (omega (arith, le)) (omega (arith, h))

-- ---- a span

module _ (s : Span) where
  -- none that begins from its end on lies in it
  none_lies : (from : ℕ) (cs : List Comment) → CommentsAscend from cs → s.end ≤ from → list_any (lies_in s) cs ≡ false
  none_lies from [] a h = refl
  none_lies from (c ∷ cs) a h =
      ap (λ b. b || list_any (lies_in s) cs) (and_right (nat_le s.start c.span.start) (nat_lt c.span.start s.end) (le-ltb c.span.start s.end (omega (arith, h, a.0))))
      ∙ none_lies c.span.start cs a.1 (omega (arith, h, a.0))

  first_lies : (cs : List Comment) (from : ℕ) → CommentsAscend from cs → BeginFrom s.start cs 0 → begins_before s.end cs ≡ list_any (lies_in s) cs
  first_lies [] from a behind = refl
  first_lies (c ∷ cs) from a behind =
      by (nat_lt c.span.start s.end) refl
      ∙ ap (λ b. (b && nat_lt c.span.start s.end) || list_any (lies_in s) cs) (sym (le-leb s.start c.span.start (behind 0 c (omega arith) (omega arith))))
    where
      by : (b : Bool) → nat_lt c.span.start s.end ≡ b → b ≡ b || list_any (lies_in s) cs
      by true e = refl
      by false e = sym (none_lies c.span.start cs a.1 (ltb-false c.span.start s.end e))

  pub search_finds : (count from : ℕ) (cs : List Comment) → CommentsAscend from cs → count ≤ length cs → BeginBefore s.start cs count → BeginFrom s.start cs count
      → begins_before s.end (drop count cs) ≡ list_any (lies_in s) cs
  search_finds zero from cs a h before behind = first_lies cs from a behind
  search_finds (suc count) from [] a h before behind = absurd (omega (arith, h))
  search_finds (suc count) from (c ∷ cs) a h before behind =
      search_finds count c.span.start cs a.1 (omega (arith, h)) (λ j d l. before (suc j) d (omega (arith, l))) (λ j d l m. behind (suc j) d (omega (arith, l)) (omega (arith, m)))
      ∙ ap (λ b. (b && nat_lt c.span.start s.end) || list_any (lies_in s) cs) (sym (lt-leb s.start c.span.start (before 0 c (omega arith))))
