-- Flags of lines, set one after the other.
use Rattle.std.proofs.Common.{◌≡◌, ◌<◌, ◌≤◌, ◌+◌, ◌-◌, ◌==◌, ◌&&◌, ◌||◌, if◌then◌else◌, ℕ, zero, suc, Bool, true, false, List, [], ◌∷◌, length, get_or, set, replicate, refl, ap, ◌∙◌, arith}
use Rattle.std.specs.List.{list_any}
use Rattle.std.proofs.lemmas.List.{length-set}
use Rattle.go_tree.specs.declared.tokens.Comment.{Comment}
use Rattle.directive_scan.specs.Lines.{line_of, is_mark, is_mark_line}
use Rattle.directive_scan.specs.Items.{Item}
use Rattle.directive_scan.specs.Marked.{starts_on}
use Rattle.directive_scan.specs.Tables.{entry, filled, line_flags, start_flags, mark_flags}
use Rattle.directive_scan.proofs.TableLaws.{line_below}

filled_by : (value : Bool) (first next n m : ℕ) (flags : List Bool) → n ≡ suc m → suc first ≡ next → filled value first n flags ≡ filled value next m (set flags first value)
filled_by value first next n m flags e f = ap (λ k. filled value first k flags) e ∙ ap (λ k. filled value k m (set flags first value)) f

pub filled_step : (value : Bool) (first count i : ℕ) (flags : List Bool) → i < count → filled value (first + i) (count - i) flags ≡ filled value (first + (i + 1)) (count - (i + 1)) (set flags (first + i) value)
filled_step value first count i flags h = filled_by value (first + i) (first + (i + 1)) (count - i) (count - (i + 1)) flags (grind (arith, h)) (grind arith)

-- ---- the entries of tables

not_zero : (k : ℕ) → false ≡ (suc k == 0)
not_zero k = grind arith

zero_not : (n : ℕ) → false ≡ (0 == suc n)
zero_not n = grind arith

pub entry_set : (flags : List Bool) (n k : ℕ) (v : Bool) → n < length flags → entry (set flags n v) k ≡ (if k == n then v else entry flags k)
entry_set [] n k v h = grind (arith, h)
entry_set (f ∷ fs) zero zero v h = refl
entry_set (f ∷ fs) zero (suc k) v h = ap (λ t. if t then v else entry fs k) (not_zero k)
entry_set (f ∷ fs) (suc n) zero v h = ap (λ t. if t then v else f) (zero_not n)
entry_set (f ∷ fs) (suc n) (suc k) v h = entry_set fs n k v (grind (arith, h)) ∙ ap (λ t. if t then v else entry fs k) (same k n) where
  same : (a b : ℕ) → (a == b) ≡ (suc a == suc b)
  same a b = grind arith

pub entry_behind : (flags : List Bool) (k : ℕ) → length flags ≤ k → entry flags k ≡ false
entry_behind [] k h = refl
entry_behind (f ∷ fs) zero h = grind (arith, h)
entry_behind (f ∷ fs) (suc k) h = entry_behind fs k (grind (arith, h))

pub entry_within : (flags : List Bool) (k : ℕ) (d : Bool) → k < length flags → entry flags k ≡ get_or flags k d
entry_within [] k d h = grind (arith, h)
entry_within (f ∷ fs) zero d h = refl
entry_within (f ∷ fs) (suc k) d h = entry_within fs k d (grind (arith, h))

pub ruleset entry_at = (entry_behind, entry_within)

pub entry_none : (n k : ℕ) → entry (replicate n false) k ≡ false
entry_none zero k = refl
entry_none (suc n) zero = refl
entry_none (suc n) (suc k) = entry_none n k

module _ (text : List ℕ) where
  on_line : (flags : List Bool) (k a : ℕ) → length flags ≡ line_of text (length text) + 1 → a < length flags → (if k == a then true else entry flags k) ≡ (entry flags k || (a == k))
  on_line flags k a l h = by_test (entry flags k) (k == a) (a == k) (grind arith) where
    by_test : (e s t : Bool) → s ≡ t → (if s then true else e) ≡ (e || t)
    by_test true true true i = refl
    by_test true false false i = refl
    by_test false true true i = refl
    by_test false false false i = refl
    by_test e true false i = grind (arith, i)
    by_test e false true i = grind (arith, i)

  within : (flags : List Bool) (at : ℕ) → length flags ≡ line_of text (length text) + 1 → line_of text at < length flags
  within flags at l = grind (arith, l, line_below text at)

  set_entry : (flags : List Bool) (at k : ℕ) → length flags ≡ line_of text (length text) + 1 → entry (set flags (line_of text at) true) k ≡ (entry flags k || (line_of text at == k))
  set_entry flags at k l = entry_set flags (line_of text at) k true (within flags at l) ∙ on_line flags k (line_of text at) l (within flags at l)

  or_same : (a b c : Bool) → ((a || b) || c) ≡ (a || (b || c))
  or_same true b c = refl
  or_same false b c = refl

  or_none : (a : Bool) → a ≡ (a || false)
  or_none true = refl
  or_none false = refl

  pub line_entry : (ats : List ℕ) (flags : List Bool) (k : ℕ) → length flags ≡ line_of text (length text) + 1 → entry (line_flags text ats flags) k ≡ (entry flags k || list_any (λ at. line_of text at == k) ats)
  line_entry [] flags k l = or_none (entry flags k)
  line_entry (a ∷ ats) flags k l = line_entry ats (set flags (line_of text a) true) k (length-set flags (line_of text a) true ∙ l)
      ∙ ap (λ b. b || list_any (λ at. line_of text at == k) ats) (set_entry flags a k l) ∙ or_same (entry flags k) (line_of text a == k) (list_any (λ at. line_of text at == k) ats)

  line_long : (ats : List ℕ) (flags : List Bool) → length (line_flags text ats flags) ≡ length flags
  line_long [] flags = refl
  line_long (a ∷ ats) flags = line_long ats (set flags (line_of text a) true) ∙ length-set flags (line_of text a) true

  -- the table of the lines on which items start
  pub start_entry : (items : List Item) (flags : List Bool) (k : ℕ) → length flags ≡ line_of text (length text) + 1 → entry (start_flags text items flags) k ≡ (entry flags k || starts_on text items k)
  start_entry [] flags k l = or_none (entry flags k)
  start_entry (i ∷ items) flags k l = start_entry items (line_flags text i.starts flags) k (line_long i.starts flags ∙ l)
      ∙ ap (λ b. b || starts_on text items k) (line_entry i.starts flags k l) ∙ or_same (entry flags k) (list_any (λ at. line_of text at == k) i.starts) (starts_on text items k)

  pub starts_long : (items : List Item) (flags : List Bool) → length (start_flags text items flags) ≡ length flags
  starts_long [] flags = refl
  starts_long (i ∷ items) flags = starts_long items (line_flags text i.starts flags) ∙ line_long i.starts flags

  mark_by : (flags : List Bool) (c : Comment) (k : ℕ) (b : Bool) → length flags ≡ line_of text (length text) + 1
      → entry (if b then set flags (line_of text c.span.start) true else flags) k ≡ (entry flags k || (b && (line_of text c.span.start == k)))
  mark_by flags c k true l = set_entry flags c.span.start k l
  mark_by flags c k false l = or_none (entry flags k)

  mark_long : (flags : List Bool) (n : ℕ) (b : Bool) → length (if b then set flags n true else flags) ≡ length flags
  mark_long flags n true = length-set flags n true
  mark_long flags n false = refl

  -- the table of mark lines
  pub mark_entry : (cs : List Comment) (flags : List Bool) (k : ℕ) → length flags ≡ line_of text (length text) + 1 → entry (mark_flags text cs flags) k ≡ (entry flags k || is_mark_line text cs k)
  mark_entry [] flags k l = or_none (entry flags k)
  mark_entry (c ∷ cs) flags k l = mark_entry cs (if is_mark text c then set flags (line_of text c.span.start) true else flags) k (mark_long flags (line_of text c.span.start) (is_mark text c) ∙ l)
      ∙ ap (λ b. b || is_mark_line text cs k) (mark_by flags c k (is_mark text c) l) ∙ or_same (entry flags k) (is_mark text c && (line_of text c.span.start == k)) (is_mark_line text cs k)
