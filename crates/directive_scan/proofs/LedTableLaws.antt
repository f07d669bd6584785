-- The table of the lines that a mark leads is made from the tokens and comments of the text.
use Rattle.std.proofs.Common.{◌≡◌, ◌≤◌, ◌+◌, ◌-◌, ◌&&◌, ◌||◌, not, cond, nat_lt, nat_le, if◌then◌else◌, ℕ, zero, suc, Bool, true, false, List, [], ◌∷◌, length, map, filter, filter_map, set, refl, sym, ap, ◌∙◌, arith}
use Rattle.std.specs.List.{list_any}
use Rattle.std.proofs.lemmas.List.{length-replicate, length-set}
use Rattle.go_tree.specs.declared.spans.Span.{Span}
use Rattle.go_tree.specs.declared.tokens.Token.{Token}
use Rattle.go_tree.specs.declared.tokens.Comment.{Comment}
use Rattle.directive_scan.specs.Lines.{line_of, stands_on, is_comment_line, is_mark, is_mark_line, is_led}
use Rattle.directive_scan.specs.Items.{Item}
use Rattle.directive_scan.specs.Marked.{is_led_at, is_marked, mark_by, bad_by, bad_at, good_in, bad_in, starts_on, holds_for_one, marks_nothing, placed_in}
use Rattle.directive_scan.specs.Tables.{entry, filled, span_flags, spans_flags, mark_flags, flagged, cleared, lead_table, led_table, leading_table, unflagged, start_flags}
use Rattle.directive_scan.proofs.TableLaws.{line_below}
use Rattle.directive_scan.proofs.FlagLaws.{entry_none, mark_entry, start_entry, starts_long}
use Rattle.directive_scan.proofs.SpanLaws.{filled_entry}
use Rattle.directive_scan.proofs.LedLaws.{led_entry}
use Rattle.directive_scan.proofs.LeadsLaws.{same_leads, leads_entry}

in_table : (a b n : ℕ) → a ≤ n → b ≤ n → a + (b + 1 - a) ≤ n + 1
in_table a b n h k = grind (arith, h, k)

range_same : (a b k : ℕ) → (nat_le a k && nat_lt k (a + (b + 1 - a))) ≡ (nat_le a k && nat_le k b)
range_same a b k = grind arith

same_led : (f g f' g' : ℕ → Bool) → ((k : ℕ) → f k ≡ f' k) → ((k : ℕ) → g k ≡ g' k) → (k : ℕ) → is_led f g k ≡ is_led f' g' k
same_led f g f' g' p q zero = refl
same_led f g f' g' p q (suc k) = ap (λ a. a && (g k || is_led f g k)) (p k) ∙ ap (λ a. f' k && (a || is_led f g k)) (q k) ∙ ap (λ a. f' k && (g' k || a)) (same_led f g f' g' p q k)

same_any : {X : Type 0} (p q : X → Bool) → ((x : X) → p x ≡ q x) → (xs : List X) → list_any p xs ≡ list_any q xs
same_any p q h [] = refl
same_any p q h (x ∷ xs) = ap (λ a. a || list_any p xs) (h x) ∙ ap (λ a. q x || a) (same_any p q h xs)

same_filter : {X : Type 0} (p q : X → Bool) → ((x : X) → p x ≡ q x) → (xs : List X) → filter p xs ≡ filter q xs
same_filter p q h [] = refl
same_filter p q h (x ∷ xs) = ap (λ a. cond a (x ∷ filter p xs) (filter p xs)) (h x) ∙ ap (λ l. cond (q x) (x ∷ l) l) (same_filter p q h xs)

module _ (text : List ℕ) where
  by_test : (v : Bool) (s : Span) (flags : List Bool) (k : ℕ) → length flags ≡ line_of text (length text) + 1 → (t : Bool)
      → entry (if t then filled v (line_of text s.start) (line_of text (s.end - 1) + 1 - line_of text s.start) flags else flags) k
      ≡ (if t && (nat_le (line_of text s.start) k && nat_le k (line_of text (s.end - 1))) then v else entry flags k)
  by_test v s flags k l true =
      filled_entry v (line_of text s.start) (line_of text (s.end - 1) + 1 - line_of text s.start) flags k (grind (arith, l, in_table (line_of text s.start) (line_of text (s.end - 1)) (line_of text (length text)) (line_below text s.start) (line_below text (s.end - 1))))
      ∙ ap (λ t. if t then v else entry flags k) (range_same (line_of text s.start) (line_of text (s.end - 1)) k)
  by_test v s flags k l false = refl

  span_entry : (v : Bool) (s : Span) (flags : List Bool) (k : ℕ) → length flags ≡ line_of text (length text) + 1 → entry (span_flags text v s flags) k ≡ (if stands_on text k s then v else entry flags k)
  span_entry v s flags k l = by_test v s flags k l (nat_lt s.start s.end)

  filled_long : (v : Bool) (first count : ℕ) (flags : List Bool) → length (filled v first count flags) ≡ length flags
  filled_long v first zero flags = refl
  filled_long v first (suc n) flags = filled_long v (suc first) n (set flags first v) ∙ length-set flags first v

  long_by : (v : Bool) (first count : ℕ) (flags : List Bool) (t : Bool) → length (if t then filled v first count flags else flags) ≡ length flags
  long_by v first count flags true = filled_long v first count flags
  long_by v first count flags false = refl

  span_long : (v : Bool) (s : Span) (flags : List Bool) → length (span_flags text v s flags) ≡ length flags
  span_long v s flags = long_by v (line_of text s.start) (line_of text (s.end - 1) + 1 - line_of text s.start) flags (nat_lt s.start s.end)

  set_true : (e s r : Bool) → ((if s then true else e) || r) ≡ (e || (s || r))
  set_true true true r = refl
  set_true true false r = refl
  set_true false true r = refl
  set_true false false r = refl

  set_false : (e s r : Bool) → ((if s then false else e) && not r) ≡ (e && not (s || r))
  set_false true true r = refl
  set_false true false r = refl
  set_false false true r = refl
  set_false false false r = refl

  or_none : (a : Bool) → a ≡ (a || false)
  or_none true = refl
  or_none false = refl

  and_all : (a : Bool) → a ≡ (a && true)
  and_all true = refl
  and_all false = refl

  module _ {X : Type 0} (f : X → Span) where
    set_entries : (xs : List X) (flags : List Bool) (k : ℕ) → length flags ≡ line_of text (length text) + 1 → entry (spans_flags text true (map f xs) flags) k ≡ (entry flags k || list_any (λ x. stands_on text k (f x)) xs)
    set_entries [] flags k l = or_none (entry flags k)
    set_entries (x ∷ xs) flags k l = set_entries xs (span_flags text true (f x) flags) k (span_long true (f x) flags ∙ l)
        ∙ ap (λ e. e || list_any (λ x. stands_on text k (f x)) xs) (span_entry true (f x) flags k l)
        ∙ set_true (entry flags k) (stands_on text k (f x)) (list_any (λ x. stands_on text k (f x)) xs)

    clear_entries : (xs : List X) (flags : List Bool) (k : ℕ) → length flags ≡ line_of text (length text) + 1 → entry (spans_flags text false (map f xs) flags) k ≡ (entry flags k && not (list_any (λ x. stands_on text k (f x)) xs))
    clear_entries [] flags k l = and_all (entry flags k)
    clear_entries (x ∷ xs) flags k l = clear_entries xs (span_flags text false (f x) flags) k (span_long false (f x) flags ∙ l)
        ∙ ap (λ e. e && not (list_any (λ x. stands_on text k (f x)) xs)) (span_entry false (f x) flags k l)
        ∙ set_false (entry flags k) (stands_on text k (f x)) (list_any (λ x. stands_on text k (f x)) xs)

    pub spans_long : (v : Bool) (xs : List X) (flags : List Bool) → length (spans_flags text v (map f xs) flags) ≡ length flags
    spans_long v [] flags = refl
    spans_long v (x ∷ xs) flags = spans_long v xs (span_flags text v (f x) flags) ∙ span_long v (f x) flags

  cleared_long : length (cleared text) ≡ line_of text (length text) + 1
  cleared_long = length-replicate (line_of text (length text) + 1) false

  mark_long : (flags : List Bool) (n : ℕ) (b : Bool) → length (if b then set flags n true else flags) ≡ length flags
  mark_long flags n true = length-set flags n true
  mark_long flags n false = refl

  marks_long : (cs : List Comment) (flags : List Bool) → length (mark_flags text cs flags) ≡ length flags
  marks_long [] flags = refl
  marks_long (c ∷ cs) flags = marks_long cs (if is_mark text c then set flags (line_of text c.span.start) true else flags) ∙ mark_long flags (line_of text c.span.start) (is_mark text c)

  module _ (tokens : List Token) (comments : List Comment) where
    abbrev comment_flags : List Bool
    comment_flags = spans_flags text true (map (λ c. c.span) comments) (cleared text)

    abbrev lead_flags : List Bool
    lead_flags = lead_table text tokens comments

    comment_long : length comment_flags ≡ line_of text (length text) + 1
    comment_long = spans_long (λ c. c.span) true comments (cleared text) ∙ cleared_long

    lead_long : length lead_flags ≡ line_of text (length text) + 1
    lead_long = spans_long (λ t. t.span) false tokens comment_flags ∙ comment_long

    lead_is : (k : ℕ) → entry lead_flags k ≡ is_comment_line text tokens comments k
    lead_is k = clear_entries (λ t. t.span) tokens comment_flags k comment_long
        ∙ ap (λ e. e && not (list_any (λ t. stands_on text k t.span) tokens)) (set_entries (λ c. c.span) comments (cleared text) k cleared_long ∙ ap (λ e. e || list_any (λ c. stands_on text k c.span) comments) (entry_none (line_of text (length text) + 1) k))

    mark_is : (k : ℕ) → entry (mark_flags text comments (cleared text)) k ≡ is_mark_line text comments k
    mark_is k = mark_entry text comments (cleared text) k cleared_long ∙ ap (λ e. e || is_mark_line text comments k) (entry_none (line_of text (length text) + 1) k)

    -- the table says of each offset whether a mark line is among the lead lines of its line
    pub led_is : (at : ℕ) → entry (led_table text tokens comments) (line_of text at) ≡ is_led_at text tokens comments at
    led_is at = led_entry lead_flags (mark_flags text comments (cleared text)) (line_of text at) (lead_long ∙ sym (marks_long comments (cleared text) ∙ cleared_long)) (grind (arith, lead_long, line_below text at))
        ∙ same_led (entry lead_flags) (entry (mark_flags text comments (cleared text))) (is_comment_line text tokens comments) (is_mark_line text comments) lead_is mark_is (line_of text at)

    pub flagged_is : (items : List Item) → flagged text (led_table text tokens comments) items ≡ filter (is_marked text tokens comments) items
    flagged_is items = same_filter (λ i. list_any (λ at. entry (led_table text tokens comments) (line_of text at)) i.starts) (is_marked text tokens comments)
        (λ i. same_any (λ at. entry (led_table text tokens comments) (line_of text at)) (is_led_at text tokens comments) led_is i.starts) items

    pub good_is : (items : List Item) → filter_map (λ i. mark_by i.name i.verdict) (flagged text (led_table text tokens comments) items) ≡ good_in text tokens comments items
    good_is items = ap (λ l. filter_map (λ i. mark_by i.name i.verdict) l) (flagged_is items)

    pub bad_is : (items : List Item) → filter_map (λ i. bad_by i.name i.verdict) (flagged text (led_table text tokens comments) items) ≡ filter_map (λ i. bad_by i.name i.verdict) (filter (is_marked text tokens comments) items)
    bad_is items = ap (λ l. filter_map (λ i. bad_by i.name i.verdict) l) (flagged_is items)

    start_is : (items : List Item) (k : ℕ) → entry (start_flags text items (cleared text)) k ≡ starts_on text items k
    start_is items k = start_entry text items (cleared text) k cleared_long ∙ ap (λ e. e || starts_on text items k) (entry_none (line_of text (length text) + 1) k)

    start_long : (items : List Item) → length (start_flags text items (cleared text)) ≡ line_of text (length text) + 1
    start_long items = starts_long text items (cleared text) ∙ cleared_long

    -- the table says of each comment's line whether it leads to an item
    leading_is : (items : List Item) (c : Comment) → entry (leading_table text tokens comments items) (line_of text c.span.start) ≡ holds_for_one text tokens comments items c
    leading_is items c =
        leads_entry lead_flags (start_flags text items (cleared text)) (line_of text (length text)) (line_of text c.span.start) (lead_long ∙ sym (start_long items)) (grind (arith, lead_long))
        ∙ same_leads (entry lead_flags) (is_comment_line text tokens comments) (entry (start_flags text items (cleared text))) (starts_on text items) lead_is (start_is items) (line_of text (length text)) (line_of text c.span.start)

    pub nothing_is : (items : List Item) → map bad_at (unflagged text (leading_table text tokens comments items) comments) ≡ map bad_at (filter (marks_nothing text tokens comments items) comments)
    nothing_is items = ap (λ l. map bad_at l) (same_filter (λ c. is_mark text c && not (entry (leading_table text tokens comments items) (line_of text c.span.start))) (marks_nothing text tokens comments items)
        (λ c. ap (λ e. is_mark text c && not e) (leading_is items c)) comments)

    -- the two lists that the program joins
    pub both_are : (items : List Item) → placed_in (filter_map (λ i. bad_by i.name i.verdict) (flagged text (led_table text tokens comments) items)) (map bad_at (unflagged text (leading_table text tokens comments items) comments)) ≡ bad_in text tokens comments items
    both_are items = λ w. placed_in (bad_is items w) (nothing_is items w)
