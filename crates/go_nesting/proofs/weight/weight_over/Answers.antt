use Rattle.std.proofs.Common.{◌≡◌, ℕ, suc, ◌+◌, ◌<◌, ◌≤◌, zero, List, [], ◌∷◌, map, length, drop, get_or, Some, None, refl, sym, ap, subst, ◌∙◌, arith, add-one, drop-cons}
use Rattle.std.specs.Prelude.{sum}
use Rattle.std.proofs.lemmas.Grind.{common_steps}
use Rattle.go_tree.specs.declared.tokens.Token.{Token}
use Rattle.go_tree.specs.GoWords.Terminals.{terminal_of}
use Rattle.go_read.specs.SpellsWeight.{counts_after}
use Rattle.go_tree.specs.declared.go_words.terminals.Terminal.{Terminal}
use Rattle.go_tree.specs.GoWords.Codes.{spelled, terminal_at}
use Rattle.go_tree.proofs.GoWords.CodeLemmas.{terminal_beside}
use Rattle.go_nesting.proofs.CodeLemmas.{counts_code}
use Rattle.go_nesting.specs.declared.counts.Nesting.{Nesting}
use Rattle.go_nesting.specs.Nesting.{after}
use Rattle.go_nesting.specs.Frames.{counts_of}
use Rattle.go_nesting.specs.Over.{counts_at, first_over}
use Rattle.go_nesting.proofs.OverLemmas.{over_here, over_later, nil-over, first_is_over}
use Rattle.go_nesting.proofs.weight.weight_over.Goals as goal

next : (ts : List Token) (i : ℕ) (t : Token) → i < length ts → t ≡ get_or ts i t → drop i ts ≡ t ∷ drop (i + 1) ts
next ts i t lt e = drop-cons ts i t lt ∙ ap (λ (x : Token). x ∷ drop (suc i) ts) (sym e) ∙ ap (λ (k : ℕ). t ∷ drop k ts) (sym (add-one i))

-- what is known of a token's terminal is known of what it leaves
leaves : (items : List Token) (i : ℕ) (t : Token) (d : Terminal) (terminals : List Terminal) (n : Nesting) (counts : List ℕ) → i < length items → t ≡ get_or items i t → terminals ≡ map terminal_at items
    → ((w counts : List ℕ) → counts_after (spelled (get_or terminals i d) w) counts ≡ after n counts) → counts_at t counts ≡ after n counts
leaves items i t d terminals n counts lt e same h =
    sym (counts_code (terminal_of t.kind t.spelling) [] counts) ∙ ap (λ (x : Terminal). counts_after (spelled x []) counts) (sym beside) ∙ h [] counts
  where
    mapped_length : (tokens : List Token) → length (map terminal_at tokens) ≡ length tokens
    mapped_length [] = refl
    mapped_length (u ∷ us) = let ih = mapped_length us in omega (arith, ih)

    same_at : (xs : List Terminal) (j : ℕ) (a b : Terminal) → j < length xs → get_or xs j a ≡ get_or xs j b
    same_at [] j a b lt = absurd (omega (arith, lt))
    same_at (x ∷ xs) zero a b lt = refl
    same_at (x ∷ xs) (suc j) a b lt = same_at xs j a b (omega (arith, lt))

    within : i < length terminals
    within = let sizes = ap length same ∙ mapped_length items in omega (arith, lt, sizes)

    beside : get_or terminals i d ≡ terminal_at t
    beside = terminal_beside items i t (get_or terminals i d) lt e
        (same_at terminals i d (get_or terminals i d) within ∙ ap (λ (xs : List Terminal). get_or xs i (get_or terminals i d)) same)

found : (limit : ℕ) (items : List Token) (i : ℕ) (t : Token) (counts : List ℕ) → i < length items → t ≡ get_or items i t
    → first_over limit counts (drop i items) ≡ first_over limit (0 ∷ []) items → limit < sum (counts_at t counts) → first_over limit (0 ∷ []) items ≡ Some t.span.start
found limit items i t counts lt e inv over =
    sym inv ∙ ap (first_over limit counts) (next items i t lt e) ∙ over_here limit counts t (drop (i + 1) items) over

later : (limit : ℕ) (items : List Token) (i : ℕ) (t : Token) (counts : List ℕ) → i < length items → t ≡ get_or items i t
    → first_over limit counts (drop i items) ≡ first_over limit (0 ∷ []) items → sum (counts_at t counts) ≤ limit → first_over limit (counts_at t counts) (drop (i + 1) items) ≡ first_over limit (0 ∷ []) items
later limit items i t counts lt e inv within =
    sym (over_later limit counts t (drop (i + 1) items) within) ∙ sym (ap (first_over limit counts) (next items i t lt e)) ∙ inv

pub returns-then-weight_after-limit : goal.returns-then-weight_after-limit
returns-then-weight_after-limit c =
    let tokens = c.args.tokens.now.items in
    let t = c.token-item.result in
    let counts = counts_of c.loop-i.counts in
    let lt = subst (λ (ts : List Token). c.loop-i.i < length ts) c.items-token-items.ensures c.loop-i-test.true in
    let here = c.token-item.is ∙ ap (λ (ts : List Token). get_or ts c.loop-i.i t) c.items-token-items.ensures in
    let left = leaves tokens c.loop-i.i t _ c.terminals-terminals.result.now c.nesting_of-nesting.result counts lt here c.terminals-terminals.ensures c.nesting_of-nesting.ensures in
    let over : c.args.limit < sum (counts_at t counts) = omega (arith, ap sum left, c.weight_after.ensures, c.if-weight_after-limit.true) in
    first_is_over c.args.limit tokens (Some t.span.start) (found c.args.limit tokens c.loop-i.i t counts lt here c.loop-i.invariant.1 over)

pub loop-i-preserved : goal.loop-i-preserved
loop-i-preserved c =
    let tokens = c.args.tokens.now.items in
    let t = c.token-item.result in
    let counts = counts_of c.loop-i.counts in
    let lt = subst (λ (ts : List Token). c.loop-i.i < length ts) c.items-token-items.ensures c.loop-i-test.true in
    let here = c.token-item.is ∙ ap (λ (ts : List Token). get_or ts c.loop-i.i t) c.items-token-items.ensures in
    let left = leaves tokens c.loop-i.i t _ c.terminals-terminals.result.now c.nesting_of-nesting.result counts lt here c.terminals-terminals.ensures c.nesting_of-nesting.ensures in
    let within : sum (counts_at t counts) ≤ c.args.limit = omega (arith, ap sum left, c.weight_after.ensures, c.if-weight_after-limit.false) in (
      c.take.ensures.sound,
      ap (λ (counts : List ℕ). first_over c.args.limit counts (drop (c.loop-i.i + 1) tokens)) (c.take.ensures.after ∙ sym left)
          ∙ later c.args.limit tokens c.loop-i.i t counts lt here c.loop-i.invariant.1 within,
    )

pub returns : goal.returns
returns c =
    let tokens = c.args.tokens.now.items in
    let ended = subst (λ (ts : List Token). length ts ≤ c.loop-i.i) c.items-token-items.ensures c.loop-i-test.false in
    let done : drop c.loop-i.i tokens ≡ [] = grind (arith, common_steps, ended) in
    first_is_over c.args.limit tokens None
    (sym c.loop-i.invariant.1 ∙ ap (first_over c.args.limit (counts_of c.loop-i.counts)) done ∙ nil-over c.args.limit (counts_of c.loop-i.counts))
