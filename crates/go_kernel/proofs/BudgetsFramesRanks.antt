-- Checks: where a premise of a law of budgets, frames, parts or calls fails, so does the law. Each pair is what the law would join.
use Rattle.std.proofs.Common.{◌≡◌, ℕ, List, [], ◌∷◌, Bool, true, refl}
use Rattle.std.specs.Prelude.{◌++◌, map, codes}
use Rattle.go_kernel.specs.Kernel.{Name, FuncName, Value, Int, Arith, Add, Sub, Compare, Equal, Event, Term, If, Let, Alone, Call, Func, code, Program, Frame, State, Gives, start, chain, cut, Running, Ended, shows, free_shows, prim}
use Rattle.go_kernel.specs.Alike.{reframed}
use Rattle.go_kernel.proofs.Programs.{int, num, none, seq, op2, say, loc, set, return_, said, named, giving, with_main, main}

abbrev numbers : List ℕ → Event
numbers ns = said (map int ns)

abbrev all_free : FuncName → Bool
all_free f = true

abbrev call : List ℕ → Term → Term
call n a = Call (named n) a

abbrev add_one : Term → Term
add_one a = op2 (Arith Add Int) a (num 1)

-- ---- println(4); println(h(3)) with h(n) = g(n) and g(n) = n + 1

abbrev g : FuncName × Func
g = (named (codes "g"), giving (codes "n" ∷ []) (return_ (add_one (loc (codes "n")))))

abbrev h : FuncName × Func
h = (named (codes "h"), giving (codes "n" ∷ []) (return_ (call (codes "g") (loc (codes "n")))))

abbrev P : Program
P = with_main (seq (say (num 4)) (say (call (codes "h") (num 3)))) (g ∷ h ∷ [])

-- a smaller budget covers not what a larger one shows: an end is covered by an end
at_two : shows P none main [] 2 ≡ Ended (numbers (4 ∷ []) ∷ numbers (4 ∷ []) ∷ [])
unfolding prim
at_two = refl

at_one : shows P none main [] 1 ≡ Running (numbers (4 ∷ []) ∷ [])
unfolding prim
at_one = refl

-- nor does the same budget at full prices cover what free ones show
free_at_none : free_shows P all_free 2 none main [] 0 ≡ Ended (numbers (4 ∷ []) ∷ numbers (4 ∷ []) ∷ [])
unfolding prim
free_at_none = refl

paid_at_none : shows P none main [] 0 ≡ Running (numbers (4 ∷ []) ∷ [])
unfolding prim
paid_at_none = refl

-- ---- frames: x = 2, where x isn't in the front, and where another x stands in front

abbrev to_two : Term
to_two = set (codes "x") (num 2)

abbrev at_frame : Frame → State
at_frame f = record (start []) { frame = f }

abbrev x_is : ℕ → Name × Value
x_is k = (codes "x", int k)

-- with x behind the front, and of the front alone
behind_is_set : chain P all_free cut 0 to_two (at_frame (x_is 1 ∷ [])) ≡ Gives [] (at_frame (x_is 2 ∷ []))
unfolding prim
behind_is_set = refl

front_alone : reframed (λ f. f ++ (x_is 1 ∷ [])) (chain P all_free cut 0 to_two (at_frame [])) ≡ Gives [] (at_frame (x_is 1 ∷ []))
unfolding prim
front_alone = refl

-- with another x in front, and without it
hidden : chain P all_free cut 0 to_two (at_frame (x_is 5 ∷ x_is 1 ∷ [])) ≡ Gives [] (at_frame (x_is 2 ∷ x_is 1 ∷ []))
unfolding prim
hidden = refl

not_hidden : reframed (λ f. x_is 5 ∷ f) (chain P all_free cut 0 to_two (at_frame (x_is 1 ∷ []))) ≡ Gives [] (at_frame (x_is 5 ∷ x_is 2 ∷ []))
unfolding prim
not_hidden = refl

-- ---- parts: a call replaced by its literal in h, where chains that cost nothing are shorter than the ranks

abbrev inlined : Program
inlined = with_main (seq (say (num 4)) (say (call (codes "h") (num 3)))) (g ∷ (named (codes "h"), giving (codes "n" ∷ []) (return_ (Let (codes "n" ∷ []) (loc (codes "n")) (Alone (code (g.1)))))) ∷ [])

called_at_one : free_shows P all_free 0 none main [] 1 ≡ Running (numbers (4 ∷ []) ∷ [])
unfolding prim
called_at_one = refl

inlined_at_one : free_shows inlined all_free 0 none main [] 1 ≡ Ended (numbers (4 ∷ []) ∷ numbers (4 ∷ []) ∷ [])
unfolding prim
inlined_at_one = refl

-- ---- a free function that calls itself has no rank: countdown(1) goes one call less far than its literal

abbrev n : Term
n = loc (codes "n")

abbrev countdown : Func
countdown = giving (codes "n" ∷ []) (If (op2 (Compare Equal) n (num 0)) (return_ (num 7)) (return_ (call (codes "countdown") (op2 (Arith Sub Int) n (num 1)))))

abbrev counting : Term → Program
counting t = with_main (say t) ((named (codes "countdown"), countdown) ∷ [])

countdown_called : free_shows (counting (call (codes "countdown") (num 1))) all_free 1 none main [] 0 ≡ Running []
unfolding prim
countdown_called = refl

countdown_literal : free_shows (counting (Let (codes "n" ∷ []) (num 1) (Alone (code countdown)))) all_free 1 none main [] 0 ≡ Ended (numbers (7 ∷ []) ∷ [])
unfolding prim
countdown_literal = refl
