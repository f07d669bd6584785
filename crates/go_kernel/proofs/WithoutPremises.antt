-- Checks: where a premise of a law fails, the form isn't the call. Each pair evaluates a program with a call, and with what would stand there without the premise.
use Rattle.std.proofs.Common.{◌≡◌, true, false, refl}
use Rattle.std.specs.Prelude.{ℕ, List, [], ◌∷◌, map, codes}
use Rattle.go_kernel.specs.Kernel.{Truth, FuncName, return_label, Int, runtime_error, Arith, Add, Divide, Quotient, Checked, Unchecked, ReadGlobal, GlobalAddress, Save, Event, Term, Both, Prim, Let, Leave, Alone, Recover, Call, InFrame, Defer, Func, Shown, Ended, Panicked, shows, prim}
use Rattle.go_kernel.specs.Forms.{return_to}
use Rattle.go_kernel.proofs.Programs.{int, num, none, seq, op2, say, raise, loc, set, with_var, return_, said, reason, named, giving, doing, lit, defer_lit, with_main, main}

abbrev numbers : List ℕ → Event
numbers ns = said (map int ns)

-- the package variable g, which is 1 before main runs
abbrev g : Term
g = Prim (ReadGlobal (codes "m") (codes "g")) none

abbrev set_g : Term → Term
set_g v = op2 (Save Unchecked) (Prim (GlobalAddress (codes "m") (codes "g")) none) v

abbrev x : Term
x = loc (codes "x")

abbrev y : Term
y = loc (codes "y")

abbrev call : List ℕ → Term → Term
call n a = Call (named n) a

-- func bump() int { println(0); g = g + 1; return g }
abbrev bump : FuncName × Func
bump = (named (codes "bump"), giving [] (seq (say (num 0)) (seq (set_g (op2 (Arith Add Int) g (num 1))) (return_ g))))

abbrev bumped : Term
bumped = call (codes "bump") none

abbrev run : Term → List (FuncName × Func) → Shown
run b fs = shows (with_main b (bump ∷ fs)) (set_g (num 1)) main [] 3

-- ---- an argument that looks, past a write: f(g) with func f(x int) { g = 5; println(x) }

abbrev writes_first : Term → Term
writes_first x = seq (set_g (num 5)) (say x)

look_called : run (call (codes "f") g) ((named (codes "f"), doing (codes "x" ∷ []) (writes_first x)) ∷ []) ≡ Ended (numbers (1 ∷ []) ∷ [])
unfolding prim
look_called = refl

look_moved : run (writes_first g) [] ≡ Ended (numbers (5 ∷ []) ∷ [])
unfolding prim
look_moved = refl

-- ---- an argument that acts, used twice: f(bump()) with func f(x int) { println(x, x) }

abbrev twice : Term → Term
twice x = say (Both x x)

act_called : run (call (codes "f") bumped) ((named (codes "f"), doing (codes "x" ∷ []) (twice x)) ∷ []) ≡ Ended (numbers (2 ∷ 2 ∷ []) ∷ numbers (0 ∷ []) ∷ [])
unfolding prim
act_called = refl

act_twice : run (twice bumped) [] ≡ Ended (numbers (2 ∷ 3 ∷ []) ∷ numbers (0 ∷ []) ∷ numbers (0 ∷ []) ∷ [])
unfolding prim
act_twice = refl

-- ---- an argument that acts, past a read: f(bump()) with func f(x int) { println(g, x) }

abbrev reads_first : Term → Term
reads_first x = say (Both g x)

read_called : run (call (codes "f") bumped) ((named (codes "f"), doing (codes "x" ∷ []) (reads_first x)) ∷ []) ≡ Ended (numbers (2 ∷ 2 ∷ []) ∷ numbers (0 ∷ []) ∷ [])
unfolding prim
read_called = refl

act_past_read : run (reads_first bumped) [] ≡ Ended (numbers (1 ∷ 2 ∷ []) ∷ numbers (0 ∷ []) ∷ [])
unfolding prim
act_past_read = refl

-- ---- an argument that acts, past what may panic: f(bump()) with func f(x int) { println(1/0, x) }

abbrev panics_first : Term → Term
panics_first x = say (Both (op2 (Divide Checked Quotient Int) (num 1) (num 0)) x)

panic_called : run (call (codes "f") bumped) ((named (codes "f"), doing (codes "x" ∷ []) (panics_first x)) ∷ []) ≡ Panicked (runtime_error (codes "divide")) (numbers (0 ∷ []) ∷ [])
unfolding prim
panic_called = refl

act_past_panic : run (panics_first bumped) [] ≡ Panicked (runtime_error (codes "divide")) []
unfolding prim
act_past_panic = refl

-- ---- one that looks, past one that acts: f(g, bump()) with func f(x, y int) { println(y, x) }

abbrev turned : Term → Term → Term
turned x y = say (Both y x)

clash_called : run (call (codes "f") (Both g bumped)) ((named (codes "f"), doing (codes "x" ∷ codes "y" ∷ []) (turned x y)) ∷ []) ≡ Ended (numbers (2 ∷ 1 ∷ []) ∷ numbers (0 ∷ []) ∷ [])
unfolding prim
clash_called = refl

clash_moved : run (turned g bumped) [] ≡ Ended (numbers (2 ∷ 2 ∷ []) ∷ numbers (0 ∷ []) ∷ [])
unfolding prim
clash_moved = refl

-- ---- an unused argument that may panic, dropped: f(1/0) with func f(x int) { println(3) }

unused_called : run (call (codes "f") (op2 (Divide Checked Quotient Int) (num 1) (num 0))) ((named (codes "f"), doing (codes "x" ∷ []) (say (num 3))) ∷ []) ≡ Panicked (runtime_error (codes "divide")) []
unfolding prim
unused_called = refl

unused_dropped : run (say (num 3)) [] ≡ Ended (numbers (3 ∷ []) ∷ [])
unfolding prim
unused_dropped = refl

-- ---- a captured name: y := 7; f(y) with func f(x int) { y := 2; println(x, y) }

abbrev binds : Term → Term
binds x = with_var (codes "y") (num 2) (say (Both x y))

capture_called : run (with_var (codes "y") (num 7) (call (codes "f") y)) ((named (codes "f"), doing (codes "x" ∷ []) (binds x)) ∷ []) ≡ Ended (numbers (7 ∷ 2 ∷ []) ∷ [])
unfolding prim
capture_called = refl

captured : run (with_var (codes "y") (num 7) (binds y)) [] ≡ Ended (numbers (2 ∷ 2 ∷ []) ∷ [])
unfolding prim
captured = refl

-- ---- arguments bound one after another: x := 1; y := 2; f(y, x) with func f(x, y int) { println(x, y) }

abbrev both_set : Term → Term
both_set t = Let (codes "x" ∷ codes "y" ∷ []) (Both (num 1) (num 2)) t

exchange_called : run (both_set (call (codes "f") (Both y x))) ((named (codes "f"), doing (codes "x" ∷ codes "y" ∷ []) (say (Both x y))) ∷ []) ≡ Ended (numbers (2 ∷ 1 ∷ []) ∷ [])
unfolding prim
exchange_called = refl

one_by_one : run (both_set (with_var (codes "x") y (with_var (codes "y") x (say (Both x y))))) [] ≡ Ended (numbers (2 ∷ 2 ∷ []) ∷ [])
unfolding prim
one_by_one = refl

-- ---- a body as a block of its caller: with 'defer', with 'return', with 'recover'

abbrev defers : Term
defers = seq (defer_lit (say (num 2))) (say (num 1))

defer_called : run (seq (call (codes "f") none) (say (num 3))) ((named (codes "f"), doing [] defers) ∷ []) ≡ Ended (numbers (3 ∷ []) ∷ numbers (2 ∷ []) ∷ numbers (1 ∷ []) ∷ [])
unfolding prim
defer_called = refl

defer_in_block : run (seq defers (say (num 3))) [] ≡ Ended (numbers (2 ∷ []) ∷ numbers (3 ∷ []) ∷ numbers (1 ∷ []) ∷ [])
unfolding prim
defer_in_block = refl

abbrev leaves : Term
leaves = seq (say (num 1)) (Leave return_label)

return_called : run (seq (call (codes "f") none) (say (num 3))) ((named (codes "f"), doing [] leaves) ∷ []) ≡ Ended (numbers (3 ∷ []) ∷ numbers (1 ∷ []) ∷ [])
unfolding prim
return_called = refl

return_in_block : run (seq leaves (say (num 3))) [] ≡ Ended (numbers (1 ∷ []) ∷ [])
unfolding prim
return_in_block = refl

-- defer func() { f() }(); panic(9) with func f() { recover() }
abbrev recovers : Term
recovers = seq Recover none

recover_called : run (seq (defer_lit (call (codes "f") none)) (raise 9)) ((named (codes "f"), doing [] recovers) ∷ []) ≡ Panicked (reason 9) []
unfolding prim
recover_called = refl

recover_in_block : run (seq (defer_lit recovers) (raise 9)) [] ≡ Ended []
unfolding prim
recover_in_block = refl

-- defer func() { println(f()) }(); panic(9) with func f() bool { return recover() != nil }
recover_in_call : run (seq (defer_lit (say (call (codes "f") none))) (raise 9)) ((named (codes "f"), giving [] (return_ Recover)) ∷ []) ≡ Panicked (reason 9) (said (Truth false ∷ []) ∷ [])
unfolding prim
recover_in_call = refl

recover_in_expression : run (seq (defer_lit (say Recover)) (raise 9)) [] ≡ Ended (said (Truth true ∷ []) ∷ [])
unfolding prim
recover_in_expression = refl

-- ---- a returned expression that names a result: func f() (r int) { return r + 1 }, where the caller has a variable r, which is 7

abbrev r : Term
r = loc (codes "r")

abbrev next_r : Func
next_r = record { params = []; slots = codes "r" ∷ []; zeros = int 0 ∷ []; body = return_to (codes "r" ∷ []) (op2 (Arith Add Int) r (num 1)); results = InFrame (codes "r") ∷ [] }

result_called : run (with_var (codes "r") (num 7) (say (call (codes "f") none))) ((named (codes "f"), next_r) ∷ []) ≡ Ended (numbers (1 ∷ []) ∷ [])
unfolding prim
result_called = refl

result_in_expression : run (with_var (codes "r") (num 7) (say (op2 (Arith Add Int) r (num 1)))) [] ≡ Ended (numbers (8 ∷ []) ∷ [])
unfolding prim
result_in_expression = refl

-- ---- a body as the caller's return: func c() (r int) { return f(4) }

abbrev caller : Term → Func
caller b = record { params = []; slots = codes "r" ∷ []; zeros = int 0 ∷ []; body = b; results = InFrame (codes "r") ∷ [] }

abbrev caller_shows : Term → List (FuncName × Func) → Shown
caller_shows b fs = run (say (call (codes "c") none)) ((named (codes "c"), caller b) ∷ fs)

abbrev returns_f : Term
returns_f = return_to (codes "r" ∷ []) (call (codes "f") (num 4))

-- with func f(x int) int { r := x + 1; return r }, whose r hides the caller's result
abbrev hides : (Term → Term) → Term
hides return_ = with_var (codes "r") (op2 (Arith Add Int) x (num 1)) (return_ r)

tail_called : caller_shows returns_f ((named (codes "f"), giving (codes "x" ∷ []) (hides return_)) ∷ []) ≡ Ended (numbers (5 ∷ []) ∷ [])
unfolding prim
tail_called = refl

tail_hidden : caller_shows (with_var (codes "x") (num 4) (hides (return_to (codes "r" ∷ [])))) [] ≡ Ended (numbers (0 ∷ []) ∷ [])
unfolding prim
tail_hidden = refl

-- with func f(x int) int { defer func() { recover() }(); panic(9) }, and the caller's result set before
abbrev recovering : Term
recovering = seq (defer_lit (seq Recover none)) (raise 9)

tail_defer_called : caller_shows (seq (set (codes "r") (num 5)) returns_f) ((named (codes "f"), giving (codes "x" ∷ []) recovering) ∷ []) ≡ Ended (numbers (0 ∷ []) ∷ [])
unfolding prim
tail_defer_called = refl

tail_deferred : caller_shows (seq (set (codes "r") (num 5)) (with_var (codes "x") (num 4) recovering)) [] ≡ Ended (numbers (5 ∷ []) ∷ [])
unfolding prim
tail_deferred = refl

-- ---- the operands of a deferred call moved into it: defer f(g); g = 5 with func f(x int) { println(x) }

deferred_call : run (seq (Defer (named (codes "f")) g) (set_g (num 5))) ((named (codes "f"), doing (codes "x" ∷ []) (say x)) ∷ []) ≡ Ended (numbers (1 ∷ []) ∷ [])
unfolding prim
deferred_call = refl

moved_into_deferred : run (seq (defer_lit (say g)) (set_g (num 5))) [] ≡ Ended (numbers (5 ∷ []) ∷ [])
unfolding prim
moved_into_deferred = refl

-- ---- a call of a function with a free name of its caller's frame isn't its literal: its body sees its parameters alone

literal_sets : run (with_var (codes "y") (num 7) (seq (Alone (lit (set (codes "y") (num 8)))) (say y))) [] ≡ Ended (numbers (8 ∷ []) ∷ [])
unfolding prim
literal_sets = refl

called_keeps : run (with_var (codes "y") (num 7) (seq (call (codes "f") none) (say y))) ((named (codes "f"), doing [] (set (codes "y") (num 8))) ∷ []) ≡ Ended (numbers (7 ∷ []) ∷ [])
unfolding prim
called_keeps = refl
