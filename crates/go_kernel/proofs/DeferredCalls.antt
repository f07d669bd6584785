-- Checks: deferred calls, panics and recovery (Go specification, "Defer statements", "Handling panics", "Return statements").
use Rattle.std.proofs.Common.{◌≡◌, refl}
use Rattle.std.specs.Prelude.{ℕ, List, [], ◌∷◌, map, true, false, codes}
use Rattle.go_kernel.specs.Kernel.{in_cells, FuncName, temporary, return_label, Truth, Int, runtime_error, Arith, Add, Mul, Divide, Quotient, Compare, Less, LessOrEqual, Load, Save, Checked, Unchecked, Emit, Print, Event, Term, Set, Both, Prim, Let, Loop, Leave, Alone, Recover, Call, Defer, DeferLit, InFrame, InCell, Func, Ended, Panicked, prim}
use Rattle.go_kernel.proofs.Programs.{int, num, none, seq, op2, say, raise, loc, tmp, set, with_var, said, reason, named, doing, lit, defer_lit, run, run_with}

abbrev numbers : List ℕ → Event
numbers ns = said (map int ns)

abbrev call : List ℕ → Term
call n = Call (named n) none

-- ---- order

-- the last added runs first, with the operands as they were at its defer statement
last_first : run (with_var (codes "x") (num 5) (seq (DeferLit (codes "y" ∷ []) (loc (codes "x")) (lit (say (loc (codes "y"))))) (seq (set (codes "x") (num 7)) (seq (DeferLit (codes "y" ∷ []) (loc (codes "x")) (lit (say (loc (codes "y"))))) (raise 9))))) 1 ≡ Panicked (reason 9) (numbers (5 ∷ []) ∷ numbers (7 ∷ []) ∷ [])
unfolding prim
last_first = refl

-- for i := 0; i <= 3; i++ { defer print(i) } prints 3 2 1 0 before the function ends
abbrev i : Term
i = loc (codes "i")

in_a_loop : run (with_var (codes "i") (num 0) (Loop (op2 (Compare LessOrEqual) i (num 3)) (seq (DeferLit (temporary 0 ∷ []) i (Prim (Emit Print) (tmp 0))) (set (codes "i") (op2 (Arith Add Int) i (num 1)))))) 5 ≡ Ended (map (λ n. record { printer = Print; values = int n ∷ [] }) (0 ∷ 1 ∷ 2 ∷ 3 ∷ []))
unfolding prim
in_a_loop = refl

-- for i := 0; i < 3; i++ { defer func() { println(i) }() }: each turn has its own i, in a cell of its own, so 2 1 0 are printed
abbrev own_variable : Term
own_variable = Let (codes "i" ∷ []) (tmp 0) (in_cells (codes "i" ∷ []) (seq (defer_lit (say (Prim (Load Unchecked) i))) (Set (temporary 0 ∷ []) (op2 (Arith Add Int) (Prim (Load Unchecked) i) (num 1)))))

literals_in_a_loop : run (Let (temporary 0 ∷ []) (num 0) (Loop (op2 (Compare Less) (tmp 0) (num 3)) own_variable)) 4 ≡ Ended (numbers (0 ∷ []) ∷ numbers (1 ∷ []) ∷ numbers (2 ∷ []) ∷ [])
unfolding prim
literals_in_a_loop = refl

-- operands are evaluated at the defer statement, and a panic there adds no call
panics_at_once : run (seq (defer_lit (say (num 1))) (seq (DeferLit (codes "y" ∷ []) (op2 (Divide Checked Quotient Int) (num 1) (num 0)) (lit (say (num 2)))) (say (num 3)))) 1 ≡ Panicked (runtime_error (codes "divide")) (numbers (1 ∷ []) ∷ [])
unfolding prim
panics_at_once = refl

-- a declared function is deferred with its arguments
of_a_function : run_with (seq (Defer (named (codes "f")) (num 4)) (say (num 3))) ((named (codes "f"), doing (codes "x" ∷ []) (say (loc (codes "x")))) ∷ []) 1 ≡ Ended (numbers (4 ∷ []) ∷ numbers (3 ∷ []) ∷ [])
unfolding prim
of_a_function = refl

-- deferred calls run on return too, each once, also where a called literal ends
of_a_literal : run (seq (Alone (lit (seq (defer_lit (say (num 2))) (seq (say (num 1)) (Leave return_label))))) (say (num 3))) 1 ≡ Ended (numbers (3 ∷ []) ∷ numbers (2 ∷ []) ∷ numbers (1 ∷ []) ∷ [])
unfolding prim
of_a_literal = refl

-- ---- named results

-- func f() (result int) { defer func() { result *= 7 }(); return 6 } gives 42: the result lives in a cell, which is read after the deferred call
abbrev result : Term
result = loc (codes "result")

abbrev times_seven : Func
times_seven = record { params = []; slots = codes "result" ∷ []; zeros = int 0 ∷ []; body = in_cells (codes "result" ∷ []) (seq (defer_lit (op2 (Save Unchecked) result (op2 (Arith Mul Int) (Prim (Load Unchecked) result) (num 7)))) (seq (op2 (Save Unchecked) result (num 6)) (Leave return_label))); results = InCell (codes "result") ∷ [] }

forty_two : run_with (say (call (codes "f"))) ((named (codes "f"), times_seven) ∷ []) 2 ≡ Ended (numbers (42 ∷ []) ∷ [])
unfolding prim
forty_two = refl

-- after a recovered panic the function gives what its results hold: func g() (result int) { defer func() { recover() }(); result = 3; panic(9) }
abbrev recovering : Func
recovering = record { params = []; slots = codes "result" ∷ []; zeros = int 0 ∷ []; body = seq (defer_lit (seq Recover none)) (seq (set (codes "result") (num 3)) (raise 9)); results = InFrame (codes "result") ∷ [] }

result_after_recovery : run_with (say (call (codes "g"))) ((named (codes "g"), recovering) ∷ []) 2 ≡ Ended (numbers (3 ∷ []) ∷ [])
unfolding prim
result_after_recovery = refl

-- ---- panics that take the place of one another

second_panic : run (seq (defer_lit (raise 2)) (raise 1)) 1 ≡ Panicked (reason 2) []
unfolding prim
second_panic = refl

-- the other deferred calls run all the same, and see the new panic
goes_on : run (seq (defer_lit (say Recover)) (seq (defer_lit (raise 2)) (seq (defer_lit (say (num 5))) (raise 1)))) 1 ≡ Ended (said (Truth true ∷ []) ∷ numbers (5 ∷ []) ∷ [])
unfolding prim
goes_on = refl

-- a deferred call may panic after a normal end
panic_at_end : run (seq (defer_lit (raise 4)) (say (num 1))) 1 ≡ Panicked (reason 4) (numbers (1 ∷ []) ∷ [])
unfolding prim
panic_at_end = refl

-- a panic in a deferred call that this call recovers itself leaves the first one
inner_recovery : run (seq (defer_lit (seq (defer_lit (say Recover)) (raise 2))) (raise 1)) 2 ≡ Panicked (reason 1) (said (Truth true ∷ []) ∷ [])
unfolding prim
inner_recovery = refl

-- ---- recover

recovered : run (seq (defer_lit (say Recover)) (raise 9)) 1 ≡ Ended (said (Truth true ∷ []) ∷ [])
unfolding prim
recovered = refl

-- it finds nothing the second time, nor where nothing panics
only_once : run (seq (say Recover) (seq (defer_lit (say (Both Recover Recover))) (raise 9))) 1 ≡ Ended (said (Truth true ∷ Truth false ∷ []) ∷ said (Truth false ∷ []) ∷ [])
unfolding prim
only_once = refl

-- defer Guard(), where Guard recovers, stops the panic
abbrev guard : FuncName × Func
guard = (named (codes "Guard"), doing [] (say Recover))

guarded : run_with (seq (Defer (named (codes "Guard")) none) (raise 9)) (guard ∷ []) 1 ≡ Ended (said (Truth true ∷ []) ∷ [])
unfolding prim
guarded = refl

-- a deferred literal that calls Guard doesn't, and neither does one that calls a literal
called_guard : run_with (seq (defer_lit (call (codes "Guard"))) (raise 9)) (guard ∷ []) 2 ≡ Panicked (reason 9) (said (Truth false ∷ []) ∷ [])
unfolding prim
called_guard = refl

called_literal : run (seq (defer_lit (Alone (lit (say Recover)))) (raise 9)) 1 ≡ Panicked (reason 9) (said (Truth false ∷ []) ∷ [])
unfolding prim
called_literal = refl

-- nor a call that the deferred literal defers, since this literal isn't panicking
deferred_twice : run (seq (defer_lit (defer_lit (say Recover))) (raise 9)) 2 ≡ Panicked (reason 9) (said (Truth false ∷ []) ∷ [])
unfolding prim
deferred_twice = refl

-- a called literal leaves the panic pending that was pending around it
still_pending : run (seq (defer_lit (seq (Alone (lit (say Recover))) (say Recover))) (raise 9)) 1 ≡ Ended (said (Truth true ∷ []) ∷ said (Truth false ∷ []) ∷ [])
unfolding prim
still_pending = refl
