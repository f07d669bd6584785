-- Checks: labels, returns, and cuts at each small budget (Go specification, "Break statements", "Continue statements", "Labeled statements", "Return statements", "For statements", "Calls").
use Rattle.std.proofs.Common.{◌≡◌, refl}
use Rattle.std.specs.Prelude.{ℕ, List, [], ◌∷◌, map, true, Option, None, Some, codes}
use Rattle.go_kernel.specs.Kernel.{named_result, Name, FuncName, return_label, break_label, continue_label, Int, Arith, Add, Sub, Mul, Compare, Equal, Less, Event, Term, Set, Both, If, Let, Loop, Leave, Catch, Within, Alone, Call, Defer, InFrame, Func, Shown, Running, Ended, prim, free_shows}
use Rattle.go_kernel.proofs.Programs.{int, num, none, seq, op2, say, loc, set, with_var, return_, yes, said, named, giving, lit, defer_lit, with_main, main, run, run_with}

abbrev numbers : List ℕ → Event
numbers ns = said (map int ns)

abbrev plus_one : List ℕ → Term
plus_one x = set x (op2 (Arith Add Int) (loc x) (num 1))

-- for x := 0; x < n; x++ { body } with a label
abbrev counted : Option Name → List ℕ → ℕ → Term → Term
counted l x n body = with_var x (num 0) (Catch (break_label l) (Catch (break_label None) (Loop (op2 (Compare Less) (loc x) (num n)) (seq (Catch (continue_label l) (Catch (continue_label None) body)) (plus_one x)))))

abbrev i : Term
i = loc (codes "i")

abbrev j : Term
j = loc (codes "j")

abbrev when : Term → ℕ → Term → Term
when x n t = If (op2 (Compare Equal) x (num n)) t none

abbrev outer : Option Name
outer = Some (codes "L")

-- ---- labels: two loops, where at i and j both 1 the inner body leaves

abbrev loops : Term → Term
loops t = counted outer (codes "i") 3 (counted None (codes "j") 2 (seq (when i 1 (when j 1 t)) (say (Both i j))))

break_inner : run (loops (Leave (break_label None))) 9 ≡ Ended (numbers (2 ∷ 1 ∷ []) ∷ numbers (2 ∷ 0 ∷ []) ∷ numbers (1 ∷ 0 ∷ []) ∷ numbers (0 ∷ 1 ∷ []) ∷ numbers (0 ∷ 0 ∷ []) ∷ [])
unfolding prim
break_inner = refl

break_outer : run (loops (Leave (break_label outer))) 9 ≡ Ended (numbers (1 ∷ 0 ∷ []) ∷ numbers (0 ∷ 1 ∷ []) ∷ numbers (0 ∷ 0 ∷ []) ∷ [])
unfolding prim
break_outer = refl

continue_outer : run (loops (Leave (continue_label outer))) 9 ≡ Ended (numbers (2 ∷ 1 ∷ []) ∷ numbers (2 ∷ 0 ∷ []) ∷ numbers (1 ∷ 0 ∷ []) ∷ numbers (0 ∷ 1 ∷ []) ∷ numbers (0 ∷ 0 ∷ []) ∷ [])
unfolding prim
continue_outer = refl

continue_inner : run (counted None (codes "i") 3 (seq (when i 1 (Leave (continue_label None))) (say i))) 9 ≡ Ended (numbers (2 ∷ []) ∷ numbers (0 ∷ []) ∷ [])
unfolding prim
continue_inner = refl

-- a local of a block is gone after a jump out of it
block_left : run (with_var (codes "i") (num 7) (seq (counted None (codes "j") 2 (with_var (codes "i") (num 8) (Leave (break_label None)))) (say i))) 1 ≡ Ended (numbers (7 ∷ []) ∷ [])
unfolding prim
block_left = refl

-- ---- return

-- out of a loop, with its operand evaluated first
abbrev first_above : Func
first_above = giving (codes "n" ∷ []) (seq (counted None (codes "i") 9 (If (op2 (Compare Less) (loc (codes "n")) i) (return_ i) none)) (return_ (num 0)))

returns : run_with (say (Call (named (codes "f")) (num 2))) ((named (codes "f"), first_above) ∷ []) 5 ≡ Ended (numbers (3 ∷ []) ∷ [])
unfolding prim
returns = refl

-- a called literal's return ends the literal alone
literal_returns : run (seq (Alone (lit (seq (say (num 1)) (seq (Leave return_label) (say (num 2)))))) (say (num 3))) 0 ≡ Ended (numbers (3 ∷ []) ∷ numbers (1 ∷ []) ∷ [])
unfolding prim
literal_returns = refl

-- func c() (r int) { r := 5; return r + 2 } gives 7, though another r hides the result
abbrev hiding : Func
hiding = record { params = []; slots = named_result (codes "r") ∷ []; zeros = int 0 ∷ []; body = with_var (codes "r") (num 5) (seq (Set (named_result (codes "r") ∷ []) (op2 (Arith Add Int) (loc (codes "r")) (num 2))) (Leave return_label)); results = InFrame (named_result (codes "r")) ∷ [] }

returns_past_hiding : run_with (say (Call (named (codes "c")) none)) ((named (codes "c"), hiding) ∷ []) 1 ≡ Ended (numbers (7 ∷ []) ∷ [])
unfolding prim
returns_past_hiding = refl

-- return b, a of two named results takes both values first
abbrev swap : Func
swap = record { params = codes "a" ∷ codes "b" ∷ []; slots = codes "x" ∷ codes "y" ∷ []; zeros = int 0 ∷ int 0 ∷ []; body = seq (Set (codes "x" ∷ codes "y" ∷ []) (Both (loc (codes "a")) (loc (codes "b")))) (seq (Set (codes "x" ∷ codes "y" ∷ []) (Both (loc (codes "y")) (loc (codes "x")))) (Leave return_label)); results = InFrame (codes "x") ∷ InFrame (codes "y") ∷ [] }

returns_two : run_with (say (Call (named (codes "f")) (Both (num 1) (num 2)))) ((named (codes "f"), swap) ∷ []) 1 ≡ Ended (numbers (2 ∷ 1 ∷ []) ∷ [])
unfolding prim
returns_two = refl

-- a call with several results is the whole list of arguments of another
spread : run_with (say (Call (named (codes "f")) (Call (named (codes "f")) (Both (num 1) (num 2))))) ((named (codes "f"), swap) ∷ []) 1 ≡ Ended (numbers (1 ∷ 2 ∷ []) ∷ [])
unfolding prim
spread = refl

-- ---- budgets

-- func fact(n int) int { if n == 0 { return 1 }; return n * fact(n-1) }
abbrev n : Term
n = loc (codes "n")

abbrev fact : FuncName × Func
fact = (named (codes "fact"), giving (codes "n" ∷ []) (seq (when n 0 (return_ (num 1))) (return_ (op2 (Arith Mul Int) n (Call (named (codes "fact")) (op2 (Arith Sub Int) n (num 1)))))))

-- println(4); println(fact(2)): the calls nest three deep, so budgets below 3 cut
abbrev two_lines : Term
two_lines = seq (say (num 4)) (say (Call (named (codes "fact")) (num 2)))

at_0 : run_with two_lines (fact ∷ []) 0 ≡ Running (numbers (4 ∷ []) ∷ [])
unfolding prim
at_0 = refl

at_1 : run_with two_lines (fact ∷ []) 1 ≡ Running (numbers (4 ∷ []) ∷ [])
unfolding prim
at_1 = refl

at_2 : run_with two_lines (fact ∷ []) 2 ≡ Running (numbers (4 ∷ []) ∷ [])
unfolding prim
at_2 = refl

at_3 : run_with two_lines (fact ∷ []) 3 ≡ Ended (numbers (2 ∷ []) ∷ numbers (4 ∷ []) ∷ [])
unfolding prim
at_3 = refl

-- what comes after a call goes on at the budget before it: three calls after one another end at budget 1
one_by_one : run_with (seq (say (Call (named (codes "fact")) (num 0))) (say (Both (Call (named (codes "fact")) (num 0)) (Call (named (codes "fact")) (num 0))))) (fact ∷ []) 1 ≡ Ended (numbers (1 ∷ 1 ∷ []) ∷ numbers (1 ∷ []) ∷ [])
unfolding prim
one_by_one = refl

-- arguments are evaluated before a call is cut
cut_after_arguments : run_with (say (Call (named (codes "fact")) (Alone (Within (seq (say (num 8)) none) [])))) (fact ∷ []) 0 ≡ Running (numbers (8 ∷ []) ∷ [])
unfolding prim
cut_after_arguments = refl

-- each turn of a loop, and all that follows in the loop, costs one; what comes after the loop costs none of it
forever : run (Loop yes (say (num 3))) 3 ≡ Running (numbers (3 ∷ []) ∷ numbers (3 ∷ []) ∷ numbers (3 ∷ []) ∷ [])
unfolding prim
forever = refl

two_turns : run (seq (counted None (codes "i") 2 (say i)) (counted None (codes "i") 2 (say i))) 2 ≡ Ended (numbers (1 ∷ []) ∷ numbers (0 ∷ []) ∷ numbers (1 ∷ []) ∷ numbers (0 ∷ []) ∷ [])
unfolding prim
two_turns = refl

one_turn : run (counted None (codes "i") 2 (say i)) 1 ≡ Running (numbers (0 ∷ []) ∷ [])
unfolding prim
one_turn = refl

no_turn : run (counted None (codes "i") 2 (say i)) 0 ≡ Running []
unfolding prim
no_turn = refl

-- a loop without turns costs nothing
without_turns : run (seq (counted None (codes "i") 0 (say i)) (say (num 5))) 0 ≡ Ended (numbers (5 ∷ []) ∷ [])
unfolding prim
without_turns = refl

-- a deferred call costs one, and a body that has none may end at budget 0
deferred_at_0 : run (seq (defer_lit (say (num 2))) (say (num 1))) 0 ≡ Running (numbers (1 ∷ []) ∷ [])
unfolding prim
deferred_at_0 = refl

deferred_at_1 : run (seq (defer_lit (say (num 2))) (say (num 1))) 1 ≡ Ended (numbers (2 ∷ []) ∷ numbers (1 ∷ []) ∷ [])
unfolding prim
deferred_at_1 = refl

-- a called literal costs nothing
literal_at_0 : run (say (Let (codes "x" ∷ []) (num 4) (Alone (Within (set (codes "x") (op2 (Arith Add Int) (loc (codes "x")) (num 1))) (InFrame (codes "x") ∷ []))))) 0 ≡ Ended (numbers (5 ∷ []) ∷ [])
unfolding prim
literal_at_0 = refl

-- ---- free prices: a chain of two free calls costs nothing where A is 2, and a third is charged

abbrev g : FuncName × Func
g = (named (codes "g"), giving (codes "n" ∷ []) (return_ (op2 (Arith Add Int) n (num 1))))

abbrev h : FuncName × Func
h = (named (codes "h"), giving (codes "n" ∷ []) (return_ (Call (named (codes "g")) (op2 (Arith Mul Int) n (num 2)))))

abbrev free : ℕ → Term → ℕ → Shown
free A b n = free_shows (with_main b (g ∷ h ∷ [])) (λ f. true) A none main [] n

charged : run_with (say (Call (named (codes "h")) (num 3))) (g ∷ h ∷ []) 1 ≡ Running []
unfolding prim
charged = refl

paid : run_with (say (Call (named (codes "h")) (num 3))) (g ∷ h ∷ []) 2 ≡ Ended (numbers (7 ∷ []) ∷ [])
unfolding prim
paid = refl

chain_free : free 2 (say (Call (named (codes "h")) (num 3))) 0 ≡ Ended (numbers (7 ∷ []) ∷ [])
unfolding prim
chain_free = refl

chain_too_long : free 1 (say (Call (named (codes "h")) (num 3))) 0 ≡ Running []
unfolding prim
chain_too_long = refl

-- a deferred call of a free function costs one all the same
deferred_charged : free 2 (Defer (named (codes "g")) (num 1)) 0 ≡ Running []
unfolding prim
deferred_charged = refl
