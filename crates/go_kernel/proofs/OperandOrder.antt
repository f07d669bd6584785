-- Checks: operands go from left to right, the stores of an assignment come after all of them (Go specification, "Order of evaluation", "Assignment statements", "Logical operators").
use Rattle.std.proofs.Common.{◌≡◌, refl}
use Rattle.std.specs.Prelude.{ℕ, List, [], ◌∷◌, false, None, codes}
use Rattle.go_kernel.specs.Kernel.{FuncName, temporary, break_label, Truth, Str, Nil, runtime_error, Int, Arith, Add, Mul, Divide, Quotient, Compare, Less, Len, Address, Alloc, Load, Save, Checked, Unchecked, Event, Term, Vals, Both, Prim, If, Let, Loop, Leave, Catch, Call, Func, Ended, Panicked, prim}
use Rattle.go_kernel.proofs.Programs.{int, num, str, none, seq, all_of, op2, say, loc, tmp, set, with_var, elem, set_elem, ints, return_, said, named, giving, defer_lit, run, run_with}

-- a function that says its name and gives a number
abbrev loud : List ℕ → ℕ → FuncName × Func
loud n v = (named n, giving [] (seq (say (str n)) (return_ (num v))))

abbrev heard : List ℕ → Event
heard n = said (Str n ∷ [])

abbrev call : List ℕ → Term
call n = Call (named n) none

-- ---- operands: println(a() + b()*c())

left_to_right : run_with (say (op2 (Arith Add Int) (call (codes "a")) (op2 (Arith Mul Int) (call (codes "b")) (call (codes "c"))))) (loud (codes "a") 1 ∷ loud (codes "b") 2 ∷ loud (codes "c") 3 ∷ []) 1 ≡ Ended (said (int 7 ∷ []) ∷ heard (codes "c") ∷ heard (codes "b") ∷ heard (codes "a") ∷ [])
unfolding prim
left_to_right = refl

-- false && a() doesn't call a; true && a() == ..
not_called : run_with (say (If (Vals (Truth false ∷ [])) (call (codes "a")) (Vals (Truth false ∷ [])))) (loud (codes "a") 1 ∷ []) 1 ≡ Ended (said (Truth false ∷ []) ∷ [])
unfolding prim
not_called = refl

-- ---- assignments, with x := []int{1, 2, 3} and i := 0

abbrev begin : Term → Term
begin t = with_var (codes "x") (ints (1 ∷ 2 ∷ 3 ∷ [])) (with_var (codes "i") (num 0) t)

abbrev x : Term
x = loc (codes "x")

abbrev i : Term
i = loc (codes "i")

-- println(i, x[0], x[1], x[2])
abbrev say_all : Term
say_all = say (all_of (i ∷ elem x (num 0) ∷ elem x (num 1) ∷ elem x (num 2) ∷ []))

abbrev all_said : ℕ → ℕ → ℕ → ℕ → Event
all_said i a b c = said (int i ∷ int a ∷ int b ∷ int c ∷ [])

-- i, x[i] = 1, 9 sets i to 1 and x[0] to 9
indices_first : run (begin (seq (Let (temporary 0 ∷ temporary 1 ∷ []) (Both x i) (Let (temporary 2 ∷ temporary 3 ∷ []) (Both (num 1) (num 9)) (seq (set (codes "i") (tmp 2)) (set_elem (tmp 0) (tmp 1) (tmp 3))))) say_all)) 0 ≡ Ended (all_said 1 9 2 3 ∷ [])
unfolding prim
indices_first = refl

-- x[i], i = 9, 1 sets x[0] to 9 and i to 1
element_first : run (begin (seq (Let (temporary 0 ∷ temporary 1 ∷ []) (Both x i) (Let (temporary 2 ∷ temporary 3 ∷ []) (Both (num 9) (num 1)) (seq (set_elem (tmp 0) (tmp 1) (tmp 2)) (set (codes "i") (tmp 3))))) say_all)) 0 ≡ Ended (all_said 1 9 2 3 ∷ [])
unfolding prim
element_first = refl

-- two elements x[a], x[b] = v, w
abbrev pair_set : ℕ → ℕ → ℕ → ℕ → Term
pair_set a b v w = Let (temporary 0 ∷ temporary 1 ∷ temporary 2 ∷ temporary 3 ∷ []) (all_of (x ∷ num a ∷ x ∷ num b ∷ [])) (Let (temporary 4 ∷ temporary 5 ∷ []) (Both (num v) (num w)) (seq (set_elem (tmp 0) (tmp 1) (tmp 4)) (set_elem (tmp 2) (tmp 3) (tmp 5))))

-- x[0], x[0] = 1, 2 leaves 2 there
second_store_last : run (begin (seq (pair_set 0 0 1 2) say_all)) 0 ≡ Ended (all_said 0 2 2 3 ∷ [])
unfolding prim
second_store_last = refl

-- x[1], x[3] = 4, 5 sets x[1] to 4, and then panics setting x[3]
check_at_store : run (begin (seq (defer_lit say_all) (pair_set 1 3 4 5))) 1 ≡ Panicked (runtime_error (codes "index")) (all_said 0 1 4 3 ∷ [])
unfolding prim
check_at_store = refl

-- x[2], p.f = 6, 7 sets x[2] to 6, and then panics where p is nil
nil_at_store : run (begin (seq (defer_lit say_all) (Let (temporary 0 ∷ temporary 1 ∷ temporary 2 ∷ []) (all_of (x ∷ num 2 ∷ Vals (Nil ∷ []) ∷ [])) (Let (temporary 3 ∷ temporary 4 ∷ []) (Both (num 6) (num 7)) (seq (set_elem (tmp 0) (tmp 1) (tmp 3)) (op2 (Save Unchecked) (Prim (Address Checked (0 ∷ [])) (tmp 2)) (tmp 4))))))) 1 ≡ Panicked (runtime_error (codes "nil pointer")) (all_said 0 1 2 6 ∷ [])
unfolding prim
nil_at_store = refl

-- x[0], x[1] = x[1], x[0] exchanges them
exchanged : run (begin (seq (Let (temporary 0 ∷ temporary 1 ∷ temporary 2 ∷ temporary 3 ∷ []) (all_of (x ∷ num 0 ∷ x ∷ num 1 ∷ [])) (Let (temporary 4 ∷ temporary 5 ∷ []) (Both (elem x (num 1)) (elem x (num 0))) (seq (set_elem (tmp 0) (tmp 1) (tmp 4)) (set_elem (tmp 2) (tmp 3) (tmp 5))))) say_all)) 0 ≡ Ended (all_said 0 2 1 3 ∷ [])
unfolding prim
exchanged = refl

-- the operands on the left, then the values: x[a()], i = b(), c()
lefts_then_rights : run_with (begin (seq (Let (temporary 0 ∷ temporary 1 ∷ []) (Both x (call (codes "a"))) (Let (temporary 2 ∷ temporary 3 ∷ []) (Both (call (codes "b")) (call (codes "c"))) (seq (set_elem (tmp 0) (tmp 1) (tmp 2)) (set (codes "i") (tmp 3))))) say_all)) (loud (codes "a") 2 ∷ loud (codes "b") 8 ∷ loud (codes "c") 9 ∷ []) 1 ≡ Ended (all_said 9 1 2 8 ∷ heard (codes "c") ∷ heard (codes "b") ∷ heard (codes "a") ∷ [])
unfolding prim
lefts_then_rights = refl

-- i = 2; for i, x[i] = range x { break } leaves i at 0 and x[2] at x[0]
range_assigns : run (begin (seq (set (codes "i") (num 2)) (seq
    (Let (temporary 0 ∷ temporary 1 ∷ []) (Both x (num 0)) (Catch (break_label None) (Loop (op2 (Compare Less) (tmp 1) (Prim Len (tmp 0)))
    (seq (Let (temporary 2 ∷ temporary 3 ∷ []) (Both x i) (Let (temporary 4 ∷ temporary 5 ∷ []) (Both (tmp 1) (elem (tmp 0) (tmp 1))) (seq (set (codes "i") (tmp 4)) (set_elem (tmp 2) (tmp 3) (tmp 5))))) (Leave (break_label None))))))
    say_all))) 1 ≡ Ended (all_said 0 1 2 1 ∷ [])
unfolding prim
range_assigns = refl

-- ---- x op= y: x is read with its checks before y is evaluated, and the store comes last

-- with v := new(int) and *v = 1, v's variable is read before 'bump' sets it to 10: *v += bump(v) gives 6
abbrev bump : FuncName × Func
bump = (named (codes "bump"), giving (codes "v" ∷ []) (seq (op2 (Save Checked) (loc (codes "v")) (num 10)) (return_ (num 5))))

read_before : run_with (with_var (codes "v") (Prim Alloc (num 1)) (seq (Let (temporary 0 ∷ []) (loc (codes "v")) (op2 (Save Checked) (tmp 0) (op2 (Arith Add Int) (Prim (Load Checked) (tmp 0)) (Call (named (codes "bump")) (loc (codes "v")))))) (say (Prim (Load Checked) (loc (codes "v")))))) (bump ∷ []) 1 ≡ Ended (said (int 6 ∷ []) ∷ [])
unfolding prim
read_before = refl

-- x[5] += a() panics before a is called
check_before : run_with (begin (Let (temporary 0 ∷ temporary 1 ∷ []) (Both x (num 5)) (set_elem (tmp 0) (tmp 1) (op2 (Arith Add Int) (elem (tmp 0) (tmp 1)) (call (codes "a")))))) (loud (codes "a") 1 ∷ []) 1 ≡ Panicked (runtime_error (codes "index")) []
unfolding prim
check_before = refl

-- x[0] /= 0 panics and stores nothing
no_store_after_panic : run (begin (seq (defer_lit say_all) (Let (temporary 0 ∷ temporary 1 ∷ []) (Both x (num 0)) (set_elem (tmp 0) (tmp 1) (op2 (Divide Checked Quotient Int) (elem (tmp 0) (tmp 1)) (num 0)))))) 1 ≡ Panicked (runtime_error (codes "divide")) (all_said 0 1 2 3 ∷ [])
unfolding prim
no_store_after_panic = refl
