-- Checks: maps keep the order of insertion, and a range over a map draws from the choices (Go specification, "Map types", "Index expressions", "Deletion of map elements", "For statements with range clause").
use Rattle.std.proofs.Common.{◌≡◌, refl}
use Rattle.std.specs.Prelude.{ℕ, List, [], ◌∷◌, map, true, false, codes}
use Rattle.go_kernel.specs.Kernel.{temporary, Truth, Nil, Int, Arith, Add, Compare, Equal, MapLit, MakeMap, MapLen, MapSet, MapDelete, MapGet, MapTry, RangeMap, RangeNext, Event, Term, Vals, Set, Both, Prim, If, Let, Loop, Shown, Ended, prim}
use Rattle.go_kernel.proofs.Programs.{int, minus, num, none, seq, all_of, op2, say, loc, tmp, set, with_var, said, run, run_choosing}

abbrev numbers : List ℕ → Event
numbers ns = said (map int ns)

abbrev m : Term
m = loc (codes "m")

abbrev k : Term
k = loc (codes "k")

-- map[int]int{1: 10, 2: 20, 3: 30}
abbrev three : Term
three = Prim MapLit (Vals (map int (1 ∷ 10 ∷ 2 ∷ 20 ∷ 3 ∷ 30 ∷ [])))

abbrev get : Term → Term → Term
get m k = op2 (MapGet (int 0)) m k

abbrev put : ℕ → ℕ → Term
put k v = Prim MapSet (all_of (m ∷ num k ∷ num v ∷ []))

abbrev delete : Term → Term
delete k = op2 MapDelete m k

-- for k, v := range m { body }, where the loop's variables are new in each turn
abbrev range_over : Term → Term → Term
range_over m body =
    Let (temporary 0 ∷ []) m (Let (temporary 1 ∷ temporary 2 ∷ temporary 3 ∷ []) (Both (Prim RangeMap (tmp 0)) (Vals (Nil ∷ Nil ∷ [])))
    (Loop (Let (temporary 4 ∷ temporary 5 ∷ temporary 6 ∷ temporary 7 ∷ []) (op2 RangeNext (tmp 0) (tmp 1)) (Both (Set (temporary 1 ∷ temporary 2 ∷ temporary 3 ∷ []) (all_of (tmp 7 ∷ tmp 5 ∷ tmp 6 ∷ []))) (tmp 4)))
    (Let (codes "k" ∷ codes "v" ∷ []) (Both (tmp 2) (tmp 3)) body)))

abbrev say_entry : Term
say_entry = say (Both k (loc (codes "v")))

abbrev say_map : Term
say_map = range_over m say_entry

-- with m := map[int]int{1: 10, 2: 20, 3: 30}
abbrev with_map : Term → List ℕ → Shown
with_map t choices = run_choosing (with_var (codes "m") three t) choices 9

-- ---- elements

gets : with_map (say (all_of (get m (num 2) ∷ get m (num 4) ∷ op2 (MapTry (int 0)) m (num 3) ∷ op2 (MapTry (int 0)) m (num 5) ∷ Prim MapLen m ∷ []))) [] ≡ Ended (said (int 20 ∷ int 0 ∷ int 30 ∷ Truth true ∷ int 0 ∷ Truth false ∷ int 3 ∷ []) ∷ [])
unfolding prim
gets = refl

-- an overwritten key keeps its place, a deleted one that comes again stands last
places : with_map (seq (put 1 11) (seq (delete (num 2)) (seq (put 2 22) (seq (delete (num 7)) say_map)))) [] ≡ Ended (numbers (2 ∷ 22 ∷ []) ∷ numbers (3 ∷ 30 ∷ []) ∷ numbers (1 ∷ 11 ∷ []) ∷ [])
unfolding prim
places = refl

-- two names of a map share it; a map literal with a key twice has the last value
shared : with_map (with_var (codes "n") m (seq (put 4 40) (say (all_of (Prim MapLen (loc (codes "n")) ∷ get (Prim MapLit (Vals (map int (1 ∷ 2 ∷ 1 ∷ 3 ∷ [])))) (num 1) ∷ []))))) [] ≡ Ended (numbers (4 ∷ 3 ∷ []) ∷ [])
unfolding prim
shared = refl

-- make(map[int]int, n) where n is negative is an empty map that isn't nil
made : run (with_var (codes "m") (Prim MakeMap (Vals (minus 1 ∷ []))) (say (all_of (Prim MapLen m ∷ op2 (Compare Equal) m (Vals (Nil ∷ [])) ∷ [])))) 0 ≡ Ended (said (int 0 ∷ Truth false ∷ []) ∷ [])
unfolding prim
made = refl

-- m[k] += 5, and m[k]++ of a key that isn't there
updated : with_map (seq (Let (temporary 0 ∷ temporary 1 ∷ []) (Both m (num 2)) (Prim MapSet (all_of (tmp 0 ∷ tmp 1 ∷ op2 (Arith Add Int) (get (tmp 0) (tmp 1)) (num 5) ∷ [])))) (seq (Let (temporary 0 ∷ temporary 1 ∷ []) (Both m (num 9)) (Prim MapSet (all_of (tmp 0 ∷ tmp 1 ∷ op2 (Arith Add Int) (get (tmp 0) (tmp 1)) (num 1) ∷ [])))) (say (all_of (get m (num 2) ∷ get m (num 9) ∷ []))))) [] ≡ Ended (numbers (25 ∷ 1 ∷ []) ∷ [])
unfolding prim
updated = refl

-- ---- range

-- nil has no turns
over_nil : run (range_over (Vals (Nil ∷ [])) say_entry) 1 ≡ Ended []
unfolding prim
over_nil = refl

-- 2, then 0 and 0: the third of three keys, the first of two, and the last
by_choices : with_map say_map (2 ∷ 0 ∷ 0 ∷ []) ≡ Ended (numbers (2 ∷ 20 ∷ []) ∷ numbers (1 ∷ 10 ∷ []) ∷ numbers (3 ∷ 30 ∷ []) ∷ [])
unfolding prim
by_choices = refl

-- a choice counts by its remainder, and the end draws nothing: two ranges draw three choices each
by_remainders : with_map (seq say_map say_map) (4 ∷ 3 ∷ 5 ∷ 1 ∷ []) ≡ Ended (numbers (3 ∷ 30 ∷ []) ∷ numbers (1 ∷ 10 ∷ []) ∷ numbers (2 ∷ 20 ∷ []) ∷ numbers (1 ∷ 10 ∷ []) ∷ numbers (3 ∷ 30 ∷ []) ∷ numbers (2 ∷ 20 ∷ []) ∷ [])
unfolding prim
by_remainders = refl

-- t := 0; for _, v := range m { t += v }; println(t): the sum is the same in each order
abbrev sum : Term
sum = with_var (codes "t") (num 0) (seq (range_over m (set (codes "t") (op2 (Arith Add Int) (loc (codes "t")) (loc (codes "v"))))) (say (loc (codes "t"))))

sum_in_order : with_map sum [] ≡ Ended (numbers (60 ∷ []) ∷ [])
unfolding prim
sum_in_order = refl

sum_turned : with_map sum (2 ∷ 1 ∷ 0 ∷ []) ≡ Ended (numbers (60 ∷ []) ∷ [])
unfolding prim
sum_turned = refl

-- an entry that is removed before it is reached doesn't come: at key 1, delete(m, 2)
abbrev at_one : Term → Term
at_one t = range_over m (seq say_entry (If (op2 (Compare Equal) k (num 1)) t none))

removed : with_map (at_one (delete (num 2))) [] ≡ Ended (numbers (3 ∷ 30 ∷ []) ∷ numbers (1 ∷ 10 ∷ []) ∷ [])
unfolding prim
removed = refl

-- one that is added may come or not, by the choice that is drawn when no key is owed any more
added : with_map (at_one (put 4 40)) [] ≡ Ended (numbers (4 ∷ 40 ∷ []) ∷ numbers (3 ∷ 30 ∷ []) ∷ numbers (2 ∷ 20 ∷ []) ∷ numbers (1 ∷ 10 ∷ []) ∷ [])
unfolding prim
added = refl

skipped : with_map (at_one (put 4 40)) (0 ∷ 0 ∷ 0 ∷ 1 ∷ []) ≡ Ended (numbers (3 ∷ 30 ∷ []) ∷ numbers (2 ∷ 20 ∷ []) ∷ numbers (1 ∷ 10 ∷ []) ∷ [])
unfolding prim
skipped = refl

-- a key that is removed and added in one turn is still owed: with 5 drawn at the end, key 2 comes all the same
still_owed : with_map (at_one (seq (delete (num 2)) (put 2 22))) (0 ∷ 0 ∷ 5 ∷ []) ≡ Ended (numbers (2 ∷ 22 ∷ []) ∷ numbers (3 ∷ 30 ∷ []) ∷ numbers (1 ∷ 10 ∷ []) ∷ [])
unfolding prim
still_owed = refl

-- one that came doesn't come again after it was removed and added
not_again : with_map (at_one (seq (delete (num 1)) (put 1 11))) [] ≡ Ended (numbers (3 ∷ 30 ∷ []) ∷ numbers (2 ∷ 20 ∷ []) ∷ numbers (1 ∷ 10 ∷ []) ∷ [])
unfolding prim
not_again = refl

-- an element is read when its turn begins
changed : with_map (at_one (put 3 33)) [] ≡ Ended (numbers (3 ∷ 33 ∷ []) ∷ numbers (2 ∷ 20 ∷ []) ∷ numbers (1 ∷ 10 ∷ []) ∷ [])
unfolding prim
changed = refl
