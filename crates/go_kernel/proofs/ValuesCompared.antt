-- Checks: comparisons of every comparable type, strings, structs, pointers and package variables (Go specification, "Comparison operators", "String concatenation", "Struct types", "Address operators", "Variables").
use Rattle.std.proofs.Common.{◌≡◌, refl}
use Rattle.std.specs.Prelude.{ℕ, List, [], ◌∷◌, Bool, true, false, codes}
use Rattle.go_kernel.specs.Kernel.{in_cells, Value, Truth, Str, Nil, Slice, Map, Empty, struct_of, Op, Compare, Equal, NotEqual, Less, LessOrEqual, Greater, GreaterOrEqual, Not, Concat, Len, Slicing, Field, SetField, StructLit, ReadGlobal, GlobalAddress, Load, Save, Address, Alloc, Checked, Unchecked, Event, Term, Vals, Both, Prim, Let, Ended, prim, shows}
use Rattle.go_kernel.proofs.Programs.{int, minus, num, str, none, seq, all_of, op2, say, loc, set, with_var, said, run, with_main, main}

abbrev tell : Op → Term → Term → Term
tell o a b = say (op2 o a b)

abbrev one : Value → Term
one v = Vals (v ∷ [])

abbrev truths : List Bool → Event
truths bs = said (all bs)
  where
    all : List Bool → List Value
    all [] = []
    all (b ∷ bs) = Truth b ∷ all bs

abbrev compared : Value → Value → Term
compared v w = say (all_of (op2 (Compare Equal) (one v) (one w) ∷ op2 (Compare NotEqual) (one v) (one w) ∷ []))

abbrev ordered : Value → Value → Term
ordered v w = say (all_of (op2 (Compare Less) (one v) (one w) ∷ op2 (Compare LessOrEqual) (one v) (one w) ∷ op2 (Compare Greater) (one v) (one w) ∷ op2 (Compare GreaterOrEqual) (one v) (one w) ∷ []))

-- ---- equality

numbers : run (seq (compared (int 3) (int 3)) (compared (minus 3) (int 3))) 0 ≡ Ended (truths (false ∷ true ∷ []) ∷ truths (true ∷ false ∷ []) ∷ [])
unfolding prim
numbers = refl

truth_values : run (seq (compared (Truth false) (Truth false)) (compared (Truth true) (Truth false))) 0 ≡ Ended (truths (false ∷ true ∷ []) ∷ truths (true ∷ false ∷ []) ∷ [])
unfolding prim
truth_values = refl

strings : run (seq (compared (Str (codes "ab")) (Str (codes "ab"))) (compared (Str (codes "ab")) (Str (codes "abc")))) 0 ≡ Ended (truths (false ∷ true ∷ []) ∷ truths (true ∷ false ∷ []) ∷ [])
unfolding prim
strings = refl

-- structs are equal where all fields are
structs : run (seq (compared (struct_of (int 1 ∷ Str (codes "a") ∷ [])) (struct_of (int 1 ∷ Str (codes "a") ∷ []))) (compared (struct_of (int 1 ∷ Str (codes "a") ∷ [])) (struct_of (int 1 ∷ Str (codes "b") ∷ [])))) 0 ≡ Ended (truths (false ∷ true ∷ []) ∷ truths (true ∷ false ∷ []) ∷ [])
unfolding prim
structs = refl

-- slices and maps with nil
with_nil : run (seq (compared (Slice 0 0 0 0) Nil) (seq (compared (Map 0) Nil) (compared Nil Nil))) 0 ≡ Ended (truths (true ∷ false ∷ []) ∷ truths (false ∷ true ∷ []) ∷ truths (false ∷ true ∷ []) ∷ [])
unfolding prim
with_nil = refl

-- a := new(T); b := new(T); a == a, a == b, &a.f == &a.f, &a.f == &a.g; T may have size zero
pointers : run (with_var (codes "a") (Prim Alloc (one Empty)) (with_var (codes "b") (Prim Alloc (one Empty)) (say (all_of (op2 (Compare Equal) (loc (codes "a")) (loc (codes "a")) ∷ op2 (Compare Equal) (loc (codes "a")) (loc (codes "b")) ∷ op2 (Compare Equal) (Prim (Address Checked (0 ∷ [])) (loc (codes "a"))) (Prim (Address Checked (0 ∷ [])) (loc (codes "a"))) ∷ op2 (Compare Equal) (Prim (Address Checked (0 ∷ [])) (loc (codes "a"))) (Prim (Address Checked (1 ∷ [])) (loc (codes "a"))) ∷ []))))) 0 ≡ Ended (truths (true ∷ false ∷ true ∷ false ∷ []) ∷ [])
unfolding prim
pointers = refl

-- ---- order

less_numbers : run (seq (ordered (minus 2) (minus 1)) (ordered (int 2) (int 2))) 0 ≡ Ended (truths (false ∷ true ∷ false ∷ true ∷ []) ∷ truths (true ∷ true ∷ false ∷ false ∷ []) ∷ [])
unfolding prim
less_numbers = refl

-- strings byte by byte, a front before what it is a front of
less_strings : run (seq (ordered (Str (codes "b")) (Str (codes "abc"))) (ordered (Str (codes "ab")) (Str (codes "abc")))) 0 ≡ Ended (truths (true ∷ true ∷ false ∷ false ∷ []) ∷ truths (false ∷ false ∷ true ∷ true ∷ []) ∷ [])
unfolding prim
less_strings = refl

not_true : run (say (Prim Not (one (Truth true)))) 0 ≡ Ended (truths (false ∷ []) ∷ [])
unfolding prim
not_true = refl

-- ---- strings: "hi" + " there", its length, and its bytes 3 to 6

texts : run (with_var (codes "s") (op2 Concat (str (codes "hi")) (str (codes " there"))) (say (all_of (loc (codes "s") ∷ Prim Len (loc (codes "s")) ∷ Prim (Slicing true true) (all_of (loc (codes "s") ∷ num 3 ∷ num 6 ∷ [])) ∷ Prim (Slicing false false) (loc (codes "s")) ∷ [])))) 0 ≡ Ended (said (Str (codes "hi there") ∷ int 8 ∷ Str (codes "the") ∷ Str (codes "hi there") ∷ []) ∷ [])
unfolding prim
texts = refl

-- ---- structs are copied: u := T{1, U{2, 3}}; w := u; w.b.c = 9

abbrev nested : Value
nested = struct_of (int 1 ∷ struct_of (int 2 ∷ int 3 ∷ []) ∷ [])

abbrev b_c : Term → Term
b_c t = Prim (Field 1) (Prim (Field 1) t)

struct_copies : run (with_var (codes "u") (one nested) (with_var (codes "w") (loc (codes "u")) (seq (set (codes "w") (op2 (SetField (1 ∷ 1 ∷ [])) (loc (codes "w")) (num 9))) (say (all_of (b_c (loc (codes "u")) ∷ b_c (loc (codes "w")) ∷ Prim (Field 0) (loc (codes "w")) ∷ [])))))) 0 ≡ Ended (said (int 3 ∷ int 9 ∷ int 1 ∷ []) ∷ [])
unfolding prim
struct_copies = refl

-- a literal with keys: T{b: 7} of three numbers, which keeps the others' zero values
struct_literal : run (with_var (codes "u") (Prim (StructLit (struct_of (int 0 ∷ int 0 ∷ int 0 ∷ [])) (1 ∷ [])) (num 7)) (say (all_of (Prim (Field 0) (loc (codes "u")) ∷ Prim (Field 1) (loc (codes "u")) ∷ Prim (Field 2) (loc (codes "u")) ∷ [])))) 0 ≡ Ended (said (int 0 ∷ int 7 ∷ int 0 ∷ []) ∷ [])
unfolding prim
struct_literal = refl

-- ---- variables: u lives in a cell, p := &u.b; p.c = 9 is seen in u; w := u, in a frame, isn't changed by it

through_pointers : run (Let (codes "u" ∷ codes "w" ∷ []) (Both (one nested) (one nested)) (in_cells (codes "u" ∷ []) (with_var (codes "p") (Prim (Address Unchecked (1 ∷ [])) (loc (codes "u"))) (seq (op2 (Save Checked) (Prim (Address Checked (1 ∷ [])) (loc (codes "p"))) (num 9)) (say (all_of (b_c (Prim (Load Unchecked) (loc (codes "u"))) ∷ Prim (Field 1) (Prim (Load Checked) (loc (codes "p"))) ∷ b_c (loc (codes "w")) ∷ []))))))) 0 ≡ Ended (said (int 9 ∷ int 9 ∷ int 3 ∷ []) ∷ [])
unfolding prim
through_pointers = refl

-- ---- package variables: set before main, told apart by package and name, and changed through their address

abbrev g : List ℕ → Term
g home = Prim (ReadGlobal home (codes "g")) none

abbrev g_address : List ℕ → Term
g_address home = Prim (GlobalAddress home (codes "g")) none

globals : shows (with_main (seq (op2 (Save Unchecked) (g_address (codes "p")) (num 5)) (seq (op2 (Save Checked) (g_address (codes "q")) (num 6)) (say (all_of (g (codes "p") ∷ g (codes "q") ∷ op2 (Compare Equal) (g_address (codes "p")) (g_address (codes "q")) ∷ []))))) []) (seq (op2 (Save Unchecked) (g_address (codes "p")) (num 1)) (op2 (Save Unchecked) (g_address (codes "q")) (num 2))) main [] 0 ≡ Ended (said (int 5 ∷ int 6 ∷ Truth false ∷ []) ∷ [])
unfolding prim
globals = refl
