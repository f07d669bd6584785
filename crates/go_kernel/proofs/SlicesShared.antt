-- Checks: slices share their elements, 'append' within the capacity and past it, 'copy' (Go specification, "Slice expressions", "Making slices, maps and channels", "Appending to and copying slices", "Conversions to and from a string type").
use Rattle.std.proofs.Common.{◌≡◌, refl}
use Rattle.std.specs.Prelude.{ℕ, List, [], ◌∷◌, map, true, false, pos, codes}
use Rattle.go_kernel.specs.Kernel.{Number, Uint8, Str, Nil, SliceLit, MakeSlice, Append, Copy, Slicing, Len, Cap, StringOfBytes, BytesOfString, Compare, Equal, Event, Term, Vals, Both, Prim, Truth, Ended, prim}
use Rattle.go_kernel.proofs.Programs.{int, num, str, none, seq, all_of, op2, say, loc, with_var, elem, set_elem, ints, said, run}

abbrev append : Term → Term → Term
append s vs = op2 (Append (int 0)) s vs

abbrev nums : List ℕ → Term
nums ns = Vals (map int ns)

abbrev numbers : List ℕ → Event
numbers ns = said (map int ns)

-- s[low:high]
abbrev part : Term → ℕ → ℕ → Term
part s low high = Prim (Slicing true true) (all_of (s ∷ num low ∷ num high ∷ []))

abbrev a : Term
a = loc (codes "a")

abbrev b : Term
b = loc (codes "b")

abbrev c : Term
c = loc (codes "c")

-- println of length, capacity and each element
abbrev elems : Term → List ℕ → List Term
elems s [] = []
elems s (i ∷ is) = elem s (num i) ∷ elems s is

abbrev say_slice : Term → List ℕ → Term
say_slice s is = say (all_of (Prim Len s ∷ Prim Cap s ∷ elems s is))

-- ---- append

-- a := []int{0, 0}; b := append(a, 2); c := append(b, 3, 5, 7)
appended : run (with_var (codes "a") (ints (0 ∷ 0 ∷ [])) (with_var (codes "b") (append a (num 2)) (with_var (codes "c") (append b (nums (3 ∷ 5 ∷ 7 ∷ []))) (seq (say_slice b (0 ∷ 1 ∷ 2 ∷ [])) (say_slice c (0 ∷ 1 ∷ 2 ∷ 3 ∷ 4 ∷ 5 ∷ [])))))) 0 ≡ Ended (numbers (6 ∷ 8 ∷ 0 ∷ 0 ∷ 2 ∷ 3 ∷ 5 ∷ 7 ∷ []) ∷ numbers (3 ∷ 4 ∷ 0 ∷ 0 ∷ 2 ∷ []) ∷ [])
unfolding prim
appended = refl

-- past the capacity the need counts where it is more than twice the old one
by_need : run (with_var (codes "a") (append (ints (1 ∷ [])) (nums (2 ∷ 3 ∷ 4 ∷ 5 ∷ []))) (say_slice a (0 ∷ 4 ∷ []))) 0 ≡ Ended (numbers (5 ∷ 5 ∷ 1 ∷ 5 ∷ []) ∷ [])
unfolding prim
by_need = refl

-- to nil, and of nothing to nil
to_nil : run (with_var (codes "a") (append (Vals (Nil ∷ [])) (num 4)) (say_slice a (0 ∷ []))) 0 ≡ Ended (numbers (1 ∷ 1 ∷ 4 ∷ []) ∷ [])
unfolding prim
to_nil = refl

nothing_to_nil : run (say (op2 (Compare Equal) (append (Vals (Nil ∷ [])) none) (Vals (Nil ∷ [])))) 0 ≡ Ended (said (Truth true ∷ []) ∷ [])
unfolding prim
nothing_to_nil = refl

-- within the capacity both appends write one place: a := make([]int, 1, 3); b := append(a, 7); c := append(a, 8)
with_room : run (with_var (codes "a") (Prim (MakeSlice (int 0)) (Both (num 1) (num 3))) (with_var (codes "b") (append a (num 7)) (with_var (codes "c") (append a (num 8)) (seq (say_slice b (0 ∷ 1 ∷ [])) (seq (set_elem c (num 0) (num 5)) (say_slice a (0 ∷ []))))))) 0 ≡ Ended (numbers (1 ∷ 3 ∷ 5 ∷ []) ∷ numbers (2 ∷ 3 ∷ 0 ∷ 8 ∷ []) ∷ [])
unfolding prim
with_room = refl

-- past it the new slice has elements of its own: a := []int{1}; b := append(a, 2); b[0] = 9
without_room : run (with_var (codes "a") (ints (1 ∷ [])) (with_var (codes "b") (append a (num 2)) (seq (set_elem b (num 0) (num 9)) (seq (say_slice a (0 ∷ [])) (say_slice b (0 ∷ 1 ∷ [])))))) 0 ≡ Ended (numbers (2 ∷ 2 ∷ 9 ∷ 2 ∷ []) ∷ numbers (1 ∷ 1 ∷ 1 ∷ []) ∷ [])
unfolding prim
without_room = refl

-- what lies between length and capacity is zero: append([]int{1, 2, 3}, 4)[0:6]
zeros_behind : run (with_var (codes "a") (part (append (ints (1 ∷ 2 ∷ 3 ∷ [])) (num 4)) 0 6) (say_slice a (3 ∷ 4 ∷ 5 ∷ []))) 0 ≡ Ended (numbers (6 ∷ 6 ∷ 4 ∷ 0 ∷ 0 ∷ []) ∷ [])
unfolding prim
zeros_behind = refl

-- ---- slices of slices: b := a[3:7]; c := b[1:4]; c[1] = 42 sets a[5]

sub_slices : run (with_var (codes "a") (Prim (MakeSlice (int 0)) (num 10)) (with_var (codes "b") (part a 3 7) (with_var (codes "c") (part b 1 4) (seq (set_elem c (num 1) (num 42)) (seq (say (all_of (elem c (num 1) ∷ elem b (num 2) ∷ elem a (num 5) ∷ []))) (seq (say_slice b []) (say_slice c []))))))) 0 ≡ Ended (numbers (3 ∷ 6 ∷ []) ∷ numbers (4 ∷ 7 ∷ []) ∷ numbers (42 ∷ 42 ∷ 42 ∷ []) ∷ [])
unfolding prim
sub_slices = refl

-- a literal with keys: []int{2: 7, 8, 0: 1}
with_keys : run (with_var (codes "a") (Prim (SliceLit (int 0) (2 ∷ 3 ∷ 0 ∷ [])) (nums (7 ∷ 8 ∷ 1 ∷ []))) (say_slice a (0 ∷ 1 ∷ 2 ∷ 3 ∷ []))) 0 ≡ Ended (numbers (4 ∷ 4 ∷ 1 ∷ 0 ∷ 7 ∷ 8 ∷ []) ∷ [])
unfolding prim
with_keys = refl

-- a literal without elements isn't nil
empty_literal : run (say (op2 (Compare Equal) (ints []) (Vals (Nil ∷ [])))) 0 ≡ Ended (said (Truth false ∷ []) ∷ [])
unfolding prim
empty_literal = refl

-- ---- copy: n1 := copy(b, a[0:]) with eight elements and six, then n2 := copy(b, b[2:])

copied : run (with_var (codes "a") (ints (0 ∷ 1 ∷ 2 ∷ 3 ∷ 4 ∷ 5 ∷ 6 ∷ 7 ∷ [])) (with_var (codes "b") (Prim (MakeSlice (int 0)) (num 6)) (seq (say (op2 Copy b a)) (seq (say_slice b (0 ∷ 5 ∷ [])) (seq (say (op2 Copy b (part b 2 6))) (say_slice b (0 ∷ 1 ∷ 2 ∷ 3 ∷ 4 ∷ 5 ∷ []))))))) 0 ≡ Ended (numbers (6 ∷ 6 ∷ 2 ∷ 3 ∷ 4 ∷ 5 ∷ 4 ∷ 5 ∷ []) ∷ numbers (4 ∷ []) ∷ numbers (6 ∷ 6 ∷ 0 ∷ 5 ∷ []) ∷ numbers (6 ∷ []) ∷ [])
unfolding prim
copied = refl

-- to higher places of itself: copy(b[1:], b)
copied_up : run (with_var (codes "b") (ints (1 ∷ 2 ∷ 3 ∷ [])) (seq (say (op2 Copy (part b 1 3) b)) (say_slice b (0 ∷ 1 ∷ 2 ∷ [])))) 0 ≡ Ended (numbers (3 ∷ 3 ∷ 1 ∷ 1 ∷ 2 ∷ []) ∷ numbers (2 ∷ []) ∷ [])
unfolding prim
copied_up = refl

-- copy(b, "Hello, World!") with five bytes, and string(b)
copied_text : run (with_var (codes "b") (Prim (MakeSlice (Number Uint8 (pos 0))) (num 5)) (seq (say (op2 Copy b (str (codes "Hello, World!")))) (say (Prim StringOfBytes b)))) 0 ≡ Ended (said (Str (codes "Hello") ∷ []) ∷ numbers (5 ∷ []) ∷ [])
unfolding prim
copied_text = refl

-- a string made from bytes keeps them when they change: a := []byte("hello"); b := string(a); a[0] = 'j'
of_bytes : run (with_var (codes "a") (Prim BytesOfString (str (codes "hello"))) (with_var (codes "b") (Prim StringOfBytes a) (seq (set_elem a (num 0) (Vals (Number Uint8 (pos 106) ∷ []))) (seq (say (Both b (Prim StringOfBytes a))) (say_slice a []))))) 0 ≡ Ended (numbers (5 ∷ 5 ∷ []) ∷ said (Str (codes "hello") ∷ Str (codes "jello") ∷ []) ∷ [])
unfolding prim
of_bytes = refl

-- of nil, the empty string
of_nil : run (say (Prim StringOfBytes (Vals (Nil ∷ [])))) 0 ≡ Ended (said (Str [] ∷ []) ∷ [])
unfolding prim
of_nil = refl
