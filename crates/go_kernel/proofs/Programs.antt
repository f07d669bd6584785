-- Short words for the checks on small programs.
use Rattle.std.specs.Prelude.{ℕ, zero, suc, List, [], ◌∷◌, map, true, None, pos, negsuc, codes}
use Rattle.go_kernel.specs.Kernel.{Name, FuncName, temporary, result_name, return_label, Int, Value, Number, Truth, Str, NumberType, Reason, Store, empty_store, Op, Println, Emit, Fail, Element, ElementAddress, SliceLit, Save, Unchecked, Event, Term, Vals, Local, Set, Both, Prim, Let, Leave, Within, DeferLit, InFrame, Func, Program, no_func, declared, Shown, shows}

-- ---- values and terms

abbrev pub int : ℕ → Value
int n = Number Int (pos n)

abbrev pub minus : ℕ → Value
minus n = Number Int (negsuc (pred n))
  where
    pred : ℕ → ℕ
    pred zero = zero
    pred (suc n) = n

abbrev pub num : ℕ → Term
num n = Vals (int n ∷ [])

abbrev pub str : List ℕ → Term
str t = Vals (Str t ∷ [])

abbrev pub none : Term
none = Vals []

abbrev pub seq : Term → Term → Term
seq a b = Let [] a b

abbrev pub all_of : List Term → Term
all_of [] = none
all_of (t ∷ ts) = Both t (all_of ts)

abbrev pub steps : List Term → Term
steps [] = none
steps (t ∷ ts) = seq t (steps ts)

abbrev pub op2 : Op → Term → Term → Term
op2 o a b = Prim o (Both a b)

abbrev pub say : Term → Term
say t = Prim (Emit Println) t

abbrev pub raise : ℕ → Term
raise n = Prim (Fail (NumberType Int)) (num n)

-- locals and temporaries
abbrev pub loc : List ℕ → Term
loc x = Local x

abbrev pub tmp : ℕ → Term
tmp k = Local (temporary k)

abbrev pub set : List ℕ → Term → Term
set x t = Set (x ∷ []) t

abbrev pub with_var : List ℕ → Term → Term → Term
with_var x a b = Let (x ∷ []) a b

-- a[i], and a store to it
abbrev pub elem : Term → Term → Term
elem a i = op2 Element a i

abbrev pub set_elem : Term → Term → Term → Term
set_elem a i v = Prim (Save Unchecked) (Both (op2 ElementAddress a i) v)

-- []int{..} with these elements
abbrev pub ints : List ℕ → Term
ints ns = Prim (SliceLit (int 0) (places 0 ns)) (Vals (map int ns))
  where
    places : ℕ → List ℕ → List ℕ
    places i [] = []
    places i (n ∷ ns) = i ∷ places (suc i) ns

-- 'return e' with one result
abbrev pub return_ : Term → Term
return_ e = seq (Set (result_name 0 ∷ []) e) (Leave return_label)

abbrev pub yes : Term
yes = Vals (Truth true ∷ [])

-- ---- what is shown

abbrev pub said : List Value → Event
said vs = record { printer = Println; values = vs }

abbrev pub reason : ℕ → Reason
reason n = record { of = NumberType Int; value = int n }

-- ---- programs

abbrev pub named : List ℕ → FuncName
named n = record { home = codes "m"; receiver = None; name = n }

abbrev pub main : FuncName
main = named (codes "main")

-- a function of these parameters with one number as its result, and one without a result
abbrev pub giving : List Name → Term → Func
giving xs b = record { params = xs; slots = result_name 0 ∷ []; zeros = int 0 ∷ []; body = b; results = InFrame (result_name 0) ∷ [] }

abbrev pub doing : List Name → Term → Func
doing xs b = record no_func { params = xs; body = b }

-- a literal that is called or deferred in place
abbrev pub lit : Term → Term
lit b = Within b []

abbrev pub defer_lit : Term → Term
defer_lit b = DeferLit [] none (lit b)

-- a program whose main has this body, with these other functions
abbrev pub with_main : Term → List (FuncName × Func) → Program
with_main b fs = declared ((main, record no_func { body = b }) ∷ fs)

abbrev pub run : Term → ℕ → Shown
run b n = shows (with_main b []) none main [] n

abbrev pub run_with : Term → List (FuncName × Func) → ℕ → Shown
run_with b fs n = shows (with_main b fs) none main [] n

abbrev pub run_choosing : Term → List ℕ → ℕ → Shown
run_choosing b choices n = shows (with_main b []) none main choices n

abbrev pub fresh : Store
fresh = empty_store []
