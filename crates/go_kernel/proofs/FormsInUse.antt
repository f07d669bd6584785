-- Checks: each law of forms used on a small program, with what then stands written out.
use Rattle.std.proofs.Common.{◌≡◌, List, [], ◌∷◌, Bool, true, false, true≢false, refl, arith}
use Rattle.std.specs.Prelude.{codes}
use Rattle.go_kernel.specs.Kernel.{Name, FuncName, temporary, result_name, Int, Arith, Add, Compare, Less, Equal, Slot, InFrame, InCell, Term, Vals, Both, If, Let, Loop, Within, Alone, Defer, DeferLit, Func, declared, Program}
use Rattle.go_kernel.specs.Alike.{MeanSame}
use Rattle.go_kernel.specs.Classes.{Steady}
use Rattle.go_kernel.specs.Items.{items}
use Rattle.go_kernel.specs.Arguments.{Arg, arg}
use Rattle.go_kernel.specs.Choosing.{Row, Solo}
use Rattle.go_kernel.specs.Forms.{return_to, return_to_slots}
use Rattle.go_kernel.specs.FormLaws.{ReturnIsItsExpression, BodyIsBlock, TailIsBlock, TailIntoSlotsIsBlock, DeferredCallIsItsLiteral, DeferredCallMovesItsSafeSet, called_with}
use Rattle.go_kernel.proofs.FormProofs
use Rattle.go_kernel.proofs.DeferredCall.{deferred_is_literal}
use Rattle.go_kernel.proofs.Programs.{int, num, none, seq, op2, say, loc, set, with_var, named, doing}

-- no functions are called but f
abbrev x : Term
x = loc (codes "x")

abbrev y : Term
y = loc (codes "y")

abbrev add : Term → Term → Term
add a b = op2 (Arith Add Int) a b

abbrev f : FuncName
f = named (codes "f")

-- func f(x int) { println(x, x) }
abbrev twice : Func
twice = doing (codes "x" ∷ []) (say (Both x x))

abbrev P : Program
P = declared ((f, twice) ∷ [])

abbrev no_free : FuncName → Bool
no_free g = false

abbrev Means : Term → Term → Type 0
Means t t' = MeanSame P no_free 0 0 t t'

-- ---- an expression: func() (int, int) { return y, y + 1 }()

abbrev results : List Name
results = result_name 0 ∷ result_name 1 ∷ []

expression_law : ReturnIsItsExpression
expression_law = λ P free A ss zeros e d w n. FormProofs.expression P free A ss zeros e d w n

two_values : Means (Alone (Let results (Vals (int 0 ∷ int 0 ∷ [])) (Within (return_to results (Both y (add y (num 1)))) (InFrame (result_name 0) ∷ InFrame (result_name 1) ∷ [])))) (Both y (add y (num 1)))
two_values = expression_law P no_free 0 results (int 0 ∷ int 0 ∷ []) (Both y (add y (num 1))) refl refl refl

-- ---- a block: func() { x := 2; println(x, y) }()

abbrev two_lines : Term
two_lines = with_var (codes "x") (num 2) (say (Both x y))

block_law : BodyIsBlock
block_law = λ P free A t q n. FormProofs.block P free A t q n

as_block : Means (Alone (Let [] none (Within two_lines []))) (Let [] two_lines none)
as_block = block_law P no_free 0 two_lines refl refl

-- ---- a tail: return func(x int) int { for x < 9 { if x == y { return x }; x = x + 1 }; return 0 }(3), where the caller's result is r

abbrev searches : (Term → Term) → Term
searches return_ = seq (Loop (op2 (Compare Less) x (num 9)) (seq (If (op2 (Compare Equal) x y) (return_ x) none) (set (codes "x") (add x (num 1))))) (return_ (num 0))

abbrev one_result : List Name
one_result = result_name 0 ∷ []

abbrev r : List Name
r = codes "r" ∷ []

tail_law : TailIsBlock
tail_law = λ P free A ps ss rs zeros a body k w d l n t v. FormProofs.tail P free A ps ss rs zeros a body k w d l n t v

as_tail : Means (return_to r (called_with (codes "x" ∷ []) one_result (int 0 ∷ []) (num 3) (searches (return_to one_result)))) (Let (codes "x" ∷ []) (num 3) (searches (return_to r)))
as_tail = tail_law P no_free 0 (codes "x" ∷ []) one_result r (int 0 ∷ []) (num 3) (searches (return_to one_result)) 1 refl refl refl refl refl refl

-- ---- the same where the caller's two results are r in its frame, and e in a cell

abbrev both_found : (Term → Term) → Term
both_found return_ = seq (Loop (op2 (Compare Less) x (num 9)) (seq (If (op2 (Compare Equal) x y) (return_ (Both x (num 1))) none) (set (codes "x") (add x (num 1))))) (return_ (Both (num 0) (num 0)))

abbrev r_and_e : List Slot
r_and_e = InFrame (codes "r") ∷ InCell (codes "e") ∷ []

abbrev temporaries : List Name
temporaries = temporary 0 ∷ temporary 1 ∷ []

slots_law : TailIntoSlotsIsBlock
slots_law = λ P free A ps ss rs ts zeros a body k w d l lr lt dt nt np t v. FormProofs.tail_into_slots P free A ps ss rs ts zeros a body k w d l lr lt dt nt np t v

into_slots : Means (return_to_slots r_and_e temporaries (called_with (codes "x" ∷ []) results (int 0 ∷ int 0 ∷ []) (num 3) (both_found (return_to results)))) (Let (codes "x" ∷ []) (num 3) (both_found (return_to_slots r_and_e temporaries)))
into_slots = slots_law P no_free 0 (codes "x" ∷ []) results r_and_e temporaries (int 0 ∷ int 0 ∷ []) (num 3) (both_found (return_to results)) 1 refl refl refl refl refl refl refl refl refl refl

-- ---- deferred calls: defer f(y), and defer f(4)

deferred_law : DeferredCallIsItsLiteral
deferred_law = λ P free A f scoped a. deferred_is_literal P free A f scoped a

bound : true ≡ false → ⊥
bound e = absurd (true≢false e)

deferred_literal : Means (Defer f y) (DeferLit (codes "x" ∷ []) y (Let [] none (Within (say (Both x x)) [])))
deferred_literal = deferred_law P no_free 0 f (tt, ((bound, bound), tt)) y

moved_law : DeferredCallMovesItsSafeSet
moved_law = λ P free A f scoped os rows receives q s h. FormProofs.deferred_call P free A f scoped os rows receives q s h

abbrev four : List Arg
four = arg (codes "x") (num 4) [] true ∷ []

abbrev four_row : Row
four_row = record { class = Steady; constant = true; duplicable = true; uses = 2; barred = false; deferred_use = true; last_use = false; names_held = false; address = false }

four_solo : Solo four_row (codes "x") (items [] (say (Both x x))) true
four_solo = record { free = refl; deferred = λ e. refl; repeated = λ e. refl; unused = λ e. absurd (grind (arith, e)); looking = λ e. absurd (grind (arith, e)); acting = λ e. absurd (grind (arith, e)) }

deferred_four : Means (Defer f (Both (num 4) none)) (DeferLit [] none (Let [] none (Within (say (Both (num 4) (num 4))) [])))
deferred_four =
    moved_law P no_free 0 f (tt, ((bound, bound), tt)) four (four_row ∷ []) (record { params = refl; slots = tt; named = refl; distinct' = refl; closed' = refl }) ((refl, refl, λ e. (refl, refl, refl, refl)), tt) ((λ e. (four_solo, tt)), tt, tt)
    ((λ e. refl), tt)
