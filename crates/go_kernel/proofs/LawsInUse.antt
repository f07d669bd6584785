-- Checks: each law of budgets, frames, parts, calls and arguments used on a small program. What it says of this program is written out, with both sides computed where they are runs.
use Rattle.std.proofs.Common.{◌≡◌, inl, inr, ℕ, List, [], ◌∷◌, Bool, true, false, true≢false, if◌then◌else◌, refl, sym, ◌∙◌, arith}
use Rattle.std.specs.Prelude.{map, codes}
use Rattle.go_kernel.specs.Kernel.{Name, FuncName, same_func, result_name, Value, Int, Arith, Add, Mul, Load, Save, Checked, Unchecked, ReadGlobal, GlobalAddress, Event, Term, Both, Prim, If, Let, Loop, Within, Alone, Call, DeferLit, InFrame, Func, no_func, code, declared, Program, Frame, State, Gives, Running, Ended, start, shows, free_shows, Covers, prim}
use Rattle.go_kernel.specs.Alike.{Alike, MeanSame, Below, Same, Calls}
use Rattle.go_kernel.specs.Laws.{LargerBudgetsCover, FreePricesCover, FreePricesAreCovered, EqualFreeShowsCover, ActsInFront, ActsBehind, Ranked, PartsMayBeReplaced, AllScoped, CallIsItsLiteral}
use Rattle.go_kernel.specs.Scope.{Scoped}
use Rattle.go_kernel.specs.Classes.{Class, Steady, Acts}
use Rattle.go_kernel.specs.Items.{Item, Param, Read, Write, Stop, items, writes}
use Rattle.go_kernel.specs.Arguments.{Arg, arg}
use Rattle.go_kernel.specs.Choosing.{Row, AsCareful, Solo, Safe, AreRows}
use Rattle.go_kernel.specs.ChosenLaws.{SteadyArgumentMoves, LookingArgumentMoves, ActingArgumentMoves, SafeSetMoves, CarefulListServes, CallMovesItsSafeSet}
use Rattle.go_kernel.proofs.Growth.{shows_grow, free_shows_more, free_shows_less}
use Rattle.go_kernel.proofs.FrameLaw
use Rattle.go_kernel.proofs.Congruence.{shows_same}
use Rattle.go_kernel.proofs.SameShows.{both_ways}
use Rattle.go_kernel.proofs.Literal.{call_is_literal}
use Rattle.go_kernel.proofs.Means.{mean_equal}
use Rattle.go_kernel.proofs.Argument.{steady_moves, looks_moves, acts_moves, call_moves}
use Rattle.go_kernel.proofs.SafeSet.{safe_set}
use Rattle.go_kernel.proofs.CarefulList.{careful_same, careful_further, careful_stop, safe_too}
use Rattle.go_kernel.proofs.Shapes.{plain}
use Rattle.go_kernel.proofs.Programs.{int, num, none, seq, op2, say, loc, set, with_var, return_, yes, said, named, giving, with_main, main}

abbrev numbers : List ℕ → Event
numbers ns = said (map int ns)

abbrev all_free : FuncName → Bool
all_free f = true

abbrev x : Term
x = loc (codes "x")

abbrev y : Term
y = loc (codes "y")

abbrev add : Term → Term → Term
add a b = op2 (Arith Add Int) a b

-- ---- budgets and prices, on g(n) = n + 1, h(n) = g(n * 2) and println(4); println(h(3))

abbrev n : Term
n = loc (codes "n")

abbrev g : FuncName × Func
g = (named (codes "g"), giving (codes "n" ∷ []) (return_ (add n (num 1))))

abbrev h : FuncName × Func
h = (named (codes "h"), giving (codes "n" ∷ []) (return_ (Call (named (codes "g")) (op2 (Arith Mul Int) n (num 2)))))

abbrev P : Program
P = with_main (seq (say (num 4)) (say (Call (named (codes "h")) (num 3)))) (g ∷ h ∷ [])

budget_law : LargerBudgetsCover
budget_law = shows_grow

-- cut at budget 1, ended at 2
cut_then_ended : Covers (Running (numbers (4 ∷ []) ∷ [])) (Ended (numbers (7 ∷ []) ∷ numbers (4 ∷ []) ∷ []))
unfolding prim
cut_then_ended = budget_law P none main [] 1 2 (omega arith)

free_law : FreePricesCover
free_law = free_shows_more

-- cut at budget 0, ended there where chains of two calls cost nothing
cut_then_free : Covers (Running (numbers (4 ∷ []) ∷ [])) (Ended (numbers (7 ∷ []) ∷ numbers (4 ∷ []) ∷ []))
unfolding prim
cut_then_free = free_law P all_free 2 none main [] 0

paid_law : FreePricesAreCovered
paid_law = free_shows_less

-- and what ended there ends alike at budget (2 + 1)(0 + 1)
free_then_paid : Covers (Ended (numbers (7 ∷ []) ∷ numbers (4 ∷ []) ∷ [])) (Ended (numbers (7 ∷ []) ∷ numbers (4 ∷ []) ∷ []))
unfolding prim
free_then_paid = paid_law P all_free 2 none main [] 0

-- ---- frames: x = x + 1 in a frame with x and y

abbrev plus_one : Term
plus_one = set (codes "x") (add x (num 1))

abbrev state : Frame → State
state f = record (start []) { frame = f }

abbrev x_is : ℕ → Name × Value
x_is k = (codes "x", int k)

abbrev y_is : ℕ → Name × Value
y_is k = (codes "y", int k)

front_law : ActsInFront
front_law = λ P free A n j t s rest q. FrameLaw.acts_in_front P free A n j t s rest q

y_stays : Alike P all_free 2 [] (Gives [] (state (x_is 2 ∷ y_is 5 ∷ []))) (Gives [] (state (x_is 2 ∷ y_is 5 ∷ [])))
unfolding prim
y_stays = front_law P all_free 2 0 0 plus_one (state (x_is 1 ∷ [])) (y_is 5 ∷ []) (((λ e. absurd (true≢false e)), tt), ((λ e. absurd (true≢false e)), tt))

behind_law : ActsBehind
behind_law = λ P free A n j t s front q. FrameLaw.acts_behind P free A n j t s front q

y_in_front : Alike P all_free 2 [] (Gives [] (state (y_is 5 ∷ x_is 2 ∷ []))) (Gives [] (state (y_is 5 ∷ x_is 2 ∷ [])))
unfolding prim
y_in_front = behind_law P all_free 2 0 0 plus_one (state (x_is 1 ∷ [])) (y_is 5 ∷ []) (((λ e. refl), tt), ((λ e. refl), tt))

-- ---- parts: 1 + 2 in main is replaced by 3

abbrev sum : Term
sum = add (num 1) (num 2)

abbrev prints : Term → Program
prints t = with_main (say t) []

three : (k : ℕ) → MeanSame (prints (num 3)) all_free 1 k sum (num 3)
unfolding prim
three k = mean_equal (prints (num 3)) all_free 1 k sum (num 3) (λ n j h s. refl)

-- the functions of the two programs, by whether the name is that of main
parts_same : (k : ℕ) (c : Bool) → Same (MeanSame (prints (num 3)) all_free 1 k) (Below all_free (λ f. 0) k) (code (if c then record no_func { body = say sum } else no_func)) (code (if c then record no_func { body = say (num 3) } else no_func))
parts_same k true = Same.let' Same.vals (Same.within (Same.prim' (Same.swap (Same.prim' (Same.both Same.vals Same.vals)) (three k))))
parts_same k false = Same.let' Same.vals (Same.within Same.vals)

no_params : (c : Bool) (b : Term) → (if c then record no_func { body = b } else no_func).params ≡ []
no_params true b = refl
no_params false b = refl

parts_law : PartsMayBeReplaced
parts_law = λ P P' free A rank ranks marked funs init init' q main choices n. shows_same P' free A rank P ranks marked (λ f. (funs f).0) (λ f. (funs f).1) init init' q main choices n

sum_replaced : free_shows (prints sum) all_free 1 none main [] 0 ≡ free_shows (prints (num 3)) all_free 1 none main [] 0
sum_replaced =
    parts_law (prints sum) (prints (num 3)) all_free 1 (λ f. 0) (λ f. omega arith) (λ f e. omega arith)
    (λ f. (no_params (same_func f main) (say sum) ∙ sym (no_params (same_func f main) (say (num 3))), parts_same 0 (same_func f main))) none none Same.vals main [] 0

equal_law : EqualFreeShowsCover
equal_law = λ P P' free A init init' main choices n e. both_ways free A main choices n P P' init init' e

-- so what each shows at budget 0 is covered by what the other shows at budget 2
each_covers : Covers (shows (prints sum) none main [] 0) (shows (prints (num 3)) none main [] 2) × Covers (shows (prints (num 3)) none main [] 0) (shows (prints sum) none main [] 2)
each_covers = equal_law (prints sum) (prints (num 3)) all_free 1 none none main [] 0 sum_replaced

-- both print 3
shown_three : free_shows (prints sum) all_free 1 none main [] 0 ≡ Ended (numbers (3 ∷ []) ∷ [])
unfolding prim
shown_three = refl

-- ---- calls: println(double(4)) and its literal, where double(x) = x + x

abbrev double : Func
double = giving (codes "x" ∷ []) (return_ (add x x))

abbrev doubling : Func
doubling = record no_func { body = say (Call (named (codes "double")) (num 4)) }

abbrev doubles : Program
doubles = declared ((named (codes "double"), double) ∷ (main, doubling) ∷ [])

-- double alone is free
abbrev is_double : FuncName → Bool
is_double f = same_func f (named (codes "double"))

-- each name's function is double, main's or none
by_name : (Q : Func → Type 0) → Q double → Q doubling → Q no_func → (f : FuncName) → Q (doubles f)
by_name Q d m o f = go (is_double f) (same_func f main)
  where
    go : (b c : Bool) → Q (if b then double else if c then doubling else no_func)
    go true c = d
    go false true = m
    go false false = o

doubles_ranked : Ranked doubles is_double (λ f. 0)
doubles_ranked f e = go (is_double f) (same_func f main) e
  where
    go : (b c : Bool) → b ≡ true → Calls (Below is_double (λ f. 0) 0) (code (if b then double else if c then doubling else no_func))
    go true c e = (tt, (((tt, tt)), tt))
    go false c e = absurd (true≢false (sym e))

-- a name that is bound isn't free
bound : true ≡ false → ⊥
bound e = absurd (true≢false e)

doubles_scoped : AllScoped doubles
doubles_scoped = by_name (λ F. Scoped F.params (code F)) (tt, ((((bound, tt), (bound, bound)), tt), (bound, tt))) (tt, (tt, tt)) (tt, (tt, tt))

literal_law : CallIsItsLiteral
literal_law = λ P free A rank ranked scoped f q a. call_is_literal P free A rank ranked scoped f q a

double_four : MeanSame doubles is_double 1 1 (Call (named (codes "double")) (num 4)) (Let (codes "x" ∷ []) (num 4) (Alone (code double)))
double_four = literal_law doubles is_double 1 (λ f. 0) doubles_ranked doubles_scoped (named (codes "double")) refl (num 4)

-- ---- one argument, of which the body names no other variable

-- y + 1 is steady: it may stand in a loop and in a deferred literal
abbrev in_loop : Term → Term
in_loop x = seq (Loop yes (say x)) (DeferLit [] none (say x))

steady_law : SteadyArgumentMoves
steady_law = λ P free A x a fr b q h. steady_moves P free A x a fr b q h

sum_in_loop : MeanSame P all_free 2 0 (with_var (codes "x") (add y (num 1)) (in_loop x)) (in_loop (add y (num 1)))
sum_in_loop = steady_law P all_free 2 (codes "x") (add y (num 1)) (codes "y" ∷ []) (in_loop x) (record { named = refl; alone = refl; kept = refl; apart = refl; own = refl }) refl

-- a package variable is looked at: past no write
abbrev global : Term
global = Prim (ReadGlobal (codes "m") (codes "g")) none

abbrev set_global : Term → Term
set_global v = op2 (Save Unchecked) (Prim (GlobalAddress (codes "m") (codes "g")) none) v

looking_law : LookingArgumentMoves
looking_law = λ P free A x a fr b q l w. looks_moves P free A x a fr b q l w

-- both uses stand before the write
abbrev used_first : Term → Term
used_first x = set_global (add x x)

look_before_write : MeanSame P all_free 2 0 (with_var (codes "x") global (used_first x)) (used_first global)
look_before_write = looking_law P all_free 2 (codes "x") global [] (used_first x) (record { named = refl; alone = refl; kept = refl; apart = refl; own = refl }) refl (inr refl)

-- nothing writes, so a use after a condition does no harm
abbrev on_condition : Term → Term
on_condition x = If yes (add x x) x

look_without_write : MeanSame P all_free 2 0 (with_var (codes "x") global (on_condition x)) (on_condition global)
look_without_write = looking_law P all_free 2 (codes "x") global [] (on_condition x) (record { named = refl; alone = refl; kept = refl; apart = refl; own = refl }) refl (inl refl)

-- a call acts: to its one use, before which only steady work stands
acting_law : ActingArgumentMoves
acting_law = λ P free A x a fr b q u w. acts_moves P free A x a fr b q u w

abbrev call_g : Term
call_g = Call (named (codes "g")) (num 2)

abbrev used_once : Term → Term
used_once x = say (Both (num 1) (add x (num 3)))

act_once : MeanSame P all_free 2 0 (with_var (codes "x") call_g (used_once x)) (used_once call_g)
act_once = acting_law P all_free 2 (codes "x") call_g [] (used_once x) (record { named = refl; alone = refl; kept = refl; apart = refl; own = refl }) refl refl

-- ---- a safe set: f(5, *x, y) with func f(p, q, r int) { r = p; println(q, r) }, where p and q are chosen, and r stays bound since the body assigns it

abbrev pr : Term → Term → Term
pr p q = seq (set (codes "r") p) (say (Both q (loc (codes "r"))))

abbrev f_body : Term
f_body = pr (loc (codes "p")) (loc (codes "q"))

abbrev target : Term
target = Prim (Load Checked) x

abbrev f_args : List Arg
f_args = arg (codes "p") (num 5) [] true ∷ arg (codes "q") target (codes "x" ∷ []) true ∷ arg (codes "r") y (codes "y" ∷ []) false ∷ []

abbrev row_of : Class → Bool → Bool → ℕ → Bool → Row
row_of c constant twice uses barred = record { class = c; constant = constant; duplicable = twice; uses = uses; barred = barred; deferred_use = false; last_use = false; names_held = false; address = false }

abbrev p_row : Row
p_row = row_of Steady true true 1 false

abbrev q_row : Row
q_row = row_of Acts false false 1 false

abbrev r_row : Row
r_row = row_of Steady false true 1 true

abbrev f_rows : List Row
f_rows = p_row ∷ q_row ∷ r_row ∷ []

f_are_rows : AreRows f_args [] f_body f_args f_rows
f_are_rows = ((refl, refl, λ e. (refl, refl, refl, refl)), ((refl, refl, λ e. (refl, refl, refl, refl)), ((refl, refl, λ e. absurd (bound e)), tt)))

turned : false ≡ true → ⊥
turned e = absurd (true≢false (sym e))

p_solo : Solo p_row (codes "p") (items [] f_body) true
p_solo = record { free = refl; deferred = λ e. refl; repeated = λ e. refl; unused = λ e. absurd (grind (arith, e)); looking = λ e. absurd (grind (arith, e)); acting = λ e. absurd (grind (arith, e)) }

q_solo : Solo q_row (codes "q") (items [] f_body) true
q_solo = record { free = refl; deferred = λ e. absurd (turned e); repeated = λ e. absurd (omega (arith, e)); unused = λ e. absurd (grind (arith, e)); looking = λ e. absurd (grind (arith, e)); acting = λ e. (refl, refl) }

f_safe : Safe (items [] f_body) (writes f_body) f_rows f_args
f_safe = (
  (λ e. (p_solo, ((λ e. absurd (turned e)), ((λ e. absurd (turned e)), tt)))),
  (((λ e k. refl), (λ e k. refl)), (((λ e k. refl), (λ e k. refl)), tt)),
  (
    (λ e. (q_solo, ((λ e. absurd (turned e)), tt))),
    (((λ e k. refl), (λ e k. refl)), tt),
    ((λ e. absurd (turned e)), tt, tt),
  ),
)

-- a list that ends before the use of r, with a read for what the body doesn't do: r might live in a cell
careful_law : CarefulListServes
careful_law = λ all g b os rows I w q m k s. safe_too all g b I w m k os rows q s

abbrev careful_items : List Item
careful_items = Param (codes "p") ∷ Param (codes "q") ∷ Read ∷ Stop ∷ []

abbrev after_uses : List Item
after_uses = Param (codes "r") ∷ Write ∷ []

as_careful : AsCareful careful_items (items [] f_body)
as_careful =
    careful_same (Param (codes "q") ∷ Read ∷ Stop ∷ []) (Param (codes "q") ∷ after_uses)
    (careful_same (Read ∷ Stop ∷ []) after_uses (careful_further (Stop ∷ []) after_uses (careful_stop [] after_uses) Read refl) (Param (codes "q"))) (Param (codes "p"))

careful_safe : Safe careful_items true f_rows f_args → Safe (items [] f_body) (writes f_body) f_rows f_args
careful_safe = careful_law f_args [] f_body f_args f_rows careful_items true f_are_rows as_careful (λ e. absurd (bound e))

set_law : SafeSetMoves
set_law = λ P free A b os rows n d k q s. safe_set P os [] b b (plain b) free A rows n d k q s

f_moved : MeanSame P all_free 2 0 (Let (codes "p" ∷ codes "q" ∷ codes "r" ∷ []) (Both (num 5) (Both target (Both y none))) f_body) (Let (codes "r" ∷ []) (Both y none) (pr (num 5) target))
f_moved = set_law P all_free 2 f_body f_args f_rows refl refl refl f_are_rows f_safe

-- ---- a call with a safe set: double(4) is the literal func() int { return 4 + 4 }()

abbrev four : List Arg
four = arg (codes "x") (num 4) [] true ∷ []

abbrev four_row : Row
four_row = row_of Steady true true 2 false

four_solo : Solo four_row (codes "x") (items double.slots double.body) (writes double.body)
four_solo = record { free = refl; deferred = λ e. refl; repeated = λ e. refl; unused = λ e. absurd (grind (arith, e)); looking = λ e. absurd (grind (arith, e)); acting = λ e. absurd (grind (arith, e)) }

call_law : CallMovesItsSafeSet
call_law = λ P free A rank ranked scoped f is_free os rows receives q s. call_moves P free A rank ranked scoped f is_free os rows receives q s

double_moved : MeanSame doubles is_double 1 1 (Call (named (codes "double")) (Both (num 4) none))
    (Let [] none (Alone (Let (result_name 0 ∷ []) (num 0) (Within (return_ (add (num 4) (num 4))) (InFrame (result_name 0) ∷ [])))))
double_moved =
    call_law doubles is_double 1 (λ f. 0) doubles_ranked doubles_scoped (named (codes "double")) refl four (four_row ∷ [])
    (record { params = refl; slots = (refl, tt); named = refl; distinct' = refl; closed' = refl }) ((refl, refl, λ e. (refl, refl, refl, refl)), tt) ((λ e. (four_solo, tt)), tt, tt)
