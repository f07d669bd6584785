-- Check: the laws together, on a program. println(double(4)) with func double(x int) int { return x + x } and println(4 + 4) show the same but for budgets.
use Rattle.std.proofs.Common.{◌≡◌, ℕ, ◌+◌, ◌*◌, ◌<◌, ◌≤◌, List, [], ◌∷◌, Bool, true, false, true≢false, if◌then◌else◌, refl, sym, arith}
use Rattle.std.specs.Prelude.{codes}
use Rattle.go_kernel.specs.Kernel.{FuncName, same_func, result_name, Int, Arith, Add, Term, Both, Let, Within, Alone, Call, InFrame, Func, no_func, code, declared, Program, shows, free_shows, Covers}
use Rattle.go_kernel.specs.Scope.{Scoped}
use Rattle.go_kernel.specs.Alike.{MeanSame, Below, Same, Calls}
use Rattle.go_kernel.specs.Classes.{Steady}
use Rattle.go_kernel.specs.Items.{items, writes}
use Rattle.go_kernel.specs.Arguments.{Arg, arg}
use Rattle.go_kernel.specs.Choosing.{Row, Solo}
use Rattle.go_kernel.specs.Laws.{Ranked, AllScoped, SameButParts}
use Rattle.go_kernel.proofs.Congruence.{shows_same}
use Rattle.go_kernel.proofs.SameShows.{both_ways}
use Rattle.go_kernel.proofs.Means.{mean_trans, mean_up, mean_no_let}
use Rattle.go_kernel.proofs.Argument.{call_moves}
use Rattle.go_kernel.proofs.FormProofs
use Rattle.go_kernel.proofs.Programs.{int, num, none, op2, say, loc, return_, named, giving, main}

abbrev x : Term
x = loc (codes "x")

abbrev sum : Term → Term
sum a = op2 (Arith Add Int) a a

abbrev double_name : FuncName
double_name = named (codes "double")

abbrev double : Func
double = giving (codes "x" ∷ []) (return_ (sum x))

abbrev is_double : FuncName → Bool
is_double f = same_func f double_name

-- double alone is free, and main calls it
abbrev rank : FuncName → ℕ
rank f = if is_double f then 0 else 1

abbrev prints : Term → Func
prints t = record no_func { body = say t }

abbrev printing : Term → Program
printing t = declared ((double_name, double) ∷ (main, prints t) ∷ [])

abbrev four_doubled : Term
four_doubled = Call double_name (Both (num 4) none)

abbrev called : Program
called = printing four_doubled

abbrev inlined : Program
inlined = printing (sum (num 4))

-- ---- the call means the sum

bound : true ≡ false → ⊥
bound e = absurd (true≢false e)

ranked : Ranked inlined is_double rank
ranked f e = go (is_double f) (same_func f main) e
  where
    go : (b c : Bool) → b ≡ true → Calls (Below is_double rank (if b then 0 else 1)) (code (if b then double else if c then prints (sum (num 4)) else no_func))
    go true c e = (tt, (((tt, tt)), tt))
    go false c e = absurd (true≢false (sym e))

scoped : AllScoped inlined
scoped f = go (is_double f) (same_func f main)
  where
    go : (b c : Bool) → Scoped (if b then double else if c then prints (sum (num 4)) else no_func).params (code (if b then double else if c then prints (sum (num 4)) else no_func))
    go true c = (tt, ((((bound, tt), (bound, bound)), tt), (bound, tt)))
    go false true = (tt, ((tt, tt), tt))
    go false false = (tt, (tt, tt))

abbrev four : List Arg
four = arg (codes "x") (num 4) [] true ∷ []

abbrev four_row : Row
four_row = record { class = Steady; constant = true; duplicable = true; uses = 2; barred = false; deferred_use = false; last_use = false; names_held = false; address = false }

four_solo : Solo four_row (codes "x") (items double.slots double.body) (writes double.body)
four_solo = record { free = refl; deferred = λ e. refl; repeated = λ e. refl; unused = λ e. absurd (grind (arith, e)); looking = λ e. absurd (grind (arith, e)); acting = λ e. absurd (grind (arith, e)) }

abbrev Means : Term → Term → Type 0
Means t t' = MeanSame inlined is_double 1 1 t t'

abbrev literal : Term
literal = Alone (Let (result_name 0 ∷ []) (num 0) (Within (return_ (sum (num 4))) (InFrame (result_name 0) ∷ [])))

literal_means : Means four_doubled (Let [] none literal)
literal_means =
    call_moves inlined is_double 1 rank ranked scoped double_name refl four (four_row ∷ [])
    (record { params = refl; slots = (refl, tt); named = refl; distinct' = refl; closed' = refl }) ((refl, refl, λ e. (refl, refl, refl, refl)), tt) ((λ e. (four_solo, tt)), tt, tt)

sum_means : Means literal (sum (num 4))
sum_means = mean_up inlined is_double 1 0 1 (omega arith) literal (sum (num 4)) (FormProofs.expression inlined is_double 1 (result_name 0 ∷ []) (int 0 ∷ []) (sum (num 4)) refl refl refl)

call_means : Means four_doubled (sum (num 4))
call_means = mean_trans inlined is_double 1 1 four_doubled (Let [] none literal) (sum (num 4)) literal_means (mean_trans inlined is_double 1 1 (Let [] none literal) literal (sum (num 4)) (mean_no_let inlined is_double 1 1 literal) sum_means)

-- ---- so the programs show the same

same_but_call : SameButParts called inlined is_double 1 rank
same_but_call f = go (is_double f) (same_func f main)
  where
    go : (b c : Bool) → ((if b then double else if c then prints four_doubled else no_func).params ≡ (if b then double else if c then prints (sum (num 4)) else no_func).params)
        × Same (MeanSame inlined is_double 1 (if b then 0 else 1)) (Below is_double rank (if b then 0 else 1)) (code (if b then double else if c then prints four_doubled else no_func)) (code (if b then double else if c then prints (sum (num 4)) else no_func))
    go true c = (refl, Same.let' Same.vals (Same.within (Same.let' (Same.set (Same.prim' (Same.both Same.local Same.local))) Same.leave)))
    go false true = (refl, Same.let' Same.vals (Same.within (Same.prim' (Same.swap (Same.call (λ e. omega arith) (Same.both Same.vals Same.vals)) call_means))))
    go false false = (refl, Same.let' Same.vals (Same.within Same.vals))

at_most : (b : Bool) → (if b then 0 else 1) ≤ 1
at_most true = omega arith
at_most false = omega arith

lower : (b : Bool) → b ≡ true → (if b then 0 else 1) < 1
lower true e = omega arith
lower false e = absurd (true≢false (sym e))

show_freely_the_same : (choices : List ℕ) (n : ℕ) → free_shows called is_double 1 none main choices n ≡ free_shows inlined is_double 1 none main choices n
show_freely_the_same choices n = shows_same inlined is_double 1 rank called (λ f. at_most (is_double f)) (λ f e. lower (is_double f) e) (λ f. (same_but_call f).0) (λ f. (same_but_call f).1) none none Same.vals main choices n

show_the_same : (choices : List ℕ) (n : ℕ) → Covers (shows called none main choices n) (shows inlined none main choices (2 * (n + 1))) × Covers (shows inlined none main choices n) (shows called none main choices (2 * (n + 1)))
show_the_same choices n = both_ways is_double 1 main choices n called inlined none none (show_freely_the_same choices n)
