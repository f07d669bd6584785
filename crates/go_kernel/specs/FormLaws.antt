-- The laws of forms: what may stand for a called literal and for a deferred call. Each is the contract of a function of
-- this crate.
use Rattle.std.specs.Prelude.{◌≡◌, ℕ, List, [], ◌∷◌, length, Bool, true, false, if◌then◌else◌, Some}
use Rattle.go_kernel.specs.Kernel.{Name, FuncName, Value, Slot, Term, Vals, Set, Let, Within, Alone, Defer, DeferLit}
use Rattle.go_kernel.specs.Kernel.{code, Program}
use Rattle.go_kernel.specs.Scope.{has, Scoped}
use Rattle.go_kernel.specs.Substitution.{sub}
use Rattle.go_kernel.specs.Alike.{MeanSame}
use Rattle.go_kernel.specs.Classes.{steady}
use Rattle.go_kernel.specs.Items.{items, writes}
use Rattle.go_kernel.specs.Arguments.{Arg, arg, names_of, args_of, rest, chosen}
use Rattle.go_kernel.specs.Conditions.{width, each_free, none_in}
use Rattle.go_kernel.specs.Choosing.{Row, Safe, AreRows}
use Rattle.go_kernel.specs.ChosenLaws.{Receives}
use Rattle.go_kernel.specs.Forms.{in_frames, give_slots, return_to, return_to_slots, slot_names, distinct_names, tidy}
use Rattle.go_kernel.specs.Forms.{never, retarget, turns}

-- the term names none of these
abbrev pub names_none : List Name → Term → Bool
names_none ss e =
    each_free (λ h z. if has z ss then false else true) (λ h z. if has z ss then false else true) false [] e

-- a called literal whose body is one return of an expression is the expression, where this gives as many values as
-- there are results and doesn't recover
abbrev pub ReturnIsItsExpression : Type 0
ReturnIsItsExpression =
    (P : Program) (free : FuncName → Bool) (A : ℕ) (ss : List Name) (zeros : List Value) (e : Term) →
    distinct_names ss ≡ true → width P e ≡ Some (length ss) → names_none ss e ≡ true
    → MeanSame P free A 0 (Alone (Let ss (Vals zeros) (Within (return_to ss e) (in_frames ss)))) e

-- a called literal without results whose body has no return, defer or recover is a block
abbrev pub BodyIsBlock : Type 0
BodyIsBlock = (P : Program) (free : FuncName → Bool) (A : ℕ) (t : Term) → tidy [] t ≡ true → names_none [] t ≡ true →
    MeanSame P free A 0 (Alone (Let [] (Vals []) (Within t []))) (Let [] t (Vals []))

-- a called literal with its parameters bound to a, with results ss
abbrev pub called_with : List Name → List Name → List Value → Term → Term → Term
called_with ps ss zeros a body = Let ps a (Alone (Let ss (Vals zeros) (Within body (in_frames ss))))

-- where a called literal is all that a return returns, its body with its returns turned into the caller's may stand for
-- the return; results that stand in the frame
abbrev pub TailIsBlock : Type 0
TailIsBlock =
    (P : Program) (free : FuncName → Bool) (A : ℕ) (ps ss rs : List Name) (zeros : List Value) (a body : Term) (k : ℕ) →
    width P a ≡ Some k → distinct_names ss ≡ true → length zeros ≡ length ss → none_in rs ps ≡ true
    → turns P ps ss (none_in rs) [] [] body ≡ true → never (retarget ss (Set rs) body) ≡ true →
    MeanSame P free A 0 (return_to rs (called_with ps ss zeros a body)) (Let ps a (retarget ss (Set rs) body))

-- the same where the caller's results may live in variables that pointers lead to; ts are temporaries
abbrev pub TailIntoSlotsIsBlock : Type 0
TailIntoSlotsIsBlock =
    (P : Program) (free : FuncName → Bool) (A : ℕ) (ps ss : List Name) (rs : List Slot) (ts : List Name)
    (zeros : List Value) (a body : Term) (k : ℕ) → width P a ≡ Some k → distinct_names ss ≡ true →
    length zeros ≡ length ss
    → length rs ≡ length ss → length ts ≡ length ss → distinct_names ts ≡ true → none_in (slot_names rs) ts ≡ true →
    none_in (slot_names rs) ps ≡ true
    → turns P ps ss (none_in (slot_names rs)) [] [] body ≡ true →
    never (retarget ss (λ e. Let ts e (give_slots rs ts)) body) ≡ true
    → MeanSame P free A 0 (return_to_slots rs ts (called_with ps ss zeros a body))
    (Let ps a (retarget ss (λ e. Let ts e (give_slots rs ts)) body))

-- a deferred call is the deferred literal with the same operands
abbrev pub DeferredCallIsItsLiteral : Type 0
DeferredCallIsItsLiteral = (P : Program) (free : FuncName → Bool) (A : ℕ) (f : FuncName) →
    Scoped (P f).params (code (P f)) → (a : Term) →
    MeanSame P free A 0 (Defer f a) (DeferLit (P f).params a (code (P f)))

-- each chosen argument is steady
abbrev pub AllSteady : List Arg → Type 0
AllSteady [] = Unit {0}
AllSteady (arg x a fr c ∷ os) = (c ≡ true → steady a ≡ true) × AllSteady os

-- and with a safe set of steady arguments in their parameters' places
abbrev pub DeferredCallMovesItsSafeSet : Type 0
DeferredCallMovesItsSafeSet = (P : Program) (free : FuncName → Bool) (A : ℕ) (f : FuncName) →
    Scoped (P f).params (code (P f)) → (os : List Arg) (rows : List Row) → Receives P f os
    → AreRows os (P f).slots (P f).body os rows → Safe (items (P f).slots (P f).body) (writes (P f).body) rows os →
    AllSteady os
    → MeanSame P free A 0 (Defer f (args_of os))
    (DeferLit (names_of (rest os)) (args_of (rest os)) (sub (chosen os) [] (code (P f))))
