-- Which arguments of a call may take their parameters' places in the body together: each argument is then evaluated
-- where its parameter is used, and nobody can tell (Go specification, "Calls", "Order of evaluation", "Declarations and
-- scope"). Rows and items are read off the kernel terms of arguments and body.
use Rattle.std.specs.Prelude.{◌≡◌, ◌≢◌, ◌⊎◌, bytes_eq, ℕ, ◌+◌, ◌≤◌, List, [], ◌∷◌}
use Rattle.std.specs.Prelude.{Bool, true, false, if◌then◌else◌, Option, Some, None, nat_eq}
use Rattle.go_kernel.specs.Kernel.{Name, Term, Program}
use Rattle.go_kernel.specs.Scope.{has}
use Rattle.go_kernel.specs.Classes.{Class, Looks, Acts, class_of, allows, clash}
use Rattle.go_kernel.specs.Items.{Item, Param, Read, Fail, Write, is_stop, uses}
use Rattle.go_kernel.specs.Arguments.{Arg, arg, names_of}
use Rattle.go_kernel.specs.Conditions.{width, each_free, no_spares, is_spare, none_in}

-- what is asked of an argument and its parameter. Whether the argument may be written twice, has the address of a
-- variable, names a variable that lives in a cell or a variable's last use is a matter of the text
pub record Row : Type 0 where
  pub class : Class
  pub constant : Bool
  pub duplicable : Bool
  pub uses : ℕ
  pub barred : Bool
  pub deferred_use : Bool
  pub last_use : Bool
  pub names_held : Bool
  pub address : Bool

-- ---- items

-- one, where the item is a use of the parameter
abbrev pub use_of : Name → Item → ℕ
use_of x (Param z) = if bytes_eq z x then 1 else 0
use_of x _ = 0

-- a use of the parameter
abbrev pub is_use : Name → Item → Bool
is_use x (Param z) = bytes_eq z x
is_use x _ = false

-- a store, an allocation, a print, or what else changes the memory
abbrev pub is_write : Item → Bool
is_write Write = true
is_write _ = false

-- what an argument that acts must not pass
abbrev pub is_effect : Item → Bool
is_effect Read = true
is_effect Fail = true
is_effect Write = true
is_effect _ = false

-- the number of uses of x that are listed before the first item of a kind
abbrev pub uses_before : (Item → Bool) → Name → List Item → ℕ
uses_before kind x [] = 0
uses_before kind x (i ∷ I) = if is_stop i then 0 else if kind i then 0 else use_of x i + uses_before kind x I

-- the list I shows no more uses before a write, before any effect or before another's use than J does: it may end
-- earlier and have further reads, failures and writes
abbrev pub AsCareful : List Item → List Item → Type 0
AsCareful I J = (x : Name) →
    (uses_before is_write x I ≤ uses_before is_write x J) × (uses_before is_effect x I ≤ uses_before is_effect x J)
    × ((z : Name) → uses_before (is_use z) x I ≤ uses_before (is_use z) x J)

-- ---- one argument

-- The argument of a parameter without uses may be dropped: it does nothing, has no address of a variable, and names no
-- variable that lives in a cell or that is used nowhere else.
pub record Droppable (r : Row) : Type 0 where
  pub acts_not : r.class ≢ Acts
  pub address_not : r.address ≡ false
  pub held_not : r.names_held ≡ false
  pub last_not : r.last_use ≡ false

-- the argument of parameter x may take the parameter's place, as far as it alone tells
pub record Solo (r : Row) (x : Name) (I : List Item) (body_writes : Bool) : Type 0 where
  -- nothing bars it
  pub free : r.barred ≡ false
  -- what is evaluated later than the call is a constant
  pub deferred : r.deferred_use ≡ true → r.constant ≡ true
  -- what is written twice or more may be
  pub repeated : 2 ≤ r.uses → r.duplicable ≡ true
  -- what is dropped does nothing
  pub unused : r.uses ≡ 0 → Droppable r
  -- what looks never comes after a write: the body has none, or all uses are listed before any
  pub looking : r.class ≡ Looks → (body_writes ≡ false) ⊎ (uses_before is_write x I ≡ r.uses)
  -- what acts does so once: its one use is listed before any read, failure or write
  pub acting : r.class ≡ Acts → (r.uses ≡ 1) × (uses_before is_effect x I ≡ 1)

-- ---- a set of them

-- each later parameter whose class clashes with this one's is chosen too, and the uses of this one are listed before
-- its uses
abbrev pub Later : Row → Name → List Item → List Row → List Arg → Type 0
Later r x I (q ∷ rows) (arg z a fr c ∷ os) =
    (clash r.class q.class ≡ true → (c ≡ true) × (uses_before (is_use z) x I ≡ r.uses)) × Later r x I rows os
Later r x I _ _ = Unit {0}

-- of two parameters: where one is chosen and the other's name is free in its argument, the other is chosen
abbrev pub NamesMove : Arg → Arg → Type 0
NamesMove (arg x a fr c) (arg z b fr' c') = (c ≡ true → c' ≡ false → has z fr ≡ false)
    × (c' ≡ true → c ≡ false → has x fr' ≡ false)

-- so of a parameter and each of those after it
abbrev pub NamesMoveAll : Arg → List Arg → Type 0
NamesMoveAll o [] = Unit {0}
NamesMoveAll o (p ∷ os) = NamesMove o p × NamesMoveAll o os

-- the chosen set is safe
abbrev pub Safe : List Item → Bool → List Row → List Arg → Type 0
Safe I w (r ∷ rows) (arg x a fr c ∷ os) = (c ≡ true → Solo r x I w × Later r x I rows os)
    × NamesMoveAll (arg x a fr c) os × Safe I w rows os
Safe I w _ _ = Unit {0}

-- ---- rows read off terms

-- a body t whose own names g are bound around it assigns no variable x that isn't its own
abbrev pub unassigned : Name → List Name → Term → Bool
unassigned x g t = each_free (λ h z. true) (λ h z. if bytes_eq z x then false else true) true g t

-- nothing that is bound at a use of x is among these names
abbrev pub uncaptured : Name → List Name → List Name → Term → Bool
uncaptured x fr g t = each_free (λ h z. if bytes_eq z x then none_in fr h else true) (λ h z. true) true g t

-- an argument's free names are among these, and it assigns none of them; 'recover' stands in it where r says so
abbrev pub names_only : Bool → List Name → Term → Bool
names_only r fr a = each_free (λ h w. has w fr) (λ h w. false) r [] a

-- so of all arguments
abbrev pub all_name_only : List Arg → Bool
all_name_only [] = true
all_name_only (arg x a fr c ∷ os) = if names_only true fr a then all_name_only os else false

-- the row of an argument: its class or a wider one, its uses, and what bars it: an assignment, a captured name, a
-- 'recover' in it, or an argument that assigns a variable which it doesn't declare
abbrev pub IsRow : List Arg → List Name → Term → Arg → Row → Type 0
IsRow all g t (arg x a fr c) r =
    (allows r.class (class_of a) ≡ true) × (r.uses ≡ uses x g t)
    × (r.barred ≡ false →
    (unassigned x g t ≡ true) × (uncaptured x fr g t ≡ true) × (names_only false fr a ≡ true)
    × (all_name_only all ≡ true))

-- the rows of all arguments, one each
abbrev pub AreRows : List Arg → List Name → Term → List Arg → List Row → Type 0
AreRows all g t [] [] = Unit {0}
AreRows all g t (o ∷ os) (r ∷ rows) = IsRow all g t o r × AreRows all g t os rows
AreRows all g t _ _ = ⊥

-- ---- what calls have anyway

-- no two parameters have one name
abbrev pub distinct : List Arg → Bool
distinct [] = true
distinct (arg x a fr c ∷ os) = if has x (names_of os) then false else distinct os

-- one value
abbrev pub is_one : Option ℕ → Bool
is_one (Some k) = nat_eq k 1
is_one None = false

-- each argument gives one value, and no name is one that the laws rename to
abbrev pub well_named : Program → List Arg → Bool
well_named P [] = true
well_named P (arg x a fr c ∷ os) =
    if is_one (width P a) then (if is_spare x then false else if no_spares fr then well_named P os else false)
    else false

-- a body's free names are parameters, and it binds no name that the laws rename to
abbrev pub closed : List Name → List Name → Term → Bool
closed xs g t =
    each_free (λ h z. if has z xs then no_spares h else false) (λ h z. if has z xs then no_spares h else false) true g t
