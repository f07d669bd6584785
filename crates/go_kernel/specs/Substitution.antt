-- Substitution of terms for free names.
use Rattle.std.specs.Prelude.{List, [], ◌∷◌, ◌++◌, if◌then◌else◌}
use Rattle.go_kernel.specs.Kernel.{Name, Term, Vals, Local, Set, Both, Prim, If, Let, Loop, Leave, Catch, Within, Alone}
use Rattle.go_kernel.specs.Kernel.{Recover, Call, Defer, DeferLit}
use Rattle.go_kernel.specs.Scope.{has}

-- what stands for a name, where g has been bound since
abbrev pub at : (Name → Term) → List Name → Name → Term
at τ g x = if has x g then Local x else τ x

-- the variable that an assignment to a name sets
abbrev pub name_of : Term → Name → Name
name_of (Local z) x = z
name_of _ x = x

-- the variables that an assignment to these names sets
abbrev pub names_at : (Name → Term) → List Name → List Name → List Name
names_at τ g [] = []
names_at τ g (x ∷ xs) = name_of (at τ g x) x ∷ names_at τ g xs

-- the term with τ in place of its free names; an assignment to a free name sets the variable that stands for it
abbrev pub sub : (Name → Term) → List Name → Term → Term
sub τ g (Vals v) = Vals v
sub τ g (Local x) = at τ g x
sub τ g (Set xs a) = Set (names_at τ g xs) (sub τ g a)
sub τ g (Both a b) = Both (sub τ g a) (sub τ g b)
sub τ g (Prim o a) = Prim o (sub τ g a)
sub τ g (If a b c) = If (sub τ g a) (sub τ g b) (sub τ g c)
sub τ g (Let xs a b) = Let xs (sub τ g a) (sub τ (xs ++ g) b)
sub τ g (Loop a b) = Loop (sub τ g a) (sub τ g b)
sub τ g (Leave l) = Leave l
sub τ g (Catch l a) = Catch l (sub τ g a)
sub τ g (Within a rs) = Within (sub τ g a) rs
sub τ g (Alone a) = Alone (sub τ g a)
sub τ g Recover = Recover
sub τ g (Call f a) = Call f (sub τ g a)
sub τ g (Defer f a) = Defer f (sub τ g a)
sub τ g (DeferLit xs a b) = DeferLit xs (sub τ g a) (sub τ (xs ++ g) b)
