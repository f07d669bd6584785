-- The arguments of a call with their parameters, of which some are chosen to take their parameters' places.
use Rattle.std.specs.Prelude.{bytes_eq, List, [], ◌∷◌, Bool, true, false, if◌then◌else◌}
use Rattle.go_kernel.specs.Kernel.{Name, Term, Vals, Local, Both}

-- a parameter's name, its argument, names among which are all that are free in the argument as it is written, and
-- whether it is chosen
pub data Arg : Type 0 where
  arg : Name → Term → List Name → Bool → Arg

-- the names of the parameters
abbrev pub names_of : List Arg → List Name
names_of [] = []
names_of (arg x a fr c ∷ os) = x ∷ names_of os

-- all arguments, in order
abbrev pub args_of : List Arg → Term
args_of [] = Vals []
args_of (arg x a fr c ∷ os) = Both a (args_of os)

-- those that stay bound
abbrev pub rest : List Arg → List Arg
rest [] = []
rest (arg x a fr true ∷ os) = rest os
rest (arg x a fr false ∷ os) = arg x a fr false ∷ rest os

-- what stands for a name: the argument of a chosen parameter with this name, or else σ
abbrev pub choose : List Arg → (Name → Term) → Name → Term
choose [] σ z = σ z
choose (arg x a fr true ∷ os) σ z = if bytes_eq z x then a else choose os σ z
choose (arg x a fr false ∷ os) σ z = choose os σ z

-- the chosen arguments in place of their parameters, and each other name as it is
abbrev pub chosen : List Arg → Name → Term
chosen os = choose os Local
