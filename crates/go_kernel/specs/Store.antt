-- The store: the memory, which has package variables and cells in order of allocation, and the choices that the order
-- of a range over a map is drawn from (Go specification, "Variables", "Allocation", "For statements with range
-- clause").
use Rattle.std.specs.Prelude.{ℕ, Bool, ◌&&◌, List, [], ◌∷◌, ◌++◌, if◌then◌else◌, Option, Some}
use Rattle.std.specs.Prelude.{None, slice_get, slice_set}
use Rattle.go_kernel.specs.Names.{Name, ImportPath, same_text}
use Rattle.go_kernel.specs.Values.{Base, Numbered, Global, Value, Pointer, at_path, with_path, or_nil}

-- what a cell holds: a variable's value, the elements that slices share, or a map's entries in order of insertion
pub data Cell : Type 0 where
  Variable : Value → Cell
  Elements : List Value → Cell
  Entries : List (Value × Value) → Cell

-- a package variable: its package, its name and its value
pub record GlobalVariable : Type 0 where
  pub home : ImportPath
  pub name : Name
  pub value : Value

-- the package variables, and the cells in order of allocation
pub record Memory : Type 0 where
  pub globals : List GlobalVariable
  pub cells : List Cell

-- the memory, and the choices that are left
pub record Store : Type 0 where
  pub memory : Memory
  pub choices : List ℕ

-- nothing is declared or allocated yet
abbrev pub empty_store : List ℕ → Store
empty_store choices = record { memory = record { globals = []; cells = [] }; choices = choices }

-- ---- package variables

-- the package variable with this path and name
abbrev pub is_global : ImportPath → Name → GlobalVariable → Bool
is_global p n g = same_text p g.home && same_text n g.name

-- the value of a package variable that was set
abbrev pub global_in : ImportPath → Name → List GlobalVariable → Option Value
global_in p n [] = None
global_in p n (g ∷ gs) = if is_global p n g then Some g.value else global_in p n gs

-- a package variable that is not there yet is added
abbrev pub with_global : ImportPath → Name → Value → List GlobalVariable → List GlobalVariable
with_global p n v [] = record { home = p; name = n; value = v } ∷ []
with_global p n v (g ∷ gs) = if is_global p n g then record g { value = v } ∷ gs else g ∷ with_global p n v gs

-- ---- cells

-- the memory with one more cell
abbrev pub allocated : Cell → Memory → Memory
allocated x m = record m { cells = m.cells ++ x ∷ [] }

-- the memory with another cell at its place
abbrev pub with_cell : ℕ → Cell → Memory → Memory
with_cell p x m = record m { cells = slice_set m.cells p x }

-- the elements that a cell holds
abbrev pub elements : Option Cell → List Value
elements (Some (Elements vs)) = vs
elements _ = []

-- the entries that a cell holds
abbrev pub entries : Option Cell → List (Value × Value)
entries (Some (Entries es)) = es
entries _ = []

-- the elements of the cell with this number
abbrev pub elements_at : ℕ → Memory → List Value
elements_at p m = elements (slice_get m.cells p)

-- the entries of the cell with this number
abbrev pub entries_at : ℕ → Memory → List (Value × Value)
entries_at p m = entries (slice_get m.cells p)

-- ---- what a pointer leads to

-- what stands at a path of fields in a value that may be there
abbrev pub path_in : List ℕ → Option Value → Option Value
path_in is None = None
path_in is (Some v) = at_path is v

-- the first number of a path into elements is an index
abbrev pub in_cell : List ℕ → Option Cell → Option Value
in_cell is (Some (Variable v)) = at_path is v
in_cell (i ∷ is) (Some (Elements vs)) = path_in is (slice_get vs i)
in_cell _ _ = None

-- what stands at a path in a cell or in a package variable
abbrev pub read_at : Base → List ℕ → Memory → Option Value
read_at (Numbered p) is m = in_cell is (slice_get m.cells p)
read_at (Global p n) is m = path_in is (global_in p n m.globals)

-- what a pointer leads to
abbrev pub at_pointer : Value → Memory → Option Value
at_pointer (Pointer b is) m = read_at b is m
at_pointer _ m = None

-- what a pointer leads to in a store
abbrev pub value_at : Value → Store → Option Value
value_at v c = at_pointer v c.memory

-- a cell with another value at a path
abbrev pub cell_with : List ℕ → Value → Cell → Cell
cell_with is x (Variable v) = Variable (with_path is x v)
cell_with (i ∷ is) x (Elements vs) = Elements (slice_set vs i (with_path is x (or_nil (slice_get vs i))))
cell_with _ x c = c

-- the memory with another value at a path of a cell that may be there
abbrev pub write_cell : ℕ → List ℕ → Value → Option Cell → Memory → Memory
write_cell p is x None m = m
write_cell p is x (Some y) m = with_cell p (cell_with is x y) m

-- the memory with another value at a path of a package variable
abbrev pub write_global : ImportPath → Name → List ℕ → Value → Option Value → Memory → Memory
write_global p n is x old m = record m { globals = with_global p n (with_path is x (or_nil old)) m.globals }

-- the memory with another value at a path of a cell or of a package variable
abbrev pub write_at : Base → List ℕ → Value → Memory → Memory
write_at (Numbered p) is x m = write_cell p is x (slice_get m.cells p) m
write_at (Global p n) is x m = write_global p n is x (global_in p n m.globals) m

-- the memory after a write through a pointer; a value that is no pointer changes nothing
abbrev pub written : Value → Value → Memory → Memory
written (Pointer b is) x m = write_at b is x m
written _ x m = m
