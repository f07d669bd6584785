-- What terms ask a program for: functions that they call, at once or deferred, and package variables (Go specification,
-- "Calls", "Defer statements", "Declarations and scope").
use Rattle.std.specs.Prelude.{ℕ, Bool, true, ◌&&◌, List, [], ◌∷◌, ◌++◌, nat_lt, if◌then◌else◌}
use Rattle.std.specs.List.{list_any, list_all}
use Rattle.go_kernel.specs.Kernel.{Name, ImportPath, FuncName, same_text, same_func, Op, ReadGlobal, GlobalAddress}
use Rattle.go_kernel.specs.Kernel.{Save, Func, code, Term, Vals, Local, Set, Both, Prim, If, Let, Loop, Leave, Catch}
use Rattle.go_kernel.specs.Kernel.{Within, Alone, Recover, Call, Defer, DeferLit}
use Rattle.go_translation.specs.Packages.{PackageCode, functions_of, initial_of}

-- ---- functions

-- those that a term calls directly
abbrev pub called : Term → List FuncName
called (Vals vs) = []
called (Local x) = []
called (Set xs a) = called a
called (Both a b) = called a ++ called b
called (Prim o a) = called a
called (If a b c) = called a ++ (called b ++ called c)
called (Let xs a b) = called a ++ called b
called (Loop a b) = called a ++ called b
called (Leave l) = []
called (Catch l a) = called a
called (Within a rs) = called a
called (Alone a) = called a
called Recover = []
called (Call f a) = f ∷ called a
called (Defer f a) = called a
called (DeferLit xs a b) = called a ++ called b

-- and those whose calls it defers
abbrev pub deferred : Term → List FuncName
deferred (Vals vs) = []
deferred (Local x) = []
deferred (Set xs a) = deferred a
deferred (Both a b) = deferred a ++ deferred b
deferred (Prim o a) = deferred a
deferred (If a b c) = deferred a ++ (deferred b ++ deferred c)
deferred (Let xs a b) = deferred a ++ deferred b
deferred (Loop a b) = deferred a ++ deferred b
deferred (Leave l) = []
deferred (Catch l a) = deferred a
deferred (Within a rs) = deferred a
deferred (Alone a) = deferred a
deferred Recover = []
deferred (Call f a) = deferred a
deferred (Defer f a) = f ∷ deferred a
deferred (DeferLit xs a b) = deferred a ++ deferred b

-- ---- package variables

-- the package variable that a primitive reads, or whose address it gives
abbrev pub variable_of : Op → List (ImportPath × Name)
variable_of (ReadGlobal p n) = (p, n) ∷ []
variable_of (GlobalAddress p n) = (p, n) ∷ []
variable_of o = []

-- those that a term reads, or whose address it takes
abbrev pub variables : Term → List (ImportPath × Name)
variables (Vals vs) = []
variables (Local x) = []
variables (Set xs a) = variables a
variables (Both a b) = variables a ++ variables b
variables (Prim o a) = variable_of o ++ variables a
variables (If a b c) = variables a ++ (variables b ++ variables c)
variables (Let xs a b) = variables a ++ variables b
variables (Loop a b) = variables a ++ variables b
variables (Leave l) = []
variables (Catch l a) = variables a
variables (Within a rs) = variables a
variables (Alone a) = variables a
variables Recover = []
variables (Call f a) = variables a
variables (Defer f a) = variables a
variables (DeferLit xs a b) = variables a ++ variables b

-- those that a term sets to values, one after the other
abbrev pub variables_set_by : Term → List (ImportPath × Name)
variables_set_by (Let xs a b) = variables_set_by a ++ variables_set_by b
variables_set_by (Prim (Save c) (Both (Prim (GlobalAddress p n) a) b)) = (p, n) ∷ []
variables_set_by t = []

-- ---- nothing that is missing is asked for

-- the function is declared
abbrev pub has_function : List (FuncName × Func) → FuncName → Bool
has_function ds f = list_any (λ d. same_func f d.0) ds

-- the same variable of the same package
abbrev pub same_variable : ImportPath × Name → ImportPath × Name → Bool
same_variable x y = same_text x.0 y.0 && same_text x.1 y.1

-- each function and each package variable that the term asks for is there
abbrev pub asks_for : List (FuncName × Func) → List (ImportPath × Name) → Term → Bool
asks_for ds vs t =
    list_all (has_function ds) (called t)
    && (list_all (has_function ds) (deferred t) && list_all (λ x. list_any (same_variable x) vs) (variables t))

-- Each function that any code asks for is declared, and each package variable is one that is set before `main` runs; so
-- are those that the package variables' own values ask for.
abbrev pub asks_nothing_missing : List PackageCode → Bool
asks_nothing_missing cs =
    let asks : Term → Bool = asks_for (functions_of cs) (variables_set_by (initial_of cs)) in
    asks (initial_of cs) && list_all (λ d. asks (code d.1)) (functions_of cs)

-- ---- ranks

-- a free function below this rank, or one that isn't free
abbrev pub is_below : (FuncName → Bool) → (FuncName → ℕ) → ℕ → FuncName → Bool
is_below free rank k f = if free f then nat_lt (rank f) k else true

-- each free function calls free ones of lower rank alone
abbrev pub is_ranked : List (FuncName × Func) → (FuncName → Bool) → (FuncName → ℕ) → Bool
is_ranked ds free rank =
    list_all (λ d. if free d.0 then list_all (is_below free rank (rank d.0)) (called (code d.1)) else true) ds
