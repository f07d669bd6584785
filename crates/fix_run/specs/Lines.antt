-- The line that a status has.
use Rattle.std.specs.Prelude.{ℕ, ◌<◌, List, [], ◌++◌, slice_index_or, codes, Option, Some, None}
use Rattle.refusals.specs.declared.refusal.Refusal.{Refusal}
use Rattle.refusals.specs.Line as refusal
use Rattle.module_refusals.specs.Refused.{IsBelow}
use Rattle.fix_run.specs.declared.status.Status.{Status}
use Rattle.fix_run.specs.declared.status.Status.TheVariants.{Done, Found, Usage, NoMemory, ListFault, ReadFault}
use Rattle.fix_run.specs.declared.status.Status.TheVariants.{Refused, WriteFault, ReportFault}

-- the path of the listed file that a refusal names, or nothing
abbrev pub path_in : List (List ℕ) → Option ℕ → List ℕ
path_in paths None = []
path_in paths (Some i) = slice_index_or paths i []

-- the line of a refusal, by the listed paths
abbrev pub refusal_line : Refusal → List (List ℕ) → List ℕ
refusal_line r paths = refusal.line_of r (path_in paths r.file)

-- by the listed paths, to which the numbers of a status point
abbrev pub line_of : Status → List (List ℕ) → List ℕ
line_of Usage paths = codes "gofix: usage: gofix [--fix] [--only PREFIX] [--load N]\n"
line_of NoMemory paths = codes "gofix: out of memory\n"
line_of ListFault paths = codes "gofix: can't list files\n"
line_of (ReadFault i) paths = codes "gofix: can't read " ++ slice_index_or paths i [] ++ codes "\n"
line_of (Refused r) paths = refusal_line r paths
line_of (WriteFault i) paths = codes "gofix: can't replace " ++ slice_index_or paths i [] ++ codes "\n"
line_of _ paths = []

-- The file that a status names is one of so many.
abbrev pub IsOfFile : Status → ℕ → Type 0
IsOfFile (ReadFault i) n = i < n
IsOfFile (WriteFault i) n = i < n
IsOfFile (Refused r) n = IsBelow n r.file
IsOfFile _ n = Unit {0}

-- A fact for each status that has a line.
abbrev pub IfTold : Status → Type 0 → Type 0
IfTold Done P = Unit {0}
IfTold Found P = Unit {0}
IfTold ReportFault P = Unit {0}
IfTold _ P = P

-- A fact for each status whose report is out.
abbrev pub IfOut : Status → Type 0 → Type 0
IfOut Done P = P
IfOut Found P = P
IfOut _ P = Unit {0}
