-- Why a status comes.
use Rattle.std.specs.Prelude.{◌≡◌, ◌≢◌, ℕ, true, false, List, Option, Some, IfSome, Result, Ok, Err}
use Rattle.fix_io.specs.declared.Call.{Call}
use Rattle.fix_io.specs.declared.Call.TheVariants as call
use Rattle.fix_io.specs.Files.{HeldFile}
use Rattle.fix_run.specs.declared.status.Status.{Status}
use Rattle.fix_run.specs.declared.status.Status.TheVariants.{Done, Found, NoMemory, ListFault, ReadFault, Refused}
use Rattle.fix_run.specs.declared.status.Status.TheVariants.{WriteFault, ReportFault, Usage}
use Rattle.fix_run.specs.Listed.{lists_module}
use Rattle.fix_run.specs.Refusals.{AreRefused, told_too_long}
use Rattle.folder_reading.specs.declared.faults.FolderFault.{FolderFault}
use Rattle.folder_reading.specs.declared.faults.FolderFault.TheVariants as folder
use Rattle.folder_reading.specs.Limits.{AreFew}
use Rattle.module_refusals.specs.Told.{told_whole}
use Rattle.refusals.specs.declared.refusal.Detail.TheVariants.{TooBig}
use Rattle.fix_io.specs.Contents.{appended, IsPartOut}
use Rattle.run_plans.specs.declared.planned_modules.plan.Plan.{Plan}
use Rattle.command_words.specs.Words.{are_accepted}

-- A fault of the tree is answered only where its count rose, and the call that failed is named.
abbrev pub HasCause : Status → Type 0 → Option Call → Type 0
HasCause ListFault rose failed = rose × (failed ≡ Some call.List)
HasCause (ReadFault i) rose failed = rose × (failed ≡ Some (call.Read i))
HasCause (WriteFault i) rose failed = rose × (failed ≡ Some (call.Replace i))
HasCause _ rose failed = Unit {0}

-- A file is read only where no more are selected than a module may have, and replaced or reported only where besides
-- `go.mod` is listed.
abbrev pub PassedChecks : Status → List (List ℕ) → Type 0
PassedChecks (ReadFault i) listed = AreFew listed
PassedChecks (WriteFault i) listed = AreFew listed × (lists_module listed ≡ true)
PassedChecks ReportFault listed = AreFew listed × (lists_module listed ≡ true)
PassedChecks Done listed = AreFew listed × (lists_module listed ≡ true)
PassedChecks Found listed = AreFew listed × (lists_module listed ≡ true)
PassedChecks _ listed = Unit {0}

-- A fact for each status that comes before the first file is replaced.
abbrev pub IfUnwritten : Status → Type 0 → Type 0
IfUnwritten Done P = Unit {0}
IfUnwritten (WriteFault _) P = Unit {0}
IfUnwritten ReportFault P = Unit {0}
IfUnwritten _ P = P

-- A fact for each status but those that tell of a call of the tree that failed.
abbrev pub IfNoFault : Status → Type 0 → Type 0
IfNoFault ListFault P = Unit {0}
IfNoFault (ReadFault _) P = Unit {0}
IfNoFault (WriteFault _) P = Unit {0}
IfNoFault _ P = P

-- A fact for each answer but those that tell of a call of the tree that failed.
abbrev pub IfQuiet : {T : Type 0} → Result T Status → Type 0 → Type 0
IfQuiet (Ok _) P = P
IfQuiet (Err status) P = IfNoFault status P

-- A tree has counted no fault, and remembers the same call that failed last.
abbrev pub IsQuiet : ℕ → ℕ → Option Call → Option Call → Type 0
IsQuiet faults_before faults_now failed_before failed_now =
    (faults_now ≡ faults_before) × (failed_now ≡ failed_before)

-- how a run ends whose files aren't read
abbrev pub status_of : FolderFault → Status
status_of folder.TooMany = Refused (told_whole TooBig)
status_of (folder.Read i) = ReadFault i
status_of (folder.TooLong i) = Refused (told_too_long i)
status_of folder.NoMemory = NoMemory

-- Why the words ask for nothing: they aren't accepted, or there is no memory.
abbrev pub StopsWords : List (List ℕ) → Status → Type 0
StopsWords words Usage = are_accepted words ≡ false
StopsWords words NoMemory = Unit {0}
StopsWords words _ = ⊥

-- Why there is no plan for declarations whose full names begin with `only`: the files aren't listed, or one isn't read,
-- where the checks before it passed; they are refused; or there is no memory.
abbrev pub MayStop : List ℕ → Status → Type 0 → Option Call → List (List ℕ) → Option (List HeldFile) → Type 0
MayStop only ListFault rose failed listed held = rose × (failed ≡ Some call.List)
MayStop only (ReadFault i) rose failed listed held = rose × (failed ≡ Some (call.Read i)) × AreFew listed
MayStop only (Refused r) rose failed listed held = IfSome held (λ files. AreRefused only files r)
MayStop only NoMemory rose failed listed held = Unit {0}
MayStop only _ rose failed listed held = ⊥

-- How a run ends that only reports its plan: the report is out, and there is nothing to do or something was found; or a
-- front of the report is out.
abbrev pub IsReported : Status → Plan → Option (List ℕ) → Option (List ℕ) → Type 0
IsReported Done p old new = (p.steps ≡ 0) × (new ≡ appended old p.report)
IsReported Found p old new = (p.steps ≢ 0) × (new ≡ appended old p.report)
IsReported ReportFault p old new = IsPartOut old new p.report
IsReported _ p old new = ⊥
