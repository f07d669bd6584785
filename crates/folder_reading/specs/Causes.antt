-- Why the files of a folder aren't read.
use Rattle.std.specs.Prelude.{◌≡◌, ◌<◌, ℕ, List, map, length, Option, Some, Result, Ok, Err}
use Rattle.fix_io.specs.declared.Call.{Call}
use Rattle.fix_io.specs.declared.Call.TheVariants as call
use Rattle.fix_io.specs.Files.{HeldFile}
use Rattle.pkg_graph.specs.ModuleFiles.Selected.{selected}
use Rattle.folder_reading.specs.declared.faults.FolderFault.{FolderFault}
use Rattle.folder_reading.specs.declared.faults.FolderFault.TheVariants.{TooMany, Read, TooLong, NoMemory}
use Rattle.folder_reading.specs.declared.limits.TheConstants.{MAX_FILES}
use Rattle.folder_reading.specs.Sources.{Told, source_at}
use Rattle.folder_reading.specs.Limits.{AreFew, first_too_long}

-- Why files of these numbers aren't read: no memory; a fault of the tree; or a file that passes a limit.
abbrev pub StopsReading :
    FolderFault → Type 0 → Option Call → Option (List HeldFile) → List (List ℕ) → List ℕ → Type 0
StopsReading NoMemory rose failed held listed numbers = Unit {0}
StopsReading (Read i) rose failed held listed numbers =
    (i < length listed) × rose × (failed ≡ Some (call.Read i))
StopsReading (TooLong i) rose failed held listed numbers =
    (i < length listed) × Told held listed (λ files. first_too_long 0 (map (source_at files) numbers) ≡ Some i)
StopsReading TooMany rose failed held listed numbers = ⊥

-- Why the selected files aren't read: they are too many; or they aren't, and one of them can't be read or passes a
-- limit; or there is no memory.
abbrev pub StopsFolder : FolderFault → Type 0 → Option Call → Option (List HeldFile) → List (List ℕ) → Type 0
StopsFolder NoMemory rose failed held listed = Unit {0}
StopsFolder TooMany rose failed held listed = MAX_FILES < length (selected listed)
StopsFolder fault rose failed held listed =
    AreFew listed × StopsReading fault rose failed held listed (selected listed)

-- a fact for each fault but that of a call that failed
abbrev pub UnlessRead : FolderFault → Type 0 → Type 0
UnlessRead (Read _) P = Unit {0}
UnlessRead _ P = P

-- a tree has counted no fault, and remembers the same call that failed last
abbrev pub IsQuiet : ℕ → ℕ → Option Call → Option Call → Type 0
IsQuiet faults_before faults_now failed_before failed_now =
    (faults_now ≡ faults_before) × (failed_now ≡ failed_before)

-- a fact for each answer but that a call failed
abbrev pub IfQuiet : {T : Type 0} → Result T FolderFault → Type 0 → Type 0
IfQuiet (Ok _) P = P
IfQuiet (Err fault) P = UnlessRead fault P

-- why the file of this number isn't read: no memory, or a fault of the tree
abbrev pub FailsToRead : FolderFault → ℕ → Type 0 → Option Call → Type 0
FailsToRead NoMemory i rose failed = Unit {0}
FailsToRead (Read k) i rose failed = (k ≡ i) × rose × (failed ≡ Some (call.Read i))
FailsToRead _ i rose failed = ⊥
