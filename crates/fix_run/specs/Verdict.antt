-- What is answered where no fault rises and memory is there: the status, the files that are held afterwards, and the
-- bytes that are written.
use Rattle.std.specs.Prelude.{◌≡◌, ◌≢◌, ◌⊎◌, ⊤, ℕ, zero, suc, Bool, true, false, ◌<◌}
use Rattle.std.specs.Prelude.{if◌then◌else◌, List, ◌++◌, length, take, drop, Option, Some}
use Rattle.refusals.specs.declared.refusal.Refusal.{Refusal}
use Rattle.fix_io.specs.Files.{HeldFile, paths, bytes_at}
use Rattle.folder_reading.specs.Limits.{AreWithin}
use Rattle.folder_reading.specs.Sources.{sources_in}
use Rattle.pkg_graph.specs.Reads.{Source}
use Rattle.run_plans.specs.PlannedModules.Planned.{IsPlanned}
use Rattle.run_plans.specs.PlannedModules.Unplanned.{IsStopped}
use Rattle.run_rules.specs.Texts.{FileText}
use Rattle.command_words.specs.Words.{are_accepted, has_fix, only_of}
use Rattle.fix_run.specs.declared.status.Status.{Status}
use Rattle.fix_run.specs.declared.status.Status.TheVariants.{Done, Found, Usage, NoMemory, Refused}
use Rattle.fix_run.specs.Lines.{line_of}
use Rattle.fix_run.specs.Files.{OthersStay, files_after, folder_of}
use Rattle.fix_run.specs.Headline.{IsFolderInlining}
use Rattle.fix_run.specs.Refusals.{AreRefused, AreTaken, WhyRefused}

-- a status, the files that are held afterwards, and the bytes that are written out
pub record Verdict : Type 0 where
  pub status : Status
  pub files : List HeldFile
  pub bytes : List ℕ

-- the files stay, and the status's line is written
abbrev pub stays : Status → List HeldFile → Verdict
stays status files = record { status = status; files = files; bytes = line_of status (paths files) }

-- how a run of so many steps ends whose report is out: it is done, if files were to be written or nothing is to be done
abbrev pub ended : Bool → ℕ → Status
ended true steps = Done
ended false zero = Done
ended false (suc _) = Found

-- the verdict of a plan, by whether files are to be written: the last texts of its run, the report and the number of
-- steps
abbrev pub verdict_of : Bool → List HeldFile → List (List ℕ × FileText) → List ℕ → ℕ → Verdict
verdict_of fix files after report steps =
    record { status = ended fix steps; files = if fix then files_after files after else files; bytes = report }

-- The verdict for these words and the files of a tree, by ascending path: the words aren't accepted; the files are
-- refused; or they are planned for.
pub data IsVerdict (words : List (List ℕ)) (files : List HeldFile) : Verdict → Type 0 where
  of_words : are_accepted words ≡ false → IsVerdict words files (stays Usage files)
  of_files : are_accepted words ≡ true → (r : Refusal) → WhyRefused (only_of words) files r →
      IsVerdict words files (stays (Refused r) files)
  of_plan : are_accepted words ≡ true → AreWithin files → (after : List (List ℕ × FileText)) (report : List ℕ)
      (steps : ℕ) → IsPlanned (folder_of files) (sources_in files) (only_of words) after report steps →
      IsVerdict words files (verdict_of (has_fix words) files after report steps)

-- A run leads from the files to others, and its report is written. With `--fix` the status is Done, the new files are
-- those others, and those that aren't read stay. Without it the files stay, and the status is Found exactly where the
-- run has a step, or else Done.
pub record IsEnd (words : List (List ℕ)) (files : List HeldFile) (v : Verdict) : Type 0 where
  pub after : List Source
  pub inlined : IsFolderInlining (only_of words) (folder_of files) after v.bytes
  pub status : v.status ≡ ended (has_fix words) (length inlined.run.log)
  pub written : has_fix words ≡ true → folder_of v.files ≡ after
  pub others : OthersStay files v.files
  pub stay : has_fix words ≡ false → v.files ≡ files

-- The verdict is that of a run, and this is its status and these are its files.
pub record HasEnded (words : List (List ℕ)) (files : List HeldFile) (s : Status) (now : Option (List HeldFile))
    : Type 0 where
  pub verdict : Verdict
  pub is : IsVerdict words files verdict
  pub end : IsEnd words files verdict
  pub status : s ≡ verdict.status
  pub held : now ≡ Some verdict.files

-- The verdict refuses the files, for the cause that they have; where they are a well-typed module of the form that is
-- built, their run passes a limit.
pub record IsRefused (words : List (List ℕ)) (files : List HeldFile) (r : Refusal) : Type 0 where
  pub verdict : IsVerdict words files (stays (Refused r) files)
  pub refused : AreRefused (only_of words) files r

-- How a run may end over files that are taken: the report is out, where `--fix` leaves nothing to be found; or the run
-- passes a limit; or there is no memory.
abbrev pub MayEnd : List (List ℕ) → List HeldFile → Status → Type 0
MayEnd words files Done = ⊤
MayEnd words files Found = has_fix words ≡ false
MayEnd words files (Refused r) = IsStopped (folder_of files) (sources_in files) (only_of words) r
MayEnd words files NoMemory = ⊤
MayEnd words files _ = ⊥

-- The answer is that of the verdict, or there is no memory. So where the words are accepted and the files are a
-- well-typed module of the form that is built, of which the run passes no limit, it is Done with `--fix` and Done or
-- Found without it, or there is no memory.
pub record IsAnswer (words : List (List ℕ)) (files : List HeldFile) (s : Status) : Type 0 where
  pub status : ((v : Verdict) × IsVerdict words files v × (s ≡ v.status)) ⊎ (s ≡ NoMemory)
  pub ends : are_accepted words ≡ true → AreTaken files → MayEnd words files s

-- The i-th file was to change; the files before it are those of the verdict, and it and the others are the old ones.
pub record IsUpTo (i : ℕ) (words : List (List ℕ)) (files : List HeldFile) (now : Option (List HeldFile)) : Type 0 where
  pub verdict : Verdict
  pub is : IsVerdict words files verdict
  pub end : IsEnd words files verdict
  pub within : i < length files
  pub differs : bytes_at verdict.files i ≢ bytes_at files i
  pub left : now ≡ Some (take i verdict.files ++ drop i files)
