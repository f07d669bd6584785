-- How a run ends whose files aren't read.
use Rattle.std.proofs.Common.{◌≡◌, ◌∙◌, ℕ, ◌<◌, List, length, map, ap, sym, subst}
use Rattle.std.specs.Prelude.{Option, Some, None, IfSome}
use Rattle.fix_io.specs.declared.Call.{Call}
use Rattle.fix_io.specs.Causes.{Rose}
use Rattle.fix_io.specs.Files.{HeldFile, paths}
use Rattle.folder_reading.specs.declared.faults.FolderFault.{FolderFault}
use Rattle.folder_reading.specs.declared.faults.FolderFault.TheVariants.{TooMany, Read, TooLong, NoMemory}
use Rattle.folder_reading.specs.declared.limits.TheConstants.{MAX_FILES}
use Rattle.folder_reading.specs.Causes.{StopsFolder}
use Rattle.folder_reading.specs.Limits.{AreFew, first_too_long}
use Rattle.folder_reading.specs.Sources.{source_at, sources_in}
use Rattle.pkg_graph.specs.ModuleFiles.Selected.{selected}
use Rattle.fix_run.specs.declared.status.Status.{Status}
use Rattle.fix_run.specs.Causes.{MayStop, status_of}
use Rattle.fix_run.proofs.VerdictLemmas.{refused_many, refused_long}

module _ (only : List ℕ) where
  stops : (fault : FolderFault) (rose : Type 0) (failed : Option Call) (listed : List (List ℕ)) (held : Option (List HeldFile)) → IfSome held (λ files. listed ≡ paths files)
      → StopsFolder fault rose failed held listed → MayStop only (status_of fault) rose failed listed held
  stops NoMemory rose failed listed held exact stop = tt
  stops TooMany rose failed listed None exact stop = tt
  stops TooMany rose failed listed (Some files) exact stop =
      let much : MAX_FILES < length (selected (paths files)) = subst (λ ps. MAX_FILES < length (selected ps)) exact stop in
      refused_many only files much
  stops (Read i) rose failed listed held exact stop = (stop.1.1, stop.1.2, stop.0)
  stops (TooLong i) rose failed listed None exact stop = tt
  stops (TooLong i) rose failed listed (Some files) exact stop =
      let long : first_too_long 0 (sources_in files) ≡ Some i = ap (λ ps. first_too_long 0 (map (source_at files) (selected ps))) (sym exact) ∙ stop.1.1 exact in
      refused_long only files i (subst AreFew exact stop.0) long

  -- after the folder was listed without a fault
  pub folder_stops : (fault : FolderFault) (before mid now : ℕ) (failed : Option Call) (listed new : List (List ℕ)) (held was : Option (List HeldFile)) (s : Status) → mid ≡ before → new ≡ listed → held ≡ was
      → s ≡ status_of fault → IfSome held (λ files. listed ≡ paths files) → StopsFolder fault (Rose mid now) failed held listed → MayStop only s (Rose before now) failed new was
  folder_stops fault before mid now failed listed new held was s same_faults same_paths same_held is exact stop =
      subst (λ t. MayStop only t (Rose before now) failed new was) (sym is)
      (subst (λ n. MayStop only (status_of fault) (Rose n now) failed new was) same_faults
      (subst (λ ps. MayStop only (status_of fault) (Rose mid now) failed ps was) (sym same_paths)
      (subst (λ h. MayStop only (status_of fault) (Rose mid now) failed listed h) same_held (stops fault (Rose mid now) failed listed held exact stop))))
