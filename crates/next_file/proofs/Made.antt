-- What is answered of a new text.
use Rattle.std.proofs.Common.{◌≡◌, ℕ, List, length, None, sym, subst}
use Rattle.step_files.specs.declared.limits.Progress.{Progress}
use Rattle.step_files.specs.declared.file.NewFile.{NewFile}
use Rattle.step_files.specs.declared.file.FileFault.{FileFault}
use Rattle.step_files.specs.declared.file.FileFault.TheVariants.{TooLarge, NotRead, NoMemory}
use Rattle.step_files.specs.Limits.{KeepsLimits, Passes}
use Rattle.step_files.specs.Files.{IsFault, IsNewFile, IsUnread, text_of}
use Rattle.next_file.proofs.Tried.{passes_none, passes_weight}

pub within_limits : (p : Progress) (bytes : ℕ) (text : List ℕ) (f : NewFile) → KeepsLimits p bytes → bytes ≡ length text → IsNewFile text f → Passes p (text_of f) None
within_limits p bytes text f kept size is =
    passes_none p (text_of f) (subst (λ (t : List ℕ). KeepsLimits p (length t)) (sym is.text_is) (subst (KeepsLimits p) size kept)) is.reads.1.1

told : (p : Progress) (text : List ℕ) (fault : FileFault) → KeepsLimits p (length text) → IsUnread text fault → IsFault p text fault
told p text (TooLarge x) kept why = passes_weight p text x kept why
told p text NotRead kept why = why
told p text NoMemory kept why = tt

pub fault_told : (p : Progress) (bytes : ℕ) (items text : List ℕ) (fault : FileFault) → KeepsLimits p bytes → bytes ≡ length items → items ≡ text → IsUnread items fault → IsFault p text fault
fault_told p bytes items text fault kept size is why = subst (λ (t : List ℕ). IsFault p t fault) is (told p items fault (subst (KeepsLimits p) size kept) why)
