-- Laws of verdicts: words and files have one.
use Rattle.std.specs.Prelude.{ℕ, List}
use Rattle.module_refusals.specs.Laws.{AreAlike}
use Rattle.refusals.specs.declared.refusal.Refusal.{Refusal}
use Rattle.fix_io.specs.Files.{HeldFile}
use Rattle.fix_run.specs.declared.status.Status.TheVariants.{Refused}
use Rattle.fix_run.specs.Verdict.{Verdict, IsVerdict, stays}

-- The verdicts are the same, but that refusals with one number, one file and one place may differ in their words.
pub data AreAlikeVerdicts (files : List HeldFile) : Verdict → Verdict → Type 0 where
  same : (v : Verdict) → AreAlikeVerdicts files v v
  refusals : (r s : Refusal) → AreAlike r s → AreAlikeVerdicts files (stays (Refused r) files) (stays (Refused s) files)

-- Words and files have one verdict.
abbrev pub VerdictsAreAlike : Type 0
VerdictsAreAlike =
    (words : List (List ℕ)) (files : List HeldFile) (v w : Verdict) → IsVerdict words files v → IsVerdict words files w
    → AreAlikeVerdicts files v w
