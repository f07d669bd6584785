-- From equal shows under free prices to shows that cover one another.
use Rattle.std.proofs.Common.{◌≡◌, ℕ, ◌+◌, ◌*◌, List, Bool, sym, subst}
use Rattle.go_kernel.specs.Kernel.{FuncName, Term, Program, Shown, shows, free_shows, Covers, same, ended, panicked, running}
use Rattle.go_kernel.proofs.AcrossPrograms.{ext_trans}
use Rattle.go_kernel.proofs.Growth.{free_shows_more, free_shows_less}

pub covers_trans : {a b c : Shown} → Covers a b → Covers b c → Covers a c
covers_trans same y = y
covers_trans (ended e) same = ended e
covers_trans (panicked e) same = panicked e
covers_trans (running e) same = running e
covers_trans (running e) (ended f) = ended (ext_trans e f)
covers_trans (running e) (panicked f) = panicked (ext_trans e f)
covers_trans (running e) (running f) = running (ext_trans e f)

module _ (free : FuncName → Bool) (A : ℕ) (main : FuncName) (choices : List ℕ) (n : ℕ) where
  one_way : (P P' : Program) (init init' : Term) → free_shows P free A init main choices n ≡ free_shows P' free A init' main choices n → Covers (shows P init main choices n) (shows P' init' main choices ((A + 1) * (n + 1)))
  one_way P P' init init' e = covers_trans (subst (λ r. Covers (shows P init main choices n) r) e (free_shows_more P free A init main choices n)) (free_shows_less P' free A init' main choices n)

  pub both_ways : (P P' : Program) (init init' : Term) → free_shows P free A init main choices n ≡ free_shows P' free A init' main choices n
      → Covers (shows P init main choices n) (shows P' init' main choices ((A + 1) * (n + 1))) × Covers (shows P' init' main choices n) (shows P init main choices ((A + 1) * (n + 1)))
  both_ways P P' init init' e = (one_way P P' init init' e, one_way P' P init' init (sym e))
