-- The numbers of selected files.
use Rattle.std.proofs.Common.{◌<◌, ◌+◌, ℕ, suc, Bool, true, false, cond, List, [], ◌∷◌, length, arith, All}
use Rattle.std.proofs.lemmas.List.Elements.{All-cons}
use Rattle.pkg_graph.specs.ModuleFiles.Selected.{is_selected, selected, selected_from}

-- each is that of a path
from_below : (all : List (List ℕ)) (k : ℕ) (ps : List (List ℕ)) → All (λ i. i < k + length ps) (selected_from all k ps)
from_below all k [] = λ j d l. absurd (omega (arith, l))
from_below all k (p ∷ ps) = by (is_selected all p) (λ j d l. let below = from_below all (suc k) ps j d l in omega (arith, below))
  where
    by : (b : Bool) → All (λ i. i < k + suc (length ps)) (selected_from all (suc k) ps) → All (λ i. i < k + suc (length ps)) (cond b (k ∷ selected_from all (suc k) ps) (selected_from all (suc k) ps))
    by true rest = All-cons (λ (i : ℕ). i < k + suc (length ps)) k (selected_from all (suc k) ps) (omega arith) rest
    by false rest = rest

pub selected_below : (paths : List (List ℕ)) → All (λ i. i < length paths) (selected paths)
selected_below paths = λ j d l. let below = from_below paths 0 paths j d l in omega (arith, below)
