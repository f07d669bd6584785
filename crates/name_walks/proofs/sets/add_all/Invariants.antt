use Rattle.std.proofs.Common.{◌≡◌, ℕ, List, ◌||◌, drop}
use Rattle.go_tree.specs.GoWords.Tokens.Pieces.{is_among}
use Rattle.name_walks.proofs.sets.add_all.Given as goal

abbrev pub invariant-loop-name : goal.invariant-loop-name
invariant-loop-name l = (q : List ℕ) → (is_among (drop l.name-index l.names) q || is_among l.set q) ≡ (is_among l.names q || is_among l.initial.set q)
