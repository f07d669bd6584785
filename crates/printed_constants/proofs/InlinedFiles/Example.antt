-- The files that a run of one step leaves.
--   go.mod, and README, which isn't read
--   main.go: package main; const Pointer = 1; //go:fix inline; const Ptr = Pointer; func main() { println(Ptr) }
use Rattle.std.proofs.Common.{◌≡◌, refl, ℕ, List, [], ◌∷◌, codes}
use Rattle.pkg_graph.specs.Reads.{Source}
use Rattle.run_rules.specs.Texts.{FileText}
use Rattle.run_rules.proofs.ModulesRead.{module_text, folder, small_module}
use Rattle.run_rules.proofs.RunsOfConstants.{one_constant, one_constant_new}
use Rattle.printed_constants.specs.InlinedFiles.Files.{files_after}

abbrev readme : Source
readme = record { path = codes "README"; text = codes "println(Ptr)" }

abbrev left_texts : List (List ℕ × FileText)
left_texts = (codes "main.go", one_constant_new) ∷ []

-- `main.go` prints `Pointer`, and the others are as they were
are_left : files_after (readme ∷ folder small_module one_constant.texts) left_texts ≡ readme ∷ module_text small_module ∷ record { path = codes "main.go"; text = one_constant_new.text } ∷ []
are_left = refl
