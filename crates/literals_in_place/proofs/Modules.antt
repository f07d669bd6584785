-- Modules in whose functions parts stand for others show the same, by the ranks of the marked functions.
use Rattle.std.specs.Prelude.{◌≡◌, ℕ, ◌+◌, ◌*◌, Bool, List, length}
use Rattle.go_tree.specs.declared.spans.Span.{Span}
use Rattle.pkg_graph.specs.Package.{Package}
use Rattle.go_kernel.specs.Kernel.{ImportPath, FuncName, Covers}
use Rattle.go_kernel.proofs.SameShows.{both_ways}
use Rattle.go_translation.specs.Packages as translated
use Rattle.go_translation.specs.Packages.{paths_in, codes_of, program_of, initial_of, main_of, shown_by, freely_shown_by}
use Rattle.run_rules.specs.Sites.{MarkRef}
use Rattle.literal_steps.specs.RankedMarks.Free.{is_free, rank_named, Translated, NoConstantGroups}
use Rattle.literal_steps.specs.RankedMarks.Ranks.{marked_functions}
use Rattle.literal_steps.proofs.RankedMarks.ProgramRanked.{program-ranked, free-below}
use Rattle.meaning_in_place.specs.InPackages.{rank_of_all, PackagesStand}
use Rattle.meaning_in_place.proofs.Packages.{each_below, all_bounded, all_below, packages_same}

module _ (ps : List (Package Span)) (marks : List MarkRef) (ms : List (translated.Package Span)) (t : Translated ps marks ms) (plain : NoConstantGroups ps marks) (qs : List (translated.Package Span)) where
  abbrev free : FuncName → Bool
  free = is_free ps marks (paths_in ms)

  abbrev A : ℕ
  A = length (marked_functions ps marks)

  abbrev rank : FuncName → ℕ
  rank = rank_named ps marks (paths_in ms)

  module _ (r : PackagesStand free A (rank_of_all free A rank) ms qs) (main : ImportPath) (choices : List ℕ) (n : ℕ) where
    pub modules_same : freely_shown_by ms free A main choices n ≡ freely_shown_by qs free A main choices n
    modules_same =
        packages_same free A (rank_of_all free A rank) (all_bounded (program_of (codes_of ms)) free A rank (free-below ps marks (paths_in ms))) (all_below (program_of (codes_of ms)) free A rank (free-below ps marks (paths_in ms))) ms qs
        (each_below (program_of (codes_of ms)) free A rank (free-below ps marks (paths_in ms)) (program-ranked ps marks ms t plain)) r main choices n

    pub modules_covered : Covers (shown_by ms main choices n) (shown_by qs main choices ((A + 1) * (n + 1))) × Covers (shown_by qs main choices n) (shown_by ms main choices ((A + 1) * (n + 1)))
    modules_covered = both_ways free A (main_of main) choices n (program_of (codes_of ms)) (program_of (codes_of qs)) (initial_of (codes_of ms)) (initial_of (codes_of qs)) modules_same
