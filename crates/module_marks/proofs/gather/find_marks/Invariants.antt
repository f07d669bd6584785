use Rattle.std.proofs.Common.{◌≡◌, ◌++◌, drop, map}
use Rattle.pkg_graph.specs.Views.{package_view}
use Rattle.run_rules.specs.Programs.{numbered, numbered_from}
use Rattle.run_rules.specs.Marks.{packages_marks, bad_of}
use Rattle.module_marks.specs.Views.{mark_ref_of, bad_at_of, texts_of}
use Rattle.module_marks.proofs.gather.find_marks.Given as goal

abbrev pub invariant-loop-number : goal.invariant-loop-number
invariant-loop-number l = record {
  good :
      map mark_ref_of l.list.good.items
      ++ packages_marks (map package_view l.packages) (texts_of l.fn.files) (numbered_from l.number (map package_view (drop l.number l.packages)))
      ≡ packages_marks (map package_view l.packages) (texts_of l.fn.files) (numbered (map package_view l.packages));
  bad :
      map bad_at_of l.list.bad.items
      ++ bad_of (map package_view l.packages) (texts_of l.fn.files) (map package_view (drop l.number l.packages))
      ≡ bad_of (map package_view l.packages) (texts_of l.fn.files) (map package_view l.packages);
}
