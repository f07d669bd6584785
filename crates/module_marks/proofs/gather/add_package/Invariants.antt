use Rattle.std.proofs.Common.{◌≡◌, ◌++◌, drop, map}
use Rattle.pkg_graph.specs.Views.{package_view, source_of}
use Rattle.run_rules.specs.Programs.{numbered, numbered_from}
use Rattle.run_rules.specs.Marks.{files_marks, files_bad}
use Rattle.file_names.specs.Members.{IsBlockOf}
use Rattle.module_marks.specs.Views.{mark_ref_of, bad_at_of, texts_of}
use Rattle.module_marks.proofs.gather.add_package.Given as goal

abbrev pub invariant-loop-file : goal.invariant-loop-file
invariant-loop-file l = record {
  block : IsBlockOf l.block (package_view l.home);
  good :
      map mark_ref_of l.list.good.items
      ++ files_marks (map package_view l.sources.packages.now) (texts_of l.sources.files.now) l.number (package_view l.home)
      (numbered_from l.file (map source_of (drop l.file l.source-items)))
      ≡ map mark_ref_of l.initial.list.good.items
      ++ files_marks (map package_view l.sources.packages.now) (texts_of l.sources.files.now) l.number (package_view l.home)
      (numbered (package_view l.home).files);
  bad :
      map bad_at_of l.list.bad.items
      ++ files_bad (map package_view l.sources.packages.now) (texts_of l.sources.files.now) (package_view l.home)
      (map source_of (drop l.file l.source-items))
      ≡ map bad_at_of l.initial.list.bad.items
      ++ files_bad (map package_view l.sources.packages.now) (texts_of l.sources.files.now) (package_view l.home)
      (package_view l.home).files;
}
