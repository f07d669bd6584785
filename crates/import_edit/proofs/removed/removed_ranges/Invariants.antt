use Rattle.std.proofs.Common.{◌≡◌, ◌++◌, drop, map}
use Rattle.go_tree.specs.FileView.{import_decl_of}
use Rattle.run_rules.specs.ImportRules.Removed.{ranges}
use Rattle.import_edit.specs.Walks.{DeclsLeft}
use Rattle.import_edit.proofs.removed.removed_ranges.Given as goal

abbrev pub invariant-loop-i : goal.invariant-loop-i
invariant-loop-i l = record {
  left : DeclsLeft l.source l.cursor (map import_decl_of (drop l.i l.decls));
  ranges :
      l.list.items ++ ranges l.source.text.now l.source.tokens.now l.source.comments.now l.source.unused.now l.grows (map import_decl_of (drop l.i l.decls))
      ≡ ranges l.source.text.now l.source.tokens.now l.source.comments.now l.source.unused.now l.grows (map import_decl_of l.decls);
}
