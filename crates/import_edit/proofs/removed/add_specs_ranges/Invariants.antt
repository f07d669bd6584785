use Rattle.std.proofs.Common.{◌≡◌, ◌++◌, drop, map}
use Rattle.go_tree.specs.FileView.{import_decl_of, import_spec_of}
use Rattle.run_rules.specs.ImportRules.Removed.{specs_ranges}
use Rattle.import_edit.specs.Walks.{SpecsLeft}
use Rattle.import_edit.proofs.removed.add_specs_ranges.Given as goal

abbrev pub invariant-loop-spec : goal.invariant-loop-spec
invariant-loop-spec l = record {
  left : SpecsLeft l.source l.cursor l.decl.span.start l.decl.span.end (map import_spec_of (drop l.spec-index l.spec-items));
  ranges :
      l.ranges.items ++ specs_ranges l.source.text.now l.source.tokens.now l.source.comments.now l.source.unused.now (import_decl_of l.decl) (map import_spec_of (drop l.spec-index l.spec-items))
      ≡ l.initial.ranges.items ++ specs_ranges l.source.text.now l.source.tokens.now l.source.comments.now l.source.unused.now (import_decl_of l.decl) (map import_spec_of l.spec-items);
  same : l.cursor.comment ≡ l.initial.cursor.comment;
}
