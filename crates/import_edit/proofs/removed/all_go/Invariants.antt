use Rattle.std.proofs.Common.{◌≡◌, drop, map}
use Rattle.std.specs.List.{list_all}
use Rattle.go_tree.specs.FileView.{import_spec_of}
use Rattle.run_rules.specs.ImportRules.Removed.{goes}
use Rattle.import_edit.proofs.removed.all_go.Given as goal

abbrev pub invariant-loop-spec : goal.invariant-loop-spec
invariant-loop-spec l =
    list_all (goes l.source.text.now l.source.tokens.now l.source.comments.now l.source.unused.now) (map import_spec_of (drop l.spec-index l.specs))
    ≡ list_all (goes l.source.text.now l.source.tokens.now l.source.comments.now l.source.unused.now) (map import_spec_of l.specs)
