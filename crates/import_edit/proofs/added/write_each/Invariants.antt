use Rattle.std.proofs.Common.{◌≡◌, ◌++◌, drop}
use Rattle.run_rules.specs.ImportRules.Added.{each_within}
use Rattle.import_edit.specs.Order.{imports_of}
use Rattle.import_edit.proofs.added.write_each.Given as goal

abbrev pub invariant-loop-import : goal.invariant-loop-import
invariant-loop-import l =
    l.out.items ++ each_within l.before l.behind (imports_of (drop l.import-index l.added))
    ≡ l.initial.out.items ++ each_within l.before l.behind (imports_of l.added)
