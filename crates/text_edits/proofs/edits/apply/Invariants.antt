use Rattle.std.proofs.Common.{◌≡◌, ◌++◌, drop, length}
use Rattle.text_edits.specs.Applied.{Ascend, replaced_from}
use Rattle.text_edits.proofs.edits.apply.Given as goal

abbrev pub invariant-loop-edit : goal.invariant-loop-edit
invariant-loop-edit l = record {
  ascend : Ascend l.from (length l.text) (drop l.edit-index l.edit-items);
  made : l.new.items ++ replaced_from l.text l.from (drop l.edit-index l.edit-items) ≡ replaced_from l.text 0 l.edit-items;
}
