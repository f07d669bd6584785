use Rattle.std.proofs.Common.{◌∙◌, sym}
use Rattle.module_marks.specs.Views.{mark_ref_of}
use Rattle.module_marks.proofs.TableLaws.{when_marked, when_unmarked}
use Rattle.module_marks.proofs.table.MarkTable.if_marked.Goals as goal

pub returns-then-is_marked : goal.returns-then-is_marked
returns-then-is_marked c = λ ps marks t.
    when_marked ps marks (mark_ref_of c.args.mark) (sym (c.is_marked.ensures ps marks t) ∙ c.if-is_marked.true)

pub returns-else-is_marked : goal.returns-else-is_marked
returns-else-is_marked c = λ ps marks t.
    when_unmarked ps marks (mark_ref_of c.args.mark) (sym (c.is_marked.ensures ps marks t) ∙ c.if-is_marked.false)
