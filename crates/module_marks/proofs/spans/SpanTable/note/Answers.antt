use Rattle.std.proofs.Common.{◌∙◌, sym}
use Rattle.module_marks.specs.Views.{mark_ref_of}
use Rattle.module_marks.proofs.SpanLaws.{noted_there, noted_new}
use Rattle.module_marks.proofs.spans.SpanTable.note.Goals as goal

pub returns-then-has : goal.returns-then-has
returns-then-has c = λ q. noted_there q c.args.span c.args.self.now (mark_ref_of c.args.at) (sym c.has.ensures ∙ c.if-has.true)

pub returns : goal.returns
returns c = λ q.
    noted_new q c.args.span c.args.self.now c.set.new.self (mark_ref_of c.args.at) (sym c.has.ensures ∙ c.if-has.false)
    (c.in_ok-set.ensures q)
