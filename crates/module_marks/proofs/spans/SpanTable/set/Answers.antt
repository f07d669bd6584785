use Rattle.std.proofs.Common.{◌∙◌, ap}
use Rattle.module_marks.specs.Spans.{at_span}
use Rattle.module_marks.proofs.SpanLaws.{refs_of, span_set}
use Rattle.module_marks.proofs.spans.SpanTable.set.Goals as goal

pub returns : goal.returns
returns c =
    rw (← c.self.view_is)
    (λ q.
    ap (λ es. at_span q (refs_of es)) c.in_ok-insert.ensures.entries
    ∙ span_set (c.args.span.start, c.args.span.end) c.args.at q c.self.inside.entries.entries)
