use Rattle.std.proofs.Common.{◌∙◌, ap}
use Rattle.call_forms.specs.Qualifiers.{at_span}
use Rattle.call_forms.proofs.Spans.{spans_of, span_set}
use Rattle.call_forms.proofs.qualifiers.Numbers.set.Goals as goal

pub returns : goal.returns
returns c =
    rw (← c.self.view_is)
    (λ q.
    ap (λ es. at_span q (spans_of es)) c.in_ok-insert.ensures.entries
    ∙ span_set (c.args.span.start, c.args.span.end) c.args.number q c.self.inside.entries.entries)
