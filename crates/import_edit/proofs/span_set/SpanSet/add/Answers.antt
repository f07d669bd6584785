use Rattle.std.proofs.Common.{◌∙◌, ap}
use Rattle.std.specs.List.{list_any}
use Rattle.run_rules.specs.ImportRules.Removed.{same_span, span_at}
use Rattle.import_edit.proofs.SpanLaws.{spans_of, any_view, added_view}
use Rattle.import_edit.proofs.span_set.SpanSet.add.Goals as goal

pub returns : goal.returns
returns c = λ q. rw (← c.self.view_is)
    (ap (λ ks. list_any (same_span q) (spans_of ks)) c.in_ok-insert.ensures.keys
    ∙ added_view q c.self.inside.keys.keys (c.args.span.start, c.args.span.end) (list_any (λ k. same_span c.args.span (span_at k.0 k.1)) c.self.inside.keys.keys) (any_view (same_span c.args.span) c.self.inside.keys.keys))
