use Rattle.std.proofs.Common.{◌∙◌, sym, ap, not}
use Rattle.std.specs.List.{list_any}
use Rattle.run_rules.specs.ImportRules.Removed.{same_span, span_at}
use Rattle.stepped_programs.proofs.RunReports.SpanSets.{spans_of, any_span, span_added}
use Rattle.stepped_programs.proofs.run_reports.spans.SpanSet.add.Goals as goal

pub returns-clause-new : goal.returns-clause-new
returns-clause-new c =
    rw (← c.self.view_is) (c.in_ok-is_new.ensures.added ∙ ap not (sym (any_span (same_span c.args.span) c.self.inside.keys.keys)))

pub returns-clause-added : goal.returns-clause-added
returns-clause-added c = λ q.
    let s = c.args.span in
    rw (← c.self.view_is)
    (ap (λ ks. list_any (same_span q) (spans_of ks)) c.in_ok-is_new.ensures.keys
    ∙ span_added q c.self.inside.keys.keys (s.start, s.end) (list_any (λ k. same_span s (span_at k.0 k.1)) c.self.inside.keys.keys)
    (any_span (same_span s) c.self.inside.keys.keys))
