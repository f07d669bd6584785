use Rattle.std.proofs.Common.{◌∙◌}
use Rattle.call_forms.proofs.Spans.{span_found}
use Rattle.call_forms.proofs.qualifiers.Numbers.at.Goals as goal

pub returns : goal.returns
returns c = rw (← c.self.view_is) (c.copied.ensures ∙ c.get.ensures.value ∙ span_found c.args.span
    c.self.inside.entries.entries)
