use Rattle.std.proofs.Common.{◌∙◌, sym}
use Rattle.run_rules.specs.ImportRules.Removed.{same_span}
use Rattle.import_edit.proofs.SpanLaws.{any_view}
use Rattle.import_edit.proofs.span_set.SpanSet.has.Goals as goal

pub returns : goal.returns
returns c = rw (← c.self.view_is) (c.contains.ensures ∙ sym (any_view (same_span c.args.span) c.self.inside.keys.keys))
