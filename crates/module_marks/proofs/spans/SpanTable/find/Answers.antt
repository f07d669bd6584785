use Rattle.std.proofs.Common.{◌∙◌, ap}
use Rattle.std.specs.Option.{option_map}
use Rattle.module_marks.specs.Views.{mark_ref_of}
use Rattle.module_marks.proofs.SpanLaws.{span_found}
use Rattle.module_marks.proofs.spans.SpanTable.find.Goals as goal

pub returns : goal.returns
returns c =
    rw (← c.self.view_is)
    (ap (option_map mark_ref_of) (c.copied.ensures ∙ c.get.ensures.value) ∙ span_found c.args.span c.self.inside.entries.entries)
