use Rattle.std.proofs.Common.{◌∙◌, sym}
use Rattle.run_rules.specs.Sites.{same_mark}
use Rattle.module_marks.specs.Views.{mark_ref_of}
use Rattle.module_marks.proofs.SetLaws.{any_key}
use Rattle.module_marks.proofs.mark_set.MarkSet.has.Goals as goal

pub returns : goal.returns
returns c =
    rw (← c.self.view_is)
    (c.contains.ensures ∙ sym (any_key (same_mark (mark_ref_of c.args.mark)) c.self.inside.keys.keys))
