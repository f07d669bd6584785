use Rattle.std.proofs.Common.{◌∙◌, ap}
use Rattle.std.specs.List.{list_any}
use Rattle.run_rules.specs.Sites.{same_mark, is_among_marks}
use Rattle.module_marks.specs.Views.{mark_ref_of}
use Rattle.module_marks.specs.Keys.{key_mark, keys_marks}
use Rattle.module_marks.proofs.SetLaws.{any_key, key_added}
use Rattle.module_marks.proofs.mark_set.MarkSet.add.Goals as goal

pub returns : goal.returns
returns c = λ q.
    let at = c.args.mark in
    rw (← c.self.view_is)
    (ap (λ ks. is_among_marks (keys_marks ks) q) c.in_ok-insert.ensures.keys
    ∙ key_added q c.self.inside.keys.keys (at.«package», (at.file, (at.decl, at.item)))
    (list_any (λ k. same_mark (mark_ref_of at) (key_mark k)) c.self.inside.keys.keys)
    (any_key (same_mark (mark_ref_of at)) c.self.inside.keys.keys))
