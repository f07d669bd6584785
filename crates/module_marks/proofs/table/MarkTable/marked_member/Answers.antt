use Rattle.std.proofs.Common.{◌∙◌, ap, sym}
use Rattle.std.specs.Option.{option_map}
use Rattle.run_rules.specs.Sites.{marked}
use Rattle.module_marks.specs.Views.{mark_ref_of}
use Rattle.module_marks.proofs.table.MarkTable.marked_member.Goals as goal

pub returns-in-Some : goal.returns-in-Some
returns-in-Some c = λ ps marks t.
    c.if_marked.ensures ps marks t
    ∙ ap (marked ps marks) (sym (ap (option_map mark_ref_of) c.in-Some.is) ∙ c.member.ensures ps marks t)

pub returns-in-None : goal.returns-in-None
returns-in-None c = λ ps marks t.
    ap (marked ps marks) (sym (ap (option_map mark_ref_of) c.in-None.is) ∙ c.member.ensures ps marks t)
