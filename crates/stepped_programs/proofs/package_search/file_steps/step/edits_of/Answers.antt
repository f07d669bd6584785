use Rattle.std.proofs.Common.{◌∙◌, ap, map, List}
use Rattle.go_tree.specs.declared.files.Decl.{Decl}
use Rattle.go_tree.specs.FileView.{decl_of}
use Rattle.member_uses.specs.PossibleUses.Views.{part_of}
use Rattle.repeated_parts.specs.ImportsUnused.Uses.{all_parts}
use Rattle.stepped_programs.proofs.PackageSearch.FileSteps.Told.{told}
use Rattle.stepped_programs.proofs.package_search.file_steps.step.edits_of.Goals as goal

pub returns-clause-edits : goal.returns-clause-edits
returns-clause-edits c = λ marks st t f h.
    c.in_ok-edits.ensures.edits marks st t f
    (told c.args.file.now c.args.text.now c.args.tokens.now c.args.form.now marks st t f c.items-2.result.now c.comments.result.now (map part_of c.deref.result.now)
    c.deref-2.result.now c.in_ok-unused.unused.items c.items-2.ensures c.comments.ensures
    (ap (map part_of) c.deref.ensures.value ∙ c.in_ok-parts.ensures ∙ ap (λ (ds : List Decl). all_parts (map decl_of ds)) c.items.ensures)
    c.deref-2.ensures.value c.in_ok-unused.ensures h)
