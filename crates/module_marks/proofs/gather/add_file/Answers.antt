use Rattle.std.proofs.Common.{◌∙◌, ◌++◌, ap, map}
use Rattle.pkg_graph.specs.Views.{package_view, source_of}
use Rattle.run_rules.specs.Marks.{text_at}
use Rattle.module_marks.specs.Views.{mark_ref_of, bad_at_of, file_text, texts_of}
use Rattle.module_marks.proofs.FileLaws.{marks_with, bad_with}
use Rattle.module_marks.proofs.gather.add_file.Goals as goal

pub add_marks-requires : goal.add_marks-requires
add_marks-requires c = c.in-Some.ensures.scanned

pub returns-clause-good : goal.returns-clause-good
returns-clause-good c = λ p is.
    let texts = texts_of c.args.sources.now.files.now in
    c.in_ok-add_marks.ensures.good
    ∙ ap (λ r. map mark_ref_of c.args.list.now.good.items ++ r)
    (marks_with (map package_view c.args.sources.now.packages.now) texts c.args.home p c.args.file (source_of c.args.source.now)
    (file_text c.in-Some.scanned.now) c.in_ok-names.names
    (c.in-Some.ensures.text ∙ ap (λ q. text_at q texts) c.items.ensures)
    (c.in_ok-names.ensures.names p is))

pub returns-clause-bad : goal.returns-clause-bad
returns-clause-bad c = λ p is.
    let texts = texts_of c.args.sources.now.files.now in
    c.in_ok-add_marks.ensures.bad
    ∙ ap (λ r. map bad_at_of c.args.list.now.bad.items ++ r)
    (bad_with (map package_view c.args.sources.now.packages.now) texts c.args.home p c.args.file (source_of c.args.source.now)
    (file_text c.in-Some.scanned.now) c.in_ok-names.names
    (c.in-Some.ensures.text ∙ ap (λ q. text_at q texts) c.items.ensures)
    (c.in_ok-names.ensures.names p is))
