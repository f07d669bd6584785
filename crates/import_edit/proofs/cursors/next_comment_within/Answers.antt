use Rattle.std.proofs.Common.{◌∙◌}
use Rattle.import_edit.proofs.CursorLaws.{comments_serve, comment_decided}
use Rattle.import_edit.proofs.cursors.next_comment_within.Goals as goal

pub returns-clause-serve : goal.returns-clause-serve
returns-clause-serve c =
    comments_serve c.args.comments.now c.args.cursor.now c.args.span.start c.comments_before-passed.result c.requires.serve c.comments_before-passed.ensures.count c.comments_before-passed.ensures.within

pub returns-clause-is : goal.returns-clause-is
returns-clause-is c =
    c.starts_before.ensures
    ∙ comment_decided c.args.comments.now c.args.cursor.now c.comments_before-passed.result c.args.span c.requires.ascend c.requires.serve c.comments_before-passed.ensures.count
