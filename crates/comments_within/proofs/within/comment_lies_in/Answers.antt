use Rattle.std.proofs.Common.{◌∙◌, ap}
use Rattle.std.proofs.lemmas.List.{take_rest}
use Rattle.comments_within.specs.Begun.{begins_before}
use Rattle.comments_within.proofs.Search.{search_finds}
use Rattle.comments_within.proofs.within.comment_lies_in.Goals as goal

pub returns : goal.returns
returns c =
    let cs = c.args.comments.now in
    let found = c.first_from-first in
    c.begins_before.ensures ∙ ap (begins_before c.args.span.end) (take_rest cs found.result)
    ∙ search_finds c.args.span found.result 0 cs c.requires found.ensures.within found.ensures.before found.ensures.behind
