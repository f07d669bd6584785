use Rattle.std.proofs.Common.{◌∙◌, ap}
use Rattle.std.proofs.lemmas.List.{take_rest}
use Rattle.kept_findings.specs.Kept.{first_kept}
use Rattle.kept_findings.proofs.findings.search.Goals as goal

pub returns : goal.returns
returns c =
    let entries = c.args.entries.now in
    let first = c.first_from-first in
    c.standing.ensures ∙ ap (first_kept c.args.at) (take_rest entries first.result) ∙ first.ensures.found
