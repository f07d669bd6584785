use Rattle.std.proofs.Common.{◌∙◌, ap}
use Rattle.programs.specs.OriginsOfUses.Origins.{at_span}
use Rattle.programs.proofs.OriginsOfUses.Tables.{spans_of, span_set}
use Rattle.programs.proofs.origins_of_uses.table.OriginTable.set.Goals as goal

pub returns : goal.returns
returns c =
    rw (← c.self.view_is)
    (λ q.
    ap (λ es. at_span q (spans_of es)) c.in_ok-insert.ensures.entries
    ∙ span_set (c.args.span.start, c.args.span.end) c.args.origin q c.self.inside.entries.entries)
