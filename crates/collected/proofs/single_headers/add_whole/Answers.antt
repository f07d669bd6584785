use Rattle.std.proofs.Common.{[], ◌∷◌, ◌++◌, ◌∙◌, ap, map}
use Rattle.collected.specs.SingleHeaders.Singles.{listed_single}
use Rattle.collected.proofs.SingleHeaders.Added.{map_append}
use Rattle.collected.proofs.single_headers.add_whole.Goals as goal

pub returns : goal.returns
returns c =
    let old = c.args.singles.now.items in
    let more = c.in_place.result ∷ [] in
    ap (map listed_single) c.in_ok-push.ensures.items ∙ map_append listed_single old more
    ∙ ap (λ l. map listed_single old ++ l ∷ []) c.in_place.ensures
