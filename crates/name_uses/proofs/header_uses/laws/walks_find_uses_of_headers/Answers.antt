use Rattle.name_uses.proofs.HeaderUses.HeadersFound.{headers_found}
use Rattle.name_uses.proofs.header_uses.laws.walks_find_uses_of_headers.Goals as goal

pub returns : goal.returns
returns c = λ w h outer ds n name g. headers_found w h outer ds n name g
