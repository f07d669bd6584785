use Rattle.collected.proofs.ValueHeaders.ValueLemmas.{one_valued}
use Rattle.collected.proofs.value_headers.singles.is_value_name.Goals as goal

pub returns-in-One : goal.returns-in-One
returns-in-One c = one_valued c.args.kind _ _ _ _ c.in-One.is
