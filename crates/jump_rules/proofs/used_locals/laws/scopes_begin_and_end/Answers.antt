use Rattle.jump_rules.proofs.UsedLocals.ScopeLaws.{blanks_skipped, scopes_end, scopes_pass}
use Rattle.jump_rules.proofs.UsedLocals.UsedLemmas.{used_among}
use Rattle.jump_rules.proofs.used_locals.laws.scopes_begin_and_end.Goals as goal

pub returns : goal.returns
returns c = record { pass = scopes_pass; end = scopes_end; blanks = blanks_skipped; among = used_among }
