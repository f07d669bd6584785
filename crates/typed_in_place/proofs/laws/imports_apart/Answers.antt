use Rattle.std.specs.Prelude.{refl, []}
use Rattle.typed_in_place.proofs.ImportRule.{well_typed_apart, file_imports, fewer_sound, fresh_sound}
use Rattle.typed_in_place.proofs.UsesKept.{used_as_before}
use Rattle.typed_in_place.proofs.laws.imports_apart.Goals as goal

pub returns-clause-apart : goal.returns-clause-apart
returns-clause-apart c = λ ps. well_typed_apart ps

pub returns-clause-sound_and_used : goal.returns-clause-sound_and_used
returns-clause-sound_and_used c = λ w hs home file members before is. file_imports w hs home file members before is

pub returns-clause-fewer : goal.returns-clause-fewer
returns-clause-fewer c = λ members is js d e. fewer_sound members d [] [] (λ n i. i) e

pub returns-clause-fresh : goal.returns-clause-fresh
returns-clause-fresh c = λ members x is js q r n e. fresh_sound members x is js [] refl q r n e

pub returns-clause-used : goal.returns-clause-used
returns-clause-used c = λ w home file n hs ks u. used_as_before w home file n u
