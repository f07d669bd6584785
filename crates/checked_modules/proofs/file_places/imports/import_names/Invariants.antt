use Rattle.std.proofs.Common.{◌≡◌, map, take}
use Rattle.checked_modules.proofs.file_places.imports.import_names.Given as goal

abbrev pub invariant-loop-import : goal.invariant-loop-import
invariant-loop-import l = l.names.items ≡ map (λ i. i.name) (take l.import-index l.fn.imports)
