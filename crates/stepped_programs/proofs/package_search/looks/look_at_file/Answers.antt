use Rattle.std.proofs.Common.{refl, ap}
use Rattle.file_tables.specs.declared.blocks.Block.{Block}
use Rattle.stepped_programs.proofs.PackageSearch.Made.{look_made}
use Rattle.stepped_programs.proofs.package_search.looks.look_at_file.Goals as goal

pub returns-clause-look : goal.returns-clause-look
returns-clause-look c =
    look_made c.args.program.now c.args.home c.args.source.now c.args.tokens.now c.args.block.names _ _ _ c.in_ok-found.ensures c.in_ok-tables.ensures.names
    (ap (λ (b : Block). b.names) c.in_ok-tables.ensures.block) c.in_ok-tables.ensures.table c.in_ok-tables.ensures.imports refl refl refl refl refl c.comments.ensures refl refl c.deref.ensures.value
