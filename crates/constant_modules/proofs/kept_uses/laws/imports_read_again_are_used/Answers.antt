use Rattle.constant_modules.proofs.FewNames.Few.{few-taken}
use Rattle.constant_modules.proofs.KeptUses.Settled.{read_again_used}
use Rattle.constant_modules.proofs.kept_uses.laws.imports_read_again_are_used.Goals as goal

pub returns : goal.returns
returns c = record {
  read_again = λ marks st l after n e part reads paths are_named linked typed all_named small write stand i s there named.
      read_again_used marks st l after n e part reads are_named linked all_named (few-taken marks st l after n e part reads paths all_named small) stand typed write i s there named;
}
