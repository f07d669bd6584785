use Rattle.constant_steps.proofs.WrittenLiteral.FilesMeant.{file_meant}
use Rattle.constant_steps.proofs.written_literal.laws.names_mean_the_same.Goals as goal

pub returns : goal.returns
returns c = record { files = λ ps w s. file_meant ps w s }
