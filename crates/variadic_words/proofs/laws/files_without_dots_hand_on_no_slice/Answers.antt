use Rattle.variadic_words.proofs.Terminals.{files_without_dots}
use Rattle.variadic_words.proofs.laws.files_without_dots_hand_on_no_slice.Goals as goal

pub returns : goal.returns
returns c = files_without_dots
