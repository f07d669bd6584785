use Rattle.module_texts.proofs.SelectedLemmas.{selected_files_read}
use Rattle.module_texts.proofs.laws.selected_files_read_alike.Goals as goal

pub returns : goal.returns
returns c = selected_files_read
