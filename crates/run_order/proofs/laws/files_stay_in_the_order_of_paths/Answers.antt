use Rattle.run_order.proofs.FilesInOrder.{runs-by-path}
use Rattle.run_order.proofs.laws.files_stay_in_the_order_of_paths.Goals as goal

pub returns : goal.returns
returns c = λ files ps texts marks last log m run. runs-by-path files ps texts marks last log m run
