use Rattle.literal_steps.proofs.NamesServe.{serves_there}
use Rattle.literal_steps.proofs.laws.names_there_serve.Goals as goal

pub returns : goal.returns
returns c = record { serves = λ ps w at bound needed s none k e q there outer_names p locals. serves_there ps w s at bound needed none k e q there outer_names p locals }
