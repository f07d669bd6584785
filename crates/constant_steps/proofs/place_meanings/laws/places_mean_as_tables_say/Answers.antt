use Rattle.run_rules.specs.Run.{here_of}
use Rattle.run_rules.specs.Steps.{At}
use Rattle.constant_steps.proofs.PlaceMeanings.PlacesMean.{places_mean, read_places_mean}
use Rattle.constant_steps.proofs.place_meanings.laws.places_mean_as_tables_say.Goals as goal

pub returns-clause-read : goal.returns-clause-read
returns-clause-read c = λ ps w text names t i d reads tells table there scoped. read_places_mean ps w text names t i d reads tells table there scoped

pub returns-clause-standing : goal.returns-clause-standing
returns-clause-standing c = λ ps w text names t i d reads tells table there scoped. places_mean At here_of ps w text names t i d reads tells table there scoped
