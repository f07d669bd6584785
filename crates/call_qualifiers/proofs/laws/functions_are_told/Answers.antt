use Rattle.run_rules.specs.Run.{here_of}
use Rattle.call_qualifiers.proofs.Parts.{function_told}
use Rattle.call_qualifiers.proofs.laws.functions_are_told.Goals as goal

pub returns : goal.returns
returns c = λ told ps w there names f e h. function_told here_of told ps w there names f e h
