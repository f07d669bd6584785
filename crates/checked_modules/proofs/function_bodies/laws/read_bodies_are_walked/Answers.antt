use Rattle.checked_modules.proofs.FunctionBodies.WalkedFiles.{read_bodies_walked, read_packages_walked}
use Rattle.checked_modules.proofs.function_bodies.laws.read_bodies_are_walked.Goals as goal

pub returns : goal.returns
returns c = record { files = read_bodies_walked; packages = read_packages_walked }
