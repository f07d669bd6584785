use Rattle.collected.proofs.ValueHeaders.SpelledFiles as files
use Rattle.collected.proofs.ValueHeaders.SpelledHeaders.{headers_spelled, read_packages_spelled}
use Rattle.collected.proofs.value_headers.laws.read_values_are_spelled.Goals as goal

pub returns : goal.returns
returns c =
    record { files = files.read_values_are_spelled; packages = read_packages_spelled; headers = headers_spelled }
