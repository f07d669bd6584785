use Rattle.go_tree.specs.declared.spans.Span.{Span}
use Rattle.run_rules.specs.Steps.{At}
use Rattle.checked_modules.proofs.RefusedBodies.PrintedPackages.Printed.{print_only_printed}
use Rattle.checked_modules.proofs.refused_bodies.printed_packages.laws.print_only_is_printed.Goals as goal

pub returns-clause-read : goal.returns-clause-read
returns-clause-read c = print_only_printed Span

pub returns-clause-standing : goal.returns-clause-standing
returns-clause-standing c = print_only_printed At
