use Rattle.std.proofs.Common.{◌∙◌, sym}
use Rattle.file_tables.proofs.Found.{number_found, number_absent}
use Rattle.file_tables.proofs.numbers.package_number.Goals as goal

pub returns-in-Some : goal.returns-in-Some
returns-in-Some c =
    sym
    (number_found c.args.packages.now c.args.path.now c.in-Some.place
    (sym (c.requires.found c.args.path.now) ∙ (sym c.find.ensures ∙ c.in-Some.is)))

pub returns-in-None : goal.returns-in-None
returns-in-None c =
    sym
    (number_absent c.args.packages.now c.args.path.now
    (sym (c.requires.found c.args.path.now) ∙ (sym c.find.ensures ∙ c.in-None.is)))
