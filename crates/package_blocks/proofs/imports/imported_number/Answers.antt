use Rattle.std.proofs.Common.{◌≡◌, ◌∙◌, ◌+◌, arith, length, sym}
use Rattle.package_blocks.proofs.NumberLemmas.{number_found, number_gone}
use Rattle.package_blocks.proofs.imports.imported_number.Goals as goal

pub returns-in-Some : goal.returns-in-Some
returns-in-Some c =
    number_found c.args.packages.now 0 c.args.path.now c.in-Some.number
    (sym (c.requires.numbers.all c.args.path.now) ∙ sym c.in-Some.ensures)

pub returns-in-None : goal.returns-in-None
returns-in-None c =
    let z : length c.args.packages.now ≡ 0 + length c.args.packages.now = omega arith in
    z
    ∙ number_gone c.args.packages.now 0 c.args.path.now
    (sym (c.requires.numbers.all c.args.path.now) ∙ sym c.in-None.ensures)
