use Rattle.std.proofs.Common.{◌∙◌, ap, false, length, true}
use Rattle.std.proofs.lemmas.List.{length-replicate}
use Rattle.operand_modes.proofs.OperandAnswers.KeptLemmas.{keeps_on}
use Rattle.value_rounds.specs.NameRounds.Passes.{NameLeft, named_headers}
use Rattle.collected.specs.SingleHeaders.Singles.{listed_single}
use Rattle.collected.specs.PackageValues.Passes.{AreFound}
use Rattle.collected.proofs.PackageValues.Looks.{looked_on}
use Rattle.collected.proofs.PackageValues.NameLooks.{all_found}
use Rattle.collected.proofs.package_values.passes.find_names.Goals as goal

pub look_in_order-requires-clause-count : goal.look_in_order-requires-clause-count
look_in_order-requires-clause-count c =
    ap length c.in_ok-found.ensures ∙ length-replicate (length c.args.singles.now) false

pub look_on-requires-clause-ready : goal.look_on-requires-clause-ready
look_on-requires-clause-ready c = c.in_ok-look_in_order.ensures.ready

pub look_on-requires-clause-there : goal.look_on-requires-clause-there
look_on-requires-clause-there c = c.in_ok-look_in_order.ensures.there

pub look_on-requires-clause-count : goal.look_on-requires-clause-count
look_on-requires-clause-count c =
    c.in_ok-look_in_order.ensures.count
    ∙ ap length c.in_ok-found.ensures ∙ length-replicate (length c.args.singles.now) false

pub returns-clause-ready : goal.returns-clause-ready
returns-clause-ready c = c.in_ok-look_on.ensures.looked.ready

pub returns-clause-keeps : goal.returns-clause-keeps
returns-clause-keeps c =
    keeps_on c.args.tables.now c.look_in_order.new.tables c.look_on.new.tables c.in_ok-look_in_order.ensures.keeps
    c.in_ok-look_on.ensures.looked.keeps

pub returns-clause-there : goal.returns-clause-there
returns-clause-there c = c.in_ok-look_on.ensures.looked.there

pub returns-clause-count : goal.returns-clause-count
returns-clause-count c =
    c.in_ok-look_on.ensures.looked.count ∙ c.in_ok-look_in_order.ensures.count
    ∙ ap length c.in_ok-found.ensures ∙ length-replicate (length c.args.singles.now) false

pub returns-clause-found : goal.returns-clause-found
returns-clause-found c =
    λ packages are others.
    let files = c.args.files.now in
    let singles = c.args.singles.now in
    let k = c.args.tables.now in
    let n = c.look_on.new.tables in
    let start = c.args.blocks.now in
    let marks = c.in_ok-found.found.items in
    let first = c.in_ok-look_in_order.ensures in
    let last = c.in_ok-look_on.ensures.looked in
    all_found files singles k n start c.look_on.new.blocks marks c.look_on.new.found.items (length singles)
    c.in_ok-found.ensures
    (looked_on listed_single singles named_headers AreFound NameLeft true files k c.look_in_order.new.tables n start
    c.look_in_order.new.blocks c.look_on.new.blocks marks c.look_in_order.new.found.items c.look_on.new.found.items first
    last)
    c.in_ok-look_on.ensures.all packages are others
