use Rattle.std.proofs.Common.{IfOk, subst, sym}
use Rattle.package_blocks.proofs.NumberLemmas.{item_gone, item_there}
use Rattle.header_order.specs.Files.{AddsFirsts, header_counts, package_counts}
use Rattle.header_order.proofs.CodeLemmas.{none_added}
use Rattle.header_order.proofs.files.add_package.Goals as goal

pub returns-in-Some-clause-added : goal.returns-in-Some-clause-added
returns-in-Some-clause-added c =
    let marks = c.args.marks.now in
    let old = c.args.firsts.now.items in
    let new = c.add_firsts.new.firsts.items in
    subst
    (λ o. IfOk c.add_firsts.result (λ end. AddsFirsts marks c.args.start (package_counts o) old end new))
    (sym (item_there c.args.packages.now c.args.number c.in-Some.package.now c.in-Some.ensures.lookup.0 c.in-Some.ensures.lookup.1))
    (subst
    (λ fs. IfOk c.add_firsts.result (λ end. AddsFirsts marks c.args.start (header_counts fs) old end new))
    c.items.ensures c.add_firsts.ensures.added)

pub returns-in-None-clause-added : goal.returns-in-None-clause-added
returns-in-None-clause-added c =
    subst
    (λ o. AddsFirsts c.args.marks.now c.args.start (package_counts o) c.args.firsts.now.items c.args.start c.args.firsts.now.items)
    (sym (item_gone c.args.packages.now c.args.number c.in-None.ensures.lookup.0))
    (none_added c.args.marks.now c.args.start c.args.firsts.now.items)
