use Rattle.std.proofs.Common.{◌≡◌, ap, subst, sym}
use Rattle.collected.specs.Declarations.{refusal_of}
use Rattle.package_blocks.proofs.NumberLemmas.{item_gone, item_there}
use Rattle.checked_modules.specs.FilePlaces.Programs.{package_at}
use Rattle.checked_modules.specs.Firsts.{bodies_of, place_in_packages}
use Rattle.checked_modules.proofs.firsts.place_by_number.Goals as goal

pub returns-in-Some : goal.returns-in-Some
returns-in-Some c =
    λ w e cs same are.
    let packages = c.args.packages.now in
    let k = c.args.number in
    let there = item_there packages k c.in-Some.package.now c.in-Some.ensures.lookup.0 c.in-Some.ensures.lookup.1 in
    subst
    (λ o. refusal_of c.place_in_package.result ≡ place_in_packages w (refusal_of c.args.declaration.now) (package_at packages k o))
    (sym there)
    (c.place_in_package.ensures w e cs packages same (subst (λ o. c.args.bodies.now ≡ bodies_of w (package_at packages k o)) there are))

pub returns-in-None : goal.returns-in-None
returns-in-None c =
    λ w e cs same are.
    let packages = c.args.packages.now in
    let k = c.args.number in
    ap (λ o. place_in_packages w (refusal_of c.args.declaration.now) (package_at packages k o))
    (sym (item_gone packages k c.in-None.ensures.lookup.0))
