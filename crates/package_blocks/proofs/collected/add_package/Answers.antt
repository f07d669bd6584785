use Rattle.std.proofs.Common.{◌≡◌, ◌∙◌, arith, length, subst}
use Rattle.package_blocks.specs.declared.collected.PackageNames.{PackageNames}
use Rattle.package_blocks.specs.Headers.{AddsFiles}
use Rattle.package_blocks.specs.Collected.{AddsScopes, decls_in}
use Rattle.package_blocks.proofs.NumberLemmas.{item_gone, item_there}
use Rattle.package_blocks.proofs.CollectedLemmas.{package_added, package_gone}
use Rattle.package_blocks.proofs.collected.add_package.Goals as goal

pub returns-in_ok-add_scopes-in-Some : goal.returns-in_ok-add_scopes-in-Some
returns-in_ok-add_scopes-in-Some c =
    let packages = c.args.packages.now in
    let k = c.args.number in
    let p = c.in-Some.package.now in
    let old = c.args.collected.now in
    let new : PackageNames =
    record { blocks = c.add_files.new.blocks; files = c.add_scopes.new.scopes; headers = c.add_files.new.headers } in
    let e : old.files.len ≡ length old.files.items = omega arith in
    package_added packages k p (item_there packages k p c.in-Some.ensures.lookup.0 c.in-Some.ensures.lookup.1) old new
    (subst (λ n. AddsFiles k n (decls_in p.files) old.blocks new.blocks old.headers.items new.headers.items)
    (c.len-first.ensures ∙ e)
    (subst
    (λ fs. AddsFiles k c.len-first.result (decls_in fs) old.blocks new.blocks old.headers.items new.headers.items)
    c.items-files.ensures c.in_ok-add_files-in-Some.ensures))
    (subst (λ fs. AddsScopes packages new.blocks k fs old.files.items new.files.items) c.items-files.ensures
    c.in_ok-add_scopes-in-Some.ensures)

pub returns-in-None : goal.returns-in-None
returns-in-None c =
    package_gone c.args.packages.now c.args.number c.args.collected.now
    (item_gone c.args.packages.now c.args.number c.in-None.ensures.lookup.0)
