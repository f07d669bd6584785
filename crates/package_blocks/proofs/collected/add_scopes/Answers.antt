use Rattle.std.proofs.Common.{None, refl, subst, sym, take}
use Rattle.typed_names.specs.declared.scopes.Scope.{Scope}
use Rattle.package_blocks.specs.Collected.{AddsScopes}
use Rattle.package_blocks.proofs.HeaderLemmas.{take_all, take_item}
use Rattle.package_blocks.proofs.CollectedLemmas.{scopes_none, scopes_one}
use Rattle.package_blocks.proofs.collected.add_scopes.Goals as goal

pub loop-file-init : goal.loop-file-init
loop-file-init c = scopes_none c.args.packages.now c.args.blocks.now c.args.home c.args.scopes.now.items

pub loop-file-preserved : goal.loop-file-preserved
loop-file-preserved c =
    let files = c.args.files.now in
    let i = c.loop-file.file-index in
    let item = c.file-item.result in
    let s : Scope = record { locals = c.new.result; imports = c.in_ok-imports.imports; home = c.args.home; iota = None } in
    subst
    (λ fs. AddsScopes c.args.packages.now c.args.blocks.now c.args.home fs c.args.scopes.now.items c.push.new.self.items)
    (sym (take_item files i item c.loop-file-test.true c.file-item.is))
    (scopes_one c.args.packages.now c.args.blocks.now c.args.home (take i files) item s c.args.scopes.now.items
    c.loop-file.scopes.items c.push.new.self.items c.loop-file.invariant
    (record { home_is = refl; outside = c.new.ensures; no_constant = refl; imports = c.in_ok-imports.ensures })
    c.in_ok-push.ensures.items)

pub returns : goal.returns
returns c =
    subst
    (λ fs. AddsScopes c.args.packages.now c.args.blocks.now c.args.home fs c.args.scopes.now.items c.loop-file.scopes.items)
    (take_all c.args.files.now c.loop-file.file-index c.loop-file-test.false) c.loop-file.invariant
