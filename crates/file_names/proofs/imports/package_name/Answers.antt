use Rattle.std.proofs.Common.{◌<◌, ◌∙◌, sym, arith, length}
use Rattle.file_names.proofs.ImportLaws.{path_within, name_found, name_absent}
use Rattle.file_names.proofs.imports.package_name.Goals as goal

pub offset_bounds-packages-place : goal.offset_bounds-packages-place
offset_bounds-packages-place c =
    let h : c.in-Some.place < length c.args.packages.now =
    path_within c.args.packages.now c.args.path.now c.in-Some.place
    (sym (c.requires.found c.args.path.now) ∙ (sym c.find.ensures ∙ c.in-Some.is)) in
    omega (arith, h)

pub bounds-packages-place : goal.bounds-packages-place
bounds-packages-place c =
    path_within c.args.packages.now c.args.path.now c.in-Some.place
    (sym (c.requires.found c.args.path.now) ∙ (sym c.find.ensures ∙ c.in-Some.is))

pub returns-in-Some : goal.returns-in-Some
returns-in-Some c =
    c.items.ensures
    ∙ sym
    (name_found c.args.packages.now c.args.path.now c.in-Some.place c.index-packages-place.result
    (sym (c.requires.found c.args.path.now) ∙ (sym c.find.ensures ∙ c.in-Some.is)))

pub returns-in-None : goal.returns-in-None
returns-in-None c =
    c.as_slice.ensures
    ∙ sym
    (name_absent c.args.packages.now c.args.path.now
    (sym (c.requires.found c.args.path.now) ∙ (sym c.find.ensures ∙ c.in-None.is)))
