use Rattle.std.proofs.Common.{◌<◌, ◌∙◌, sym, arith, length}
use Rattle.std.proofs.lemmas.List.Elements.{All-get_or}
use Rattle.module_texts.specs.Files.{IsScanned}
use Rattle.module_marks.proofs.FileLaws.{file_within, text_found, text_absent}
use Rattle.module_marks.proofs.sources.Sources.file.Goals as goal

pub offset_bounds-self-place : goal.offset_bounds-self-place
offset_bounds-self-place c =
    let h : c.in-Some.place < length c.args.self.now.files.now =
    file_within c.args.self.now.files.now c.args.path.now c.in-Some.place
    (sym (c.requires.found.texts.found c.args.path.now) ∙ (sym c.find.ensures ∙ c.in-Some.is)) in
    omega (arith, h)

pub bounds-self-place : goal.bounds-self-place
bounds-self-place c =
    file_within c.args.self.now.files.now c.args.path.now c.in-Some.place
    (sym (c.requires.found.texts.found c.args.path.now) ∙ (sym c.find.ensures ∙ c.in-Some.is))

pub returns-in-Some-clause-text : goal.returns-in-Some-clause-text
returns-in-Some-clause-text c =
    sym
    (text_found c.args.self.now.files.now c.args.path.now c.in-Some.place c.index-self-place.result
    (sym (c.requires.found.texts.found c.args.path.now) ∙ (sym c.find.ensures ∙ c.in-Some.is)))

pub returns-in-Some-clause-scanned : goal.returns-in-Some-clause-scanned
returns-in-Some-clause-scanned c =
    All-get_or IsScanned c.args.self.now.files.now c.in-Some.place c.index-self-place.result
    (file_within c.args.self.now.files.now c.args.path.now c.in-Some.place
    (sym (c.requires.found.texts.found c.args.path.now) ∙ (sym c.find.ensures ∙ c.in-Some.is)))
    c.requires.scanned

pub returns-in-None-clause-text : goal.returns-in-None-clause-text
returns-in-None-clause-text c =
    sym
    (text_absent c.args.self.now.files.now c.args.path.now
    (sym (c.requires.found.texts.found c.args.path.now) ∙ (sym c.find.ensures ∙ c.in-None.is)))
