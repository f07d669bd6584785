use Rattle.std.proofs.Common.{◌∙◌, sym, map}
use Rattle.pkg_graph.specs.Views.{package_view}
use Rattle.module_marks.specs.Views.{texts_of}
use Rattle.stepped_programs.proofs.LoadedPrograms.ConstantsMarked.{no_methods, marks_tested, marks_kept}
use Rattle.stepped_programs.proofs.loaded_programs.marks.constant_marks.Goals as goal

pub returns-then-not-are_of_constants-clause-constants : goal.returns-then-not-are_of_constants-clause-constants
returns-then-not-are_of_constants-clause-constants c =
    sym c.if-not-are_of_constants.true
    ∙ marks_tested (map package_view c.args.packages.now) (texts_of c.args.files.now) c.in_ok-found.found.good.items c.deref.result.now c.are_of_constants.result
    c.in_ok-found.ensures.good c.deref.ensures.value c.are_of_constants.ensures

pub narrowed-requires : goal.narrowed-requires
narrowed-requires c =
    no_methods (map package_view c.args.packages.now) c.deref.result.now c.in_ok-found.found.good.items c.deref-2.result.now c.are_of_constants.result c.deref.ensures.value
    c.are_of_constants.ensures c.if-not-are_of_constants.false c.deref-2.ensures.value

pub returns-clause-constants : goal.returns-clause-constants
returns-clause-constants c =
    sym c.if-not-are_of_constants.false
    ∙ marks_tested (map package_view c.args.packages.now) (texts_of c.args.files.now) c.in_ok-found.found.good.items c.deref.result.now c.are_of_constants.result
    c.in_ok-found.ensures.good c.deref.ensures.value c.are_of_constants.ensures

pub returns-clause-good : goal.returns-clause-good
returns-clause-good c =
    marks_kept (map package_view c.args.packages.now) (texts_of c.args.files.now) c.args.only.now c.in_ok-found.found.good.items c.deref-2.result.now c.in_ok-good.good.items
    c.in_ok-found.ensures.good c.deref-2.ensures.value c.in_ok-good.ensures

pub returns-clause-bad : goal.returns-clause-bad
returns-clause-bad c = c.in_ok-found.ensures.bad
