use Rattle.std.proofs.Common.{◌∙◌, ap}
use Rattle.pkg_graph.specs.ModuleFiles.Selected.{is_selected}
use Rattle.pkg_graph.proofs.ModuleFiles.SelectionLaws.{number_in, number_out}
use Rattle.pkg_graph.proofs.module_files.selection.selected.Goals.{then-is_selected+in_ok-push, else-is_selected}
use Rattle.pkg_graph.proofs.module_files.selection.selected.Goals as goal

pub loop-i-preserved : goal.loop-i-preserved
loop-i-preserved c =
    let paths = c.args.paths.now in
    let i = c.loop-i.i in
    let p = c.index-paths-i.result in
    elim c.if-is_selected.branch [
      | then-is_selected+in_ok-push w ↦ rw (w.numbers-is) (number_in paths i p c.loop-i-test.true c.index-paths-i.is c.loop-i.numbers.items w.push.new.self.items (w.if-is_selected.ensures paths c.in_ok-modules.ensures ∙ ap (is_selected paths) c.items.ensures) c.loop-i.invariant w.in_ok-push.ensures.items)
      | else-is_selected w ↦ rw (w.numbers-is) (number_out paths i p c.loop-i-test.true c.index-paths-i.is c.loop-i.numbers.items (w.if-is_selected.ensures paths c.in_ok-modules.ensures ∙ ap (is_selected paths) c.items.ensures) c.loop-i.invariant)
    ]
