use Rattle.std.proofs.Common.{◌≡◌, ◌<◌, true, length}
use Rattle.pkg_graph.specs.ModuleFiles.PathLists.{has_path, path_at}
use Rattle.pkg_graph.proofs.ImportOrder.NumberLaws.{each_next}
use Rattle.pkg_graph.proofs.import_order.order.wake.Goals as goal

pub loop-j-preserved : goal.loop-j-preserved
loop-j-preserved c = record {
  kept = λ q h. c.in_ok-try_later.ensures.kept q (c.loop-j.invariant.kept q h);
  woken = each_next _ c.loop-j.j-index c.loop-j-test.true (λ j. j < length c.args.paths.now → has_path c.try_later.new.tried (path_at c.args.paths.now j) ≡ true)
      (λ j h l. c.in_ok-try_later.ensures.kept (path_at c.args.paths.now j) (c.loop-j.invariant.woken j h l)) c.in_ok-try_later.ensures.added;
}
