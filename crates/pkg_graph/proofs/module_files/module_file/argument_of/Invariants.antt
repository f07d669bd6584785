use Rattle.std.proofs.Common.{◌≡◌}
use Rattle.pkg_graph.specs.ModuleFiles.Pieces.{lines}
use Rattle.pkg_graph.specs.ModuleFiles.ModuleFile.{first_argument}
use Rattle.pkg_graph.proofs.module_files.module_file.argument_of.Given as goal

abbrev pub invariant-loop-line : goal.invariant-loop-line
invariant-loop-line l = record {
  next : (goal.iterator-loop-line).can_next l.line-iterator;
  finite : (goal.iterator-loop-line).is_finite l.line-iterator;
  rest : first_argument l.name l.line-iterator ≡ first_argument l.name (lines l.fn.text);
}
