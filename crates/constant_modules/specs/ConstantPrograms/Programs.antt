-- Programs of constants on the way of a run (Go specification, Constant declarations; Packages; Package clause; the
-- limits are this project's own).
use Rattle.std.specs.Prelude.{◌≡◌, ◌+◌, ◌≤◌, true, List}
use Rattle.go_tree.specs.declared.spans.Span.{Span}
use Rattle.pkg_graph.specs.Package.{Package}
use Rattle.pkg_graph.specs.Reads.{Source}
use Rattle.run_by_steps.specs.RunProgress.Laws.{are_paths_apart}
use Rattle.run_rules.specs.Run.{Standing, module_file_size, texts_size, the_limits}
use Rattle.run_rules.specs.Sites.{MarkRef}
use Rattle.constant_steps.specs.WrittenLiteral.UnspreadForms.UnspreadForms.{UnspreadPackages}
use Rattle.constant_modules.specs.ApartKeys.Files.{keys_are_apart}
use Rattle.constant_modules.specs.NamedThere.Steps.{IsOfConstants}

-- A module as read whose constants are inlined: no call hands on a slice, and no import has a name that is predeclared
-- as a value and a key of a composite literal in its file.
pub record HasForm (ps : List (Package Span)) : Type 0 where
  pub unspread : UnspreadPackages ps
  pub keys : keys_are_apart ps ≡ true

-- A program of constants (named_there's `IsOfConstants`), each of whose texts has a path of its own; with `go.mod` the
-- texts are within the limit of a run.
pub record IsConstantProgram (files : List Source) (marks : List MarkRef) (st : Standing) : Type 0 where
  pub constants : IsOfConstants marks st
  pub apart : are_paths_apart st.texts ≡ true
  pub small : module_file_size files + texts_size st.texts ≤ the_limits.total
