use Rattle.std.proofs.Common.{◌≡◌, false, nat_eq}
use Rattle.pkg_graph.specs.Views.{package_view}
use Rattle.file_names.specs.Members.{IsBlockOf}
use Rattle.file_tables.specs.Blocks.{HasOwnTable}
use Rattle.repeated_parts.specs.UseSearch.MarkValues.Tables.{DeclKey, values_at}
use Rattle.programs.proofs.FileValues.Filled.{HasBefore}
use Rattle.programs.proofs.file_values.packages.fill_package.Given as goal

abbrev pub invariant-loop-file : goal.invariant-loop-file
invariant-loop-file l = record {
  block : IsBlockOf l.block.names (package_view l.home);
  table : HasOwnTable l.block;
  here : HasBefore l.packages l.number l.home l.file l.values;
  others : (q : DeclKey) → nat_eq l.number q.0 ≡ false → values_at q l.values ≡ values_at q l.initial.values;
}
