use Rattle.std.proofs.Common.{◌∙◌, ◌<◌, ◌^◌, sym, refl, subst, map, All, List, ℕ}
use Rattle.go_tree.specs.declared.files.Decl.{Decl}
use Rattle.go_tree.specs.FileView.{decl_of, file_of}
use Rattle.scope_tables.specs.Table.{table_of}
use Rattle.pkg_graph.specs.Package.{import_specs}
use Rattle.pkg_graph.specs.Views.{package_view}
use Rattle.member_uses.specs.Uses.{Names}
use Rattle.programs.specs.FileValues.Filled.{IsFilled}
use Rattle.programs.proofs.FileValues.Filled.{numbers_small, has_file}
use Rattle.programs.proofs.file_values.packages.fill_source.Goals as goal

pub fill_file-requires : goal.fill_file-requires
fill_file-requires c =
    subst (λ (ns : List ℕ). All (λ k. k < 2 ^ 32) ns) (sym (c.deref.ensures.value ∙ c.in_ok-tables.ensures.imports))
    (numbers_small c.args.packages.now (import_specs (file_of c.args.source.now.tree)) c.requires.few)

pub returns-clause-here : goal.returns-clause-here
returns-clause-here c = λ home b.
    let names : Names = record { table = table_of c.in_ok-tables.tables.scopes; home = c.args.number; imports = c.deref.result.now } in
    has_file c.args.packages.now c.args.number home c.args.file c.args.source.now names c.in_ok-tables.tables.names c.args.values.now c.fill_file.new.values
    (c.in_ok-tables.ensures.names (package_view home) b) c.in_ok-tables.ensures.table refl (c.deref.ensures.value ∙ c.in_ok-tables.ensures.imports)
    (subst (λ (ds : List Decl). IsFilled c.args.number c.args.file names (map decl_of ds) c.args.values.now c.fill_file.new.values) c.items.ensures
    c.in_ok-fill_file.ensures)
