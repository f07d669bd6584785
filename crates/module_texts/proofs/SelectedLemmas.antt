-- The selected files of a folder.
use Rattle.std.proofs.Common.{◌≡◌, ◌∙◌, ℕ, true, not, List, find, filter, map, refl, sym, ap, subst, Option, Some, None}
use Rattle.pkg_graph.specs.ModuleFiles.Selected.{is_selected, module_file}
use Rattle.pkg_graph.specs.Reads.{Source, is_at, selected_files, AreTrees, Reads}
use Rattle.pkg_graph.specs.Views.{package_view}
use Rattle.run_rules.specs.Inlining.{IsSourceFile}
use Rattle.module_texts.specs.Files.{sources_of}
use Rattle.source_files.specs.declared.files.SourceFile.{SourceFile}
use Rattle.module_texts.specs.declared.modules.ReadModule.{ReadModule}
use Rattle.module_texts.specs.Modules.{IsReadFrom, SelectedFilesRead, answer_in}
use Rattle.module_texts.proofs.Lemmas.{find_filter}

-- `go.mod` is selected
module_selected : (paths : List (List ℕ)) (f : Source) → is_at module_file f ≡ true → is_selected paths f.path ≡ true
module_selected paths f e = rw e refl

-- `go.mod` stands among the selected files
module_found : (all : List Source) → find (is_at module_file) (selected_files all) ≡ find (is_at module_file) all
module_found all = find_filter (λ f. is_selected (map (λ g. g.path) all) f.path) (is_at module_file) (module_selected (map (λ g. g.path) all)) all

read_by : (all : List Source) (files : List SourceFile) (m : ReadModule) → selected_files all ≡ sources_of files → IsReadFrom files m
    → (found : Option Source) → find (is_at module_file) (sources_of files) ≡ found → Reads IsSourceFile all (map package_view m.graph.packages.items)
read_by all files m same r None e = let c = ap answer_in (sym e) ∙ r.path_is in absurd (cc)
read_by all files m same r (Some text) e = record {
  trees = r.trees;
  trees_are = subst (λ fs. AreTrees IsSourceFile (filter (λ f. not (is_at module_file f)) fs) r.trees) (sym same) r.trees_are;
  program = record {
    module_text = text;
    path = m.home.path;
    module_is = sym (module_found all) ∙ ap (find (is_at module_file)) same ∙ e;
    path_is = ap answer_in (sym e) ∙ r.path_is;
    packages_are = r.packages_are;
    links = r.links;
  };
}

pub selected_files_read : SelectedFilesRead
selected_files_read all files m same r = read_by all files m same r (find (is_at module_file) (sources_of files)) refl
