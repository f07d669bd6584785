-- Modules that are read, put together from what computes.
use Rattle.std.proofs.Common.{◌≡◌, ◌<◌, refl, sym, subst, ℕ, zero, suc, Bool, true, false, ◌&&◌, nat_lt, List, [], ◌∷◌, map, Some, None, codes, if◌then◌else◌, arith}
use Rattle.std.specs.Prelude.{find, Contains}
use Rattle.std.specs.List.{list_all}
use Rattle.std.proofs.lemmas.Bool.{leb-true}
use Rattle.bstr.proofs.Computing.{computing}
use Rattle.go_tree.specs.declared.spans.Span.{Span}
use Rattle.go_tree.specs.File.{File}
use Rattle.pkg_graph.specs.ModuleFiles.Pieces.{comes_before}
use Rattle.pkg_graph.specs.ModuleFiles.Selected.{module_file}
use Rattle.pkg_graph.specs.ModuleFiles.ModuleFile.{argument_in, module_path, is_version, unquoted, digits, behind_digits, is_number, is_minor, version_answer, path_answer, is_module, module_of}
use Rattle.pkg_graph.specs.Package.{SourceTree, Package, packages_of}
use Rattle.pkg_graph.specs.Graph.{imports_of, Imports, imported, Leads, directly, over, first_mixed, first_unnamed, first_internal}
use Rattle.pkg_graph.specs.Reads.{Source, is_at, go_files, AreTrees}
use Rattle.pkg_graph.specs.Reads as reads
use Rattle.run_rules.specs.Programs.{in_dependency_order, package_number}
use Rattle.run_rules.specs.Texts.{FileText}
use Rattle.run_rules.specs.Inlining.{ReadsAs, IsSourceFile, are_by_path, AreScanned, ModuleReads}
use Rattle.run_rules.specs.Inlining as inlining

-- ---- files

-- a file with its text, whose tokens spell its tree
pub record FileRead : Type 0 where
  pub path : List ℕ
  pub text : FileText
  pub tree : File Span
  pub reads : ReadsAs text tree

abbrev pub the_source : FileRead → Source
the_source f = record { path = f.path; text = f.text.text }

abbrev pub the_text : FileRead → List ℕ × FileText
the_text f = (f.path, f.text)

abbrev pub the_tree : FileRead → SourceTree Span
the_tree f = record { path = f.path; tree = f.tree }

trees_so : (fs : List FileRead) → AreTrees IsSourceFile (map the_source fs) (map the_tree fs)
trees_so [] = reads.none
trees_so (f ∷ fs) =
    reads.file (the_source f) f.tree (map the_source fs) (map the_tree fs)
    (record { tokens = f.text.tokens; comments = f.text.comments; reads = record { scans = f.reads.scans; spells = f.reads.spells } }) (trees_so fs)

texts_so : (fs : List FileRead) → AreScanned (map the_source fs) (map the_text fs)
texts_so [] = inlining.none
texts_so (f ∷ fs) = inlining.file (the_source f) f.text (map the_source fs) (map the_text fs) refl f.reads.scans (texts_so fs)

-- ---- no cycle

first_holds : (a b : Bool) → (a && b) ≡ true → a ≡ true
first_holds true b h = refl
first_holds false b h = cc

second_holds : (a b : Bool) → (a && b) ≡ true → b ≡ true
second_holds true b h = h
second_holds false b h = cc

holds_among : {A : Type 0} (p : A → Bool) (xs : List A) (x : A) → list_all p xs ≡ true → Contains xs x → p x ≡ true
holds_among p [] x h (k, within, is) = absurd (omega (arith, within))
holds_among p (y ∷ ys) x h (zero, within, is) = subst (λ z. p z ≡ true) is (first_holds (p y) (list_all p ys) h)
holds_among p (y ∷ ys) x h (suc k, within, is) = holds_among p ys x (second_holds (p y) (list_all p ys) h) (k, omega (arith, within), is)

module _ (ps : List (Package Span)) where
  -- the place of a package in the order of their imports
  abbrev pub rank : List ℕ → ℕ
  rank path = package_number (map (λ q. q.1) (in_dependency_order ps)) path

  -- all that it imports comes before it
  abbrev pub falls : Package Span → Bool
  falls p = list_all (λ to. nat_lt (rank to) (rank p.path)) (imports_of p)

  module _ (h : list_all falls ps ≡ true) where
    import_falls : (from to : List ℕ) → Imports ps from to → rank to < rank from
    import_falls _ _ (imported p to at among) = leb-true (suc (rank to)) (rank p.path) (holds_among (λ q. nat_lt (rank q) (rank p.path)) (imports_of p) to (holds_among falls ps p h at) among)

    leads_fall : (from to : List ℕ) → Leads ps from to → rank to < rank from
    leads_fall from to (directly i) = import_falls from to i
    leads_fall from to (over {next = next} i more) =
        let first : rank next < rank from = import_falls from next i in
        let rest : rank to < rank next = leads_fall next to more in omega (arith, first, rest)

    pub no_cycle_so : (path : List ℕ) → Leads ps path path → ⊥
    no_cycle_so path l = let less : rank path < rank path = leads_fall path path l in absurd (omega (arith, less))

-- ---- a module

module _ (home : List ℕ) (go_mod : Source) (fs : List FileRead) where
  abbrev trees : List (SourceTree Span)
  trees = map the_tree fs

  pub module_by : (files : List Source) (ps : List (Package Span)) (texts : List (List ℕ × FileText)) → module_of go_mod.text ≡ is_module home → are_by_path files ≡ true → find (is_at module_file) files ≡ Some go_mod
      → go_files files ≡ map the_source fs → ps ≡ packages_of home trees → texts ≡ map the_text fs → first_mixed home trees ≡ None → first_unnamed home trees ≡ None
      → list_all (falls (packages_of home trees)) (packages_of home trees) ≡ true → first_internal home trees ≡ None → ModuleReads files ps texts
  module_by files ps texts path by_path found sources packages its_texts one_name named falling visible =
      record {
        by_path = by_path;
        reads = record {
          trees = trees;
          trees_are = subst (λ (gs : List Source). AreTrees IsSourceFile gs trees) (sym sources) (trees_so fs);
          program = record {
            module_text = go_mod;
            path = home;
            module_is = found;
            path_is = path;
            packages_are = packages;
            links = record { one_name = one_name; named = named; no_cycle = no_cycle_so (packages_of home trees) falling; visible = visible };
          };
        };
        scanned = subst (λ (gs : List Source). AreScanned gs texts) (sym sources) (subst (λ (ts : List (List ℕ × FileText)). AreScanned (map the_source fs) ts) (sym its_texts) (texts_so fs));
      }

-- ---- folders

-- files with one more in the order of their paths
abbrev pub with_source : Source → List Source → List Source
with_source m [] = m ∷ []
with_source m (f ∷ fs) = if comes_before m.path f.path then m ∷ f ∷ fs else f ∷ with_source m fs

-- a file `go.mod` of this text
abbrev pub module_text : List ℕ → Source
module_text text = record { path = module_file; text = text }

-- the files with these texts, and `go.mod`
abbrev pub folder : List ℕ → List (List ℕ × FileText) → List Source
folder text texts = with_source (module_text text) (map (λ t. record { path = t.0; text = t.1.text }) texts)

abbrev pub small_module : List ℕ
small_module = codes "module example.com/m\n\ngo 1.22\n"

pub small_module_is : module_of small_module ≡ is_module (codes "example.com/m")
unfolding computing argument_in module_path is_version unquoted digits behind_digits is_number is_minor version_answer path_answer
small_module_is = refl

abbrev pub library_module : List ℕ
library_module = codes "module example.com/lib\n\ngo 1.22\n"

pub library_module_is : module_of library_module ≡ is_module (codes "example.com/lib")
unfolding computing argument_in module_path is_version unquoted digits behind_digits is_number is_minor version_answer path_answer
library_module_is = refl
