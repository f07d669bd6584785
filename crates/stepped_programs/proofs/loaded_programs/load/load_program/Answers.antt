use Rattle.std.proofs.Common.{◌≡◌, ◌∙◌, ◌<◌, ◌^◌, refl, sym, ap, subst, map, All, ℕ, List, length, true, false, rules}
use Rattle.std.specs.Vec.{vec_len}
use Rattle.file_names.specs.declared.members.MarkRef.{MarkRef}
use Rattle.pkg_graph.specs.Views.{package_view}
use Rattle.pkg_graph.specs.declared.packages.Package.{Package}
use Rattle.run_rules.specs.Marks.{marks_of, bad_of}
use Rattle.module_texts.specs.Files.{IsScanned}
use Rattle.module_texts.specs.declared.files.ScannedFile.{ScannedFile}
use Rattle.module_marks.specs.Views.{bad_at_of, mark_ref_of, texts_of}
use Rattle.programs.specs.TextsOfPackages.Given.{AreTexts}
use Rattle.programs.specs.declared.state.Program.{Program}
use Rattle.read_modules.specs.Modules.{packages_in, texts_in}
use Rattle.stepped_programs.specs.LoadedPrograms.Loaded.{AreTables, marks_constants}
use Rattle.stepped_programs.proofs.LoadedPrograms.ConstantsMarked.{marked_constants}
use Rattle.stepped_programs.proofs.LoadedPrograms.Loading.{loaded, moved}
use Rattle.stepped_programs.proofs.LoadedPrograms.OpenFiles.{opened}
use Rattle.stepped_programs.proofs.loaded_programs.load.load_program.Goals as goal

pub constant_marks-requires : goal.constant_marks-requires
constant_marks-requires c = subst (λ (fs : List ScannedFile). All IsScanned fs) (sym c.deref-2.ensures.value) c.requires.scanned

pub returns-in_default-clause-constants : goal.returns-in_default-clause-constants
returns-in_default-clause-constants c =
    moved (λ (cs : List Package) (fs : List ScannedFile). false ≡ marks_constants (map package_view cs) (texts_of fs)) c.deref.result.now c.args.read.graph.packages.items
    c.deref-2.result.now c.args.read.files.items (c.deref.ensures.value ∙ c.into_packages-packages.ensures) c.deref-2.ensures.value
    (rw c.in_default.is at c.in_ok-marked.ensures.constants)

pub program_tables-requires : goal.program_tables-requires
program_tables-requires c =
    subst (λ (cs : List Package). length cs < 2 ^ 32) (sym (c.deref-3.ensures.value ∙ c.into_packages-packages.ensures)) c.requires.few

pub returns-clause-constants : goal.returns-clause-constants
returns-clause-constants c =
    moved (λ (cs : List Package) (fs : List ScannedFile). true ≡ marks_constants (map package_view cs) (texts_of fs)) c.deref.result.now c.args.read.graph.packages.items
    c.deref-2.result.now c.args.read.files.items (c.deref.ensures.value ∙ c.into_packages-packages.ensures) c.deref-2.ensures.value
    (rw c.in-Some.is at c.in_ok-marked.ensures.constants)

pub returns-clause-searchable : goal.returns-clause-searchable
returns-clause-searchable c = λ files r.
    let m = c.args.read in
    let good = c.in-Some.found.good.items in
    let packages : c.into_packages-packages.result.items ≡ m.graph.packages.items = c.into_packages-packages.ensures in
    let counted : vec_len c.into_packages-packages.result ≡ length c.into_packages-packages.result.items = search rules in
    let tables : AreTables m.graph.packages.items (map mark_ref_of good) c.in_ok-tables.tables =
    moved (λ (cs : List Package) (ms : List MarkRef). AreTables cs (map mark_ref_of ms) c.in_ok-tables.tables) c.deref-3.result.now m.graph.packages.items c.deref-4.result.now good
    (c.deref-3.ensures.value ∙ packages) c.deref-4.ensures.value c.in_ok-tables.ensures in
    let texts : AreTexts m.home.path c.in_ok-tables.tables.places (length m.graph.packages.items) m.files.items c.in_ok-files.files.items =
    moved (λ (path : List ℕ) (n : ℕ). AreTexts path c.in_ok-tables.tables.places n m.files.items c.in_ok-files.files.items) c.items.result.now m.home.path c.len.result
    (length m.graph.packages.items) c.items.ensures (c.len.ensures ∙ counted ∙ ap (λ (cs : List Package). length cs) packages) c.in_ok-files.ensures in
    let program : Program =
    record {
      packages = c.into_packages-packages.result;
      files = c.in_ok-files.files;
      origins = c.in_ok-tables.tables.origins;
      places = c.in_ok-tables.tables.places;
      order = c.in_ok-order.order;
      marks = c.in_ok-tables.tables.marks;
      bad = c.in-Some.found.bad;
      values = c.in_ok-tables.tables.values;
      types = c.args.types;
      users = c.new.result;
      bytes = c.args.bytes;
    } in
    opened files m program r packages tables.places_are texts

pub returns-clause-loaded : goal.returns-clause-loaded
returns-clause-loaded c = λ folder files r e.
    let m = c.args.read in
    let only = c.args.only.now in
    let good = c.in-Some.found.good.items in
    let packages : c.into_packages-packages.result.items ≡ m.graph.packages.items = c.into_packages-packages.ensures in
    let counted : vec_len c.into_packages-packages.result ≡ length c.into_packages-packages.result.items = search rules in
    let first = c.deref.ensures.value ∙ packages in
    let second = c.deref-2.ensures.value in
    let third = c.deref-3.ensures.value ∙ packages in
    let marked : map mark_ref_of good ≡ marks_of (packages_in m) (texts_in m) only =
    moved (λ (cs : List Package) (fs : List ScannedFile). map mark_ref_of good ≡ marks_of (map package_view cs) (texts_of fs) only) c.deref.result.now m.graph.packages.items
    c.deref-2.result.now m.files.items first second (rw c.in-Some.is at c.in_ok-marked.ensures.good) in
    let bad : map bad_at_of c.in-Some.found.bad.items ≡ bad_of (packages_in m) (texts_in m) (packages_in m) =
    moved (λ (cs : List Package) (fs : List ScannedFile). map bad_at_of c.in-Some.found.bad.items ≡ bad_of (map package_view cs) (texts_of fs) (map package_view cs))
    c.deref.result.now m.graph.packages.items c.deref-2.result.now m.files.items first second (rw c.in-Some.is at c.in_ok-marked.ensures.bad) in
    let tested : true ≡ marks_constants (packages_in m) (texts_in m) =
    moved (λ (cs : List Package) (fs : List ScannedFile). true ≡ marks_constants (map package_view cs) (texts_of fs)) c.deref.result.now m.graph.packages.items
    c.deref-2.result.now m.files.items first second (rw c.in-Some.is at c.in_ok-marked.ensures.constants) in
    let program : Program =
    record {
      packages = c.into_packages-packages.result;
      files = c.in_ok-files.files;
      origins = c.in_ok-tables.tables.origins;
      places = c.in_ok-tables.tables.places;
      order = c.in_ok-order.order;
      marks = c.in_ok-tables.tables.marks;
      bad = c.in-Some.found.bad;
      values = c.in_ok-tables.tables.values;
      types = c.args.types;
      users = c.new.result;
      bytes = c.args.bytes;
    } in
    loaded folder files m only (map mark_ref_of good) c.in_ok-tables.tables program r
    (record {
      packages_are = packages;
      order_kept = c.in_ok-order.ensures.items_if_clones_equal (λ x y h. h) ∙ c.order.ensures;
      few = c.requires.few;
      tables_are =
          moved (λ (cs : List Package) (ms : List MarkRef). AreTables cs (map mark_ref_of ms) c.in_ok-tables.tables) c.deref-3.result.now m.graph.packages.items c.deref-4.result.now good
          third c.deref-4.ensures.value c.in_ok-tables.ensures;
      places_are = refl;
      origins_are = refl;
      marks_are = refl;
      values_are = refl;
      texts_are =
          moved (λ (path : List ℕ) (n : ℕ). AreTexts path c.in_ok-tables.tables.places n m.files.items c.in_ok-files.files.items) c.items.result.now m.home.path c.len.result
          (length m.graph.packages.items) c.items.ensures (c.len.ensures ∙ counted ∙ ap (λ (cs : List Package). length cs) packages) c.in_ok-files.ensures;
      marked = marked;
      constants = marked_constants (packages_in m) (texts_in m) only (map mark_ref_of good) marked tested;
      bad_are = bad;
      unused = c.new.ensures;
    })
    e
