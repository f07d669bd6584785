-- What a module of the form that is built gives, where it is taken.
use Rattle.std.proofs.Common.{◌≡◌, sym, ℕ, ◌+◌, ◌≤◌, true, List, [], arith}
use Rattle.std.specs.List.{list_all}
use Rattle.go_tree.specs.declared.spans.Span.{Span}
use Rattle.go_translation.specs.SameMeaning.{WellTyped}
use Rattle.member_uses.specs.Laws.{AllConstants}
use Rattle.order_runs.specs.RunSteps.RunPackages.{packages_of}
use Rattle.pkg_graph.specs.Package.{Package}
use Rattle.pkg_graph.specs.Reads.{Source}
use Rattle.constant_modules.specs.ConstantPrograms.Programs.{HasForm}
use Rattle.run_rules.specs.Inlining.{ModuleReads}
use Rattle.splice_laws.proofs.RunLaws.RunsRead.{modules_read}
use Rattle.variadic_words.specs.Laws.{FilesWithoutDots}
use Rattle.run_rules.specs.Marks.{marks_of}
use Rattle.run_rules.specs.Run.{module_file_size, texts_size, the_limits}
use Rattle.run_rules.specs.Texts.{FileText}
use Rattle.source_files.specs.declared.files.SourceFile.{SourceFile}
use Rattle.stepped_programs.specs.LoadedPrograms.Loaded.{marks_constants}
use Rattle.stepped_programs.proofs.LoadedPrograms.ConstantsMarked.{marked_constants}
use Rattle.run_plans.specs.PlannedModules.Modules.{IsTaken, has_form, is_formed, package_apart, without_dots}
use Rattle.run_plans.proofs.PlannedModules.Dots.{module_unspread}
use Rattle.run_plans.proofs.PlannedModules.Folders.{both}
use Rattle.run_plans.proofs.PlannedModules.NamesApart.{keys_apart}
use Rattle.run_plans.proofs.PlannedModules.Members.{typed_members}

module _ (ps : List (Package Span)) (texts : List (List ℕ × FileText)) (form : has_form ps texts ≡ true) where
  parts : (is_formed ps texts ≡ true) × (marks_constants ps texts ≡ true)
  parts = both (is_formed ps texts) (marks_constants ps texts) form

  names : (without_dots texts ≡ true) × (list_all package_apart ps ≡ true)
  names = both (without_dots texts) (list_all package_apart ps) parts.0

  pub formed : FilesWithoutDots → (folder : List Source) → ModuleReads folder ps texts → HasForm ps
  formed law folder reads =
      record { unspread = module_unspread law ps texts (modules_read folder ps texts reads) names.0; keys = keys_apart ps names.1 }

  pub constants : (only : List ℕ) → AllConstants ps (marks_of ps texts only)
  constants only = marked_constants ps texts only (marks_of ps texts only) (λ v. marks_of ps texts only) (sym parts.1)

pub texts_within : (n m : ℕ) → n + m ≤ the_limits.total → m ≤ the_limits.total
texts_within n m h = let k : n + m ≤ 16777216 = h in omega (arith, k)

module _ (folder : List Source) (files : List SourceFile) (t : IsTaken folder files) where
  pub taken_typed : WellTyped (packages_of t.packages [])
  taken_typed = typed_members folder t.packages t.texts t.read.reads t.typed

  pub taken_small : texts_size t.texts ≤ the_limits.total
  taken_small = texts_within (module_file_size folder) (texts_size t.texts) t.within
