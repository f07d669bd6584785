-- The step over a use that is found.
use Rattle.std.proofs.Common.{◌≡◌, ◌∙◌, sym, ap, subst, ℕ, List, get_or, Some, None, Result, Ok, Err, IfOk, IfErr}
use Rattle.std.specs.Prelude.{slice_get}
use Rattle.std.proofs.lemmas.Option.{get_or_from_slice_get}
use Rattle.go_scan.specs.TokenLists.{TokenLists}
use Rattle.go_tree.specs.FileView.{file_of}
use Rattle.pkg_graph.specs.declared.packages.Package.{Package}
use Rattle.pkg_graph.specs.declared.packages.SourceTree.{SourceTree}
use Rattle.text_edits.specs.Applied.{applied}
use Rattle.step_files.specs.declared.file.FileFault.{FileFault}
use Rattle.step_files.specs.declared.limits.Progress.{Progress}
use Rattle.step_files.specs.Files.{IsNewFile, text_of}
use Rattle.step_files.specs.Limits.{Passes}
use Rattle.stepped_programs.specs.declared.package_search.file_steps.step.FileStep.{FileStep}
use Rattle.stepped_programs.specs.PackageSearch.FileSteps.Steps.{MakesEdits, IsStepFault}
use Rattle.programs.specs.declared.state.PackageFiles.{PackageFiles}
use Rattle.programs.specs.declared.state.Program.{Program}
use Rattle.stepped_programs.specs.SearchedSites.FoundSteps.Uses.{MayBeMade}
use Rattle.stepped_programs.specs.SearchedSites.OrderedSearches.Found.{HasTables}
use Rattle.repeated_parts.specs.declared.use_search.views.FileView.{FileView}
use Rattle.stepped_programs.specs.declared.first_uses.first.FirstUse.{FirstUse}
use Rattle.stepped_programs.specs.FirstUses.Step.{IsViewOf, MayStep, IsUseStep, IsUseFault}

-- what is read of a list is what stands there
pub read_is : {A : Type 0} (xs : List A) (k : ℕ) (x d : A) → slice_get xs k ≡ Some x → d ≡ get_or xs k d → x ≡ d
read_is xs k x d e g = sym (g ∙ get_or_from_slice_get xs k x d e)

-- a view of the file
abbrev pub a_view : FirstUse → SourceTree → TokenLists → FileView
a_view u source tokens =
    record {
      home = u.home;
      tree = record { ref_ptr = (0, 0); now = source.tree };
      comments = record { ref_ptr = (0, 0); now = tokens.comments };
      names = record { ref_ptr = (0, 0); now = u.found.tables.names };
      scopes = record { ref_ptr = (0, 0); now = u.found.tables.scopes };
      imports = record { ref_ptr = (0, 0); now = u.found.tables.imports.items };
    }

-- what the code reads is what is there
module _ (p : Program) (u : FirstUse) (m : MayStep p u) where
  pub source_read : (home : Package) (files : List SourceTree) (source : SourceTree) → home ≡ get_or p.packages.items u.home home → files ≡ home.files
      → source ≡ get_or files u.found.file source → m.file.source ≡ source
  source_read home files source h f s =
      let e : m.file.home ≡ home = read_is p.packages.items u.home m.file.home home m.file.home_is h in
      read_is files u.found.file m.file.source source
      (ap (λ (fs : List SourceTree). slice_get fs u.found.file) (f ∙ sym (ap (λ (z : Package). z.files) e)) ∙ m.file.source_is) s

  kept_read : (kept : PackageFiles) → kept ≡ get_or p.files.items u.home kept → m.file.kept ≡ kept
  kept_read kept h = read_is p.files.items u.home m.file.kept kept m.file.kept_is h

  pub text_read : (kept : PackageFiles) (text body : List ℕ) → kept ≡ get_or p.files.items u.home kept → text ≡ get_or kept.texts.items u.found.file text → body ≡ text
      → m.file.text ≡ body
  text_read kept text body h t b =
      read_is kept.texts.items u.found.file m.file.text text
      (ap (λ (z : PackageFiles). slice_get z.texts.items u.found.file) (sym (kept_read kept h)) ∙ m.file.text_is) t ∙ sym b

  pub tokens_read : (kept : PackageFiles) (tokens : TokenLists) → kept ≡ get_or p.files.items u.home kept → tokens ≡ get_or kept.tokens.items u.found.file tokens
      → m.file.tokens ≡ tokens
  tokens_read kept tokens h t =
      read_is kept.tokens.items u.found.file m.file.tokens tokens
      (ap (λ (z : PackageFiles). slice_get z.tokens.items u.found.file) (sym (kept_read kept h)) ∙ m.file.tokens_are) t

module _ (p : Program) (u : FirstUse) (m : MayStep p u) (v : FileView) (source : SourceTree) (text : List ℕ) (tokens : TokenLists) (source_is : m.file.source ≡ source) (text_is : m.file.text ≡ text)
    (tokens_are : m.file.tokens ≡ tokens) (tree_is : file_of v.tree.now ≡ file_of source.tree) (tables_are : HasTables u.found.tables v) where
  is_view : IsViewOf p u m.file v
  is_view = record { tree_is = tree_is ∙ sym (ap (λ (z : SourceTree). file_of z.tree) source_is); tables_are = tables_are }

  pub may_be_made : MayBeMade v text tokens u.found.found.form
  may_be_made =
      subst (λ (t : List ℕ). MayBeMade v t tokens u.found.found.form) text_is
      (subst (λ (ts : TokenLists). MayBeMade v m.file.text ts u.found.found.form) tokens_are (m.made v is_view))

  pub step_made : (progress : Progress) (r : Result FileStep FileFault) → IfOk r (λ s. MakesEdits v text tokens u.found.found.form s.edits)
      → IfOk r (λ s. IsNewFile (applied text s.edits) s.file) → IfOk r (λ s. Passes progress (text_of s.file) None) → IfOk r (IsUseStep p u progress)
  step_made progress (Ok s) edits read within =
      record {
        file = m.file;
        view = v;
        is_view = is_view;
        edits =
            subst (λ (t : List ℕ). MakesEdits v t m.file.tokens u.found.found.form s.edits) (sym text_is)
            (subst (λ (ts : TokenLists). MakesEdits v text ts u.found.found.form s.edits) (sym tokens_are) edits);
        read = subst (λ (t : List ℕ). IsNewFile (applied t s.edits) s.file) (sym text_is) read;
        within = within;
      }
  step_made progress (Err e) edits read within = tt

  pub step_refused : (progress : Progress) (r : Result FileStep FileFault) → IfErr r (IsStepFault v text tokens u.found.found.form progress) → IfErr r (IsUseFault p u progress)
  step_refused progress (Ok s) h = tt
  step_refused progress (Err e) h =
      record {
        file = m.file;
        view = v;
        is_view = is_view;
        is_fault =
            subst (λ (t : List ℕ). IsStepFault v t m.file.tokens u.found.found.form progress e) (sym text_is)
            (subst (λ (ts : TokenLists). IsStepFault v text ts u.found.found.form progress e) (sym tokens_are) h);
      }
