-- What is planned for a module that was read from the files of a folder.
use Rattle.std.proofs.Common.{◌≡◌, ◌∙◌, refl, sym, ap, subst, ℕ, ◌+◌, ◌<◌, ◌≤◌, Bool, true, false, ◌&&◌, List, [], ◌∷◌, map, Option, Some, None, is_some, IfSome, All}
use Rattle.std.proofs.lemmas.List.Elements.{All-head, All-tail}
use Rattle.go_tree.specs.declared.spans.Span.{Span}
use Rattle.go_tree.specs.GoTypes.WellTyped.{well_typed}
use Rattle.module_marks.specs.Views.{texts_of}
use Rattle.module_texts.specs.Files.{sources_of}
use Rattle.module_texts.specs.Modules.{IsReadFrom}
use Rattle.module_texts.specs.Refusals.{HasWords}
use Rattle.module_texts.specs.declared.files.ScannedFile.{ScannedFile}
use Rattle.module_texts.specs.declared.modules.ReadModule.{ReadModule}
use Rattle.module_refusals.specs.Told.{told_whole}
use Rattle.module_refusals.proofs.ReasonLemmas.{read_is_module}
use Rattle.pkg_graph.specs.Reads.{Source}
use Rattle.pkg_graph.specs.Views.{package_view}
use Rattle.pkg_graph.specs.declared.packages.Package.{Package}
use Rattle.programs.specs.declared.state.Program.{Program}
use Rattle.read_modules.specs.Laws.{ModulesAreRead}
use Rattle.read_modules.specs.Modules.{IsReadIn, packages_in, texts_in}
use Rattle.refusals.specs.declared.refusal.Detail.TheVariants as detail
use Rattle.refusals.specs.declared.refusal.Refusal.{Refusal}
use Rattle.run_by_steps.specs.Reached.{AllSupported}
use Rattle.literal_tables.specs.HasTypes.{HasTypes}
use Rattle.repeated_parts.specs.declared.literal_types.table.LiteralTypes.{LiteralTypes}
use Rattle.run_rules.specs.Programs.{linked, world}
use Rattle.run_rules.specs.Run.{module_file_size, texts_size, the_limits}
use Rattle.source_files.specs.declared.files.SourceFile.{SourceFile}
use Rattle.stepped_programs.specs.LoadedPrograms.Loaded.{IsLoaded, marks_constants}
use Rattle.variadic_words.specs.Laws.{FilesWithoutDots}
use Rattle.run_plans.specs.InlinedPrograms.Beginnings.{BeginsRun}
use Rattle.run_plans.specs.InlinedPrograms.Laws.{LoadedProgramsBeginRuns}
use Rattle.run_plans.specs.PlannedModules.Folders.{AreFolder, AreOfFolder, size_of}
use Rattle.run_plans.specs.PlannedModules.Loaded.{IsLoadedOf}
use Rattle.run_plans.specs.PlannedModules.Modules.{IsRead, IsTaken, has_form, is_formed, module_size}
use Rattle.run_plans.specs.PlannedModules.Places.{IsTypingOf}
use Rattle.run_plans.specs.PlannedModules.Planned.{IsModulePlan}
use Rattle.run_plans.specs.PlannedModules.Runs.{IsRunFault, IsRunPlan, StartsRun, StartsSomeRun, beginning_of}
use Rattle.run_plans.specs.PlannedModules.Unplanned.{IsModuleFault, IsUnplanned, not_built, ill_typed, too_large, passes_limit, too_large_told}
use Rattle.run_plans.specs.declared.planned_modules.faults.ModuleFault.{ModuleFault}
use Rattle.run_plans.specs.declared.planned_modules.faults.ModuleFault.TheVariants.{Refused, NoMemory}
use Rattle.run_plans.specs.declared.planned_modules.plan.Plan.{Plan}
use Rattle.run_plans.proofs.PlannedModules.Folders.{and_both}
use Rattle.run_plans.proofs.PlannedModules.Forms.{constants, formed}
use Rattle.run_plans.proofs.PlannedModules.Members.{typed_members}
use Rattle.run_plans.proofs.PlannedModules.FileSizes.{sizes_agree}

-- each word of the texts is supported
words_told : (ss : List ScannedFile) → All HasWords ss → AllSupported (texts_of ss)
words_told [] h = tt
words_told (s ∷ ss) h = (All-head HasWords s ss h, words_told ss (All-tail HasWords s ss h))

not_both_left : (a b : Bool) → a ≡ false → (a && b) ≡ false
not_both_left true b e = absurd cc
not_both_left false b e = refl

not_both_right : (a b : Bool) → b ≡ false → (a && b) ≡ false
not_both_right true b e = e
not_both_right false b e = refl

module _ (files : List SourceFile) (m : ReadModule) (r : IsReadFrom files m) (only : List ℕ) where
  module _ (read : ModulesAreRead) (folder : List Source) (o : AreOfFolder folder files) where
    pub read_in : IsReadIn folder files m
    read_in = record { by_path = o.by_path; selected = o.selected; read = r }

    pub is_read : IsRead folder files (packages_in m) (texts_in m)
    is_read = record { of_folder = o; module_is = read_is_module files m r; reads = read folder files m read_in }

    pub size_is : size_of files ≡ module_size folder (texts_in m)
    size_is = sizes_agree folder files m o r

    -- ---- what is refused

    pub formless : is_formed (packages_in m) (texts_in m) ≡ false → IsUnplanned folder files only (told_whole detail.NotYet)
    formless e = not_built (packages_in m) (texts_in m) is_read (not_both_left (is_formed (packages_in m) (texts_in m)) (marks_constants (packages_in m) (texts_in m)) e)

    pub unmarked : marks_constants (packages_in m) (texts_in m) ≡ false → IsUnplanned folder files only (told_whole detail.NotYet)
    unmarked e = not_built (packages_in m) (texts_in m) is_read (not_both_right (is_formed (packages_in m) (texts_in m)) (marks_constants (packages_in m) (texts_in m)) e)

    module _ (form : has_form (packages_in m) (texts_in m) ≡ true) where
      pub mistyped : (x : Refusal) → IsTypingOf files (packages_in m) (Some x) → IsUnplanned folder files only x
      mistyped x h = ill_typed (packages_in m) (texts_in m) is_read form h.0 h.1 x h.2

      module _ (typed : well_typed (linked (packages_in m)) ≡ true) where
        pub oversized : (size : ℕ) → size ≡ size_of files → the_limits.total < size → IsUnplanned folder files only (told_whole (too_large_told size))
        oversized size e l =
            let same : size ≡ module_size folder (texts_in m) = e ∙ size_is in
            subst (λ (n : ℕ). IsUnplanned folder files only (told_whole (too_large_told n))) (sym same)
            (too_large (packages_in m) (texts_in m) is_read form typed (subst (λ (n : ℕ). the_limits.total < n) same l))

        -- ---- what is planned

        module _ (within : size_of files ≤ the_limits.total) where
          pub small : module_size folder (texts_in m) ≤ the_limits.total
          small = subst (λ (n : ℕ). n ≤ the_limits.total) size_is within

          abbrev pub taken : IsTaken folder files
          taken = record { packages = packages_in m; texts = texts_in m; read = is_read; form = form; typed = typed; within = small }

          pub module_plan : (p : Plan) → IsRunPlan folder files (packages_in m) (texts_in m) only p → IsModulePlan folder files only p
          module_plan p h = record { after = h.after; planned = record { taken = taken; inlining = h.inlining; steps_are = h.steps_are }; writes = h.writes }

          pub run_refused : (x : Refusal) → IsRunFault folder files (packages_in m) (texts_in m) only (Refused x) → IsUnplanned folder files only x
          run_refused x h = passes_limit x (record { taken = taken; limit = h.limit; passes = h.passes; tells = h.tells })

          module _ (dots : FilesWithoutDots) (begin : LoadedProgramsBeginRuns) (p : Program) (loaded : IsLoaded folder m only p) (types : HasTypes (world (packages_in m)) p.types) where
            begins : BeginsRun (beginning_of folder m only) p
            begins =
                begin folder m only p is_read.reads o.octets (words_told m.files.items r.words) (typed_members folder (packages_in m) (texts_in m) is_read.reads typed)
                (formed (packages_in m) (texts_in m) form dots folder is_read.reads) (constants (packages_in m) (texts_in m) form only) small loaded types

            pub starts : StartsRun folder files m only p
            starts = record { read = read_in; begins = begins; bad_are = loaded.bad_are }

-- ---- what is answered

-- the program is that of the module, wherever it was read with these bytes
abbrev LoadsFrom : ReadModule → List ℕ → ℕ → Program → Type 0
LoadsFrom m only bytes p =
    (folder : List Source) (files : List SourceFile) → IsReadIn folder files m → bytes ≡ module_file_size folder + texts_size (texts_in m) → IsLoaded folder m only p

module _ (files : List SourceFile) (m : ReadModule) (r : IsReadFrom files m) (only : List ℕ) (read : ModulesAreRead) where
  pub refused_formless : (e : ModuleFault) (b : Bool) → e ≡ Refused (told_whole detail.NotYet) → b ≡ is_formed (packages_in m) (texts_in m) → b ≡ false → IsModuleFault files only e
  refused_formless e b is tested none = subst (IsModuleFault files only) (sym is) (λ folder o. formless files m r only read folder o (sym tested ∙ none))

  pub refused_unmarked : (e : ModuleFault) → e ≡ Refused (told_whole detail.NotYet) → false ≡ marks_constants (packages_in m) (texts_in m) → IsModuleFault files only e
  refused_unmarked e is none = subst (IsModuleFault files only) (sym is) (λ folder o. unmarked files m r only read folder o (sym none))

  -- the program that is loaded with these bytes is that of each folder that the files are read of
  module _ (o : Option Refusal) (h : IsTypingOf files (packages_in m) o) (size : ℕ) (sum : size ≡ size_of files) (bytes : ℕ) (is : size ≤ the_limits.total → bytes ≡ size) where
    bytes_as : size ≤ the_limits.total → (folder : List Source) (f : AreOfFolder folder files) → bytes ≡ module_file_size folder + texts_size (texts_in m)
    bytes_as small folder f = is small ∙ sum ∙ size_is files m r only read folder f

    pub loaded_of : is_formed (packages_in m) (texts_in m) ≡ true → (l : Option Program) (p : Program) → l ≡ Some p → (types : LiteralTypes) → HasTypes (world (packages_in m)) types → IfSome l (λ q. q.types ≡ types) → is_some l ≡ marks_constants (packages_in m) (texts_in m) → IfSome l (LoadsFrom m only bytes) → IsLoadedOf files m only o size p
    loaded_of formed_ l p e types has told marks loads =
        record {
          read = r;
          form = and_both (is_formed (packages_in m) (texts_in m)) (marks_constants (packages_in m) (texts_in m)) formed_ (sym marks ∙ ap is_some e);
          typing = h;
          size_is = sum;
          types = subst (HasTypes (world (packages_in m))) (sym (subst (λ (x : Option Program). IfSome x (λ q. q.types ≡ types)) e told)) has;
          loaded = λ small folder f. subst (λ (x : Option Program). IfSome x (LoadsFrom m only bytes)) e loads folder files (read_in files m r only read folder f) (bytes_as small folder f);
        }

module _ (files : List SourceFile) (read : ModulesAreRead) (o : Option Refusal) (size : ℕ) (p : Program) (m : ReadModule) (only : List ℕ) (l : IsLoadedOf files m only o size p) where
  pub refused_mistyped : (x : Refusal) → o ≡ Some x → IsModuleFault files only (Refused x)
  refused_mistyped x e =
      let told : IsTypingOf files (packages_in m) (Some x) = subst (IsTypingOf files (packages_in m)) e l.typing in
      λ folder f. mistyped files m l.read only read folder f l.form x told

  module _ (none : o ≡ None) where
    typed_as : well_typed (linked (packages_in m)) ≡ true
    typed_as = subst (IsTypingOf files (packages_in m)) none l.typing

    pub refused_oversized : (e : ModuleFault) → e ≡ Refused (told_whole (too_large_told size)) → 16777216 < size → IsModuleFault files only e
    refused_oversized e is over =
        subst (IsModuleFault files only) (sym is) (λ folder f. oversized files m l.read only read folder f l.form typed_as size l.size_is over)

    module _ (small : size ≤ 16777216) (law : FilesWithoutDots) (begin : LoadedProgramsBeginRuns) where
      fits : size_of files ≤ the_limits.total
      fits = subst (λ (n : ℕ). n ≤ the_limits.total) l.size_is small

      starts_in : (folder : List Source) (f : AreOfFolder folder files) → StartsRun folder files m only p
      starts_in folder f = starts files m l.read only read folder f l.form typed_as fits law begin p (l.loaded small folder f) l.types

      pub starts_some : AreFolder files → StartsSomeRun files p
      starts_some f = record { folder = sources_of files; read_module = m; only = only; starts = starts_in (sources_of files) f }

      pub planned_all : (plan : Plan) → ((folder : List Source) (n : ReadModule) (pre : List ℕ) → StartsRun folder files n pre p → IsRunPlan folder files (packages_in n) (texts_in n) pre plan)
          → (folder : List Source) → AreOfFolder folder files → IsModulePlan folder files only plan
      planned_all plan is folder f = module_plan files m l.read only read folder f l.form typed_as fits plan (is folder m only (starts_in folder f))

      pub refused_all : (e : ModuleFault) → ((folder : List Source) (n : ReadModule) (pre : List ℕ) → StartsRun folder files n pre p → IsRunFault folder files (packages_in n) (texts_in n) pre e)
          → IsModuleFault files only e
      refused_all (Refused x) is = λ folder f. run_refused files m l.read only read folder f l.form typed_as fits x (is folder m only (starts_in folder f))
      refused_all NoMemory is = tt
