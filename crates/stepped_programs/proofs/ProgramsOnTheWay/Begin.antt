-- What is loaded of a module stands at the beginning of a run; a program without a free use at its end.
use Rattle.std.proofs.Common.{◌≡◌, ◌∙◌, refl, sym, ap, subst, ℕ, Bool, true, false, List, [], Option, Some, None}
use Rattle.std.specs.Prelude.{slice_get}
use Rattle.pkg_graph.specs.Package.{Package}
use Rattle.go_tree.specs.declared.spans.Span.{Span}
use Rattle.stepped_programs.specs.PackageSearch.Search.{is_settled}
use Rattle.constant_modules.specs.ConstantPrograms.Laws.{ReadModulesAreConstantPrograms}
use Rattle.constant_modules.specs.ConstantPrograms.Programs.{IsConstantProgram}
use Rattle.literal_tables.specs.HasTypes.{HasTypes}
use Rattle.literal_tables.specs.Laws.{StandingTablesAreRight}
use Rattle.programs.specs.declared.state.PackageFiles.{PackageFiles}
use Rattle.programs.specs.declared.state.Program.{Program}
use Rattle.programs.specs.Programs.{NoneAreSettled}
use Rattle.read_modules.specs.Modules.{packages_in, texts_in}
use Rattle.run_rules.specs.Inlining.{begins, standing_as_read}
use Rattle.run_rules.specs.Marks.{marks_of}
use Rattle.run_rules.specs.Run.{Standing}
use Rattle.run_rules.specs.Programs.{world}
use Rattle.run_rules.specs.Sites.{MarkRef}
use Rattle.constant_modules.specs.NamedThere.Steps.{IsOfConstants}
use Rattle.run_rules.specs.Texts.{FileText}
use Rattle.run_by_steps.specs.StepCounts.Laws.{NoneAreCounted}
use Rattle.stepped_programs.specs.FirstUses.Laws.{FirstUsesAreSteps}
use Rattle.stepped_programs.specs.Laws.{flags_of}
use Rattle.stepped_programs.specs.SearchedSites.FoundSteps.Laws.{SearchesEndRuns}
use Rattle.stepped_programs.specs.SearchedSites.TypedSearches.Laws.{TypedFilesAreSearchable, TablesServePrograms}
use Rattle.stepped_programs.specs.ProgramsOnTheWay.Laws.{RunsBegin, RunsEnd}
use Rattle.stepped_programs.proofs.LoadedPrograms.AsRead.{packages_reread}

none_set : (i : ℕ) → is_settled [] i ≡ true → ⊥
none_set i h = cc

not_both : (b : Bool) → b ≡ false → b ≡ true → ⊥
not_both true h k = absurd cc
not_both false h k = absurd cc

abbrev flags : Option PackageFiles → List Bool
flags None = []
flags (Some f) = f.settled.items

flags_there : (o : Option PackageFiles) → (elim o as (λ r. List Bool) [ None ↦ [] | Some f ↦ f.settled.items ]) ≡ flags o
flags_there None = refl
flags_there (Some f) = refl

-- no flag is set
unsettled : (p : Program) → NoneAreSettled p → (k i : ℕ) → is_settled (flags_of p k) i ≡ true → ⊥
unsettled p none k i e = by (slice_get p.files.items k) refl (sym (ap (λ (bs : List Bool). is_settled bs i) (flags_there (slice_get p.files.items k))) ∙ e)
  where
    by : (o : Option PackageFiles) → slice_get p.files.items k ≡ o → is_settled (flags (slice_get p.files.items k)) i ≡ true → ⊥
    by None h e = none_set i (sym (ap (λ (o : Option PackageFiles). is_settled (flags o) i) h) ∙ e)
    by (Some f) h e = not_both (is_settled f.settled.items i) (none k f h i) (sym (ap (λ (o : Option PackageFiles). is_settled (flags o) i) h) ∙ e)

pub runs_begin : TypedFilesAreSearchable → TablesServePrograms → StandingTablesAreRight → ReadModulesAreConstantPrograms → NoneAreCounted → RunsBegin
runs_begin searchable serve right read none files m only p s c r octets words typed form constants small loaded sources declared steps origins =
    let ps : List (Package Span) = packages_in m in
    let texts : List (List ℕ × FileText) = texts_in m in
    let marks : List MarkRef = marks_of ps texts only in
    let st : Standing = standing_as_read ps texts in
    let program : IsConstantProgram files marks st = read files ps texts only r octets typed form constants small in
    let its : IsOfConstants marks st = program.constants in
    let types : HasTypes (world st.packages) p.types =
    right st.packages p.types (subst (λ (qs : List (Package Span)). HasTypes (world qs) p.types) (sym (packages_reread ps)) declared) in
    record {
      reached = record { read = r; octets = octets; supported = words; steps = begins [] st };
      kept =
          record {
            is_program = loaded.is_program;
            sources = sources;
            ready = its.ready;
            typed = its.typed;
            named = its.named;
            fields = serve st p.types its.ready.reads its.ready.links.ordered its.ready.typed types;
            searchable = searchable marks st its.ready.reads its.ready.paths its.ready.links.ordered its.ready.typed its.small;
          };
      constants = program;
      types = types;
      settled = λ w there flag. absurd (unsettled p loaded.unsettled w.number w.file_number flag);
      counted = none st.packages c steps origins;
    }

pub runs_end : FirstUsesAreSteps → SearchesEndRuns → RunsEnd
runs_end steps ended files ps texts only done st old new s c o f = ended files ps texts only done st s o.reached (steps files (marks_of ps texts only) st old new s None o.kept o.settled f)
