-- What a run over constants in declarations of any form keeps, from a module that reads, and that it inlines the module.
use Rattle.std.proofs.Common.{inl, ◌≡◌, refl, ◌∙◌, true, List}
use Rattle.go_translation.specs.Packages.{sources, are_well_typed}
use Rattle.run_rules.specs.Cycles.{is_recursive}
use Rattle.run_rules.specs.Programs.{linked}
use Rattle.run_rules.specs.Sites.{MarkRef}
use Rattle.run_rules.specs.Steps.{same_here}
use Rattle.run_rules.specs.Respanned.{packages_with}
use Rattle.run_rules.specs.Run.{Standing, Logged, Next, Run, ends, goes_on, here_of, is_commented}
use Rattle.run_rules.specs.Inlining.{standing_as_read}
use Rattle.order_runs.specs.RunSteps.RunPackages.{members_of, packages_of}
use Rattle.order_runs.proofs.OrderedSteps.{program-means}
use Rattle.order_runs.specs.CycleRuns.ImportCycles.ImportSteps.{packages_added}
use Rattle.order_runs.specs.CycleRuns.Linked.{WritesFile}
use Rattle.order_runs.proofs.CycleRuns.Runs.{writes-of}
use Rattle.printed_constants.specs.InlinedFiles.Files.{AllWrite}
use Rattle.printed_constants.specs.InlinedFiles.InlinedModules.Laws.{KeptModulesAreInlined}
use Rattle.printed_constants.specs.TypedParts.MarkedRuns.ReadyModules.Laws.{ReadModulesAreReady}
use Rattle.printed_constants.specs.TypedParts.MarkedRuns.SettledConstants.Laws as settled
use Rattle.printed_constants.specs.TypedParts.MarkedRuns.SettledConstants.Programs.{IsReady}
use Rattle.printed_constants.specs.TypedParts.MarkedRuns.TakenNames.Taken.{TakesName}
use Rattle.printed_constants.proofs.TypedParts.MarkedRuns.ReadyModules.Typed.{linked_typed, typed_as_read}
use Rattle.constant_modules.specs.NamedAnywhere.Marked.{AllTakeAnywhere}
use Rattle.constant_modules.specs.NamedAnywhere.MarkedLaws.{RunsAnywhereKeep, RunsAnywhereInline}
use Rattle.constant_modules.specs.NamedAnywhere.Taken.{site_there, TakesNameAnywhere, EachTakesAnywhere}
use Rattle.constant_modules.specs.NamesAndKeys.Marked.{used_name, key_name}
use Rattle.constant_modules.proofs.KeyedImports.Free.{marked-looked}
use Rattle.constant_modules.proofs.NamedAnywhere.OwnExpressions.{as_use}
use Rattle.constant_modules.proofs.NamedAnywhere.PartsKnown.{simple_stand}
use Rattle.constant_modules.proofs.NamedAnywhere.TakenRuns.{typed-next, module-keeps}

module _ (marks : List MarkRef) (st : Standing) (l : Logged) (after : Standing) (n : Next marks st l after) where
  -- a step whose parts are simple
  pub simple-takes : TakesName n → TakesNameAnywhere n
  unfolding as_use
  simple-takes h = record {
    there =
        record {
          place = h.place;
          use_ = as_use same_here (is_commented st) (packages_added st.packages n.found) marks (site_there n.found h.place) h.use_ h.stands.home_plain;
          stands =
              record {
                package_there = h.stands.package_there;
                file_there = h.stands.file_there;
                decl = h.stands.decl;
                decl_there = h.stands.decl_there;
                alone = h.stands.alone;
              };
          parts = λ Q w s k at. simple_stand same_here (packages_added st.packages n.found) (site_there n.found h.place) h.use_.new h.stands.decl k (linked (packages_added st.packages n.found)) (sources Q) h.stands.simple;
          form = h.form;
          names =
              record {
                new_names = h.names.new_names;
                kept =
                    record {
                      used = λ k d e m i. h.names.kept_names k d e m (marked-looked (used_name m) d i);
                      keys = λ k d e m i. inl (h.names.kept_names k d e m (marked-looked (key_name m) d i));
                    };
                ordered = h.names.ordered;
                ordered_added = h.names.ordered_added;
                ordered_after = h.names.ordered_after;
              };
          file_sound = h.file_sound;
          home_sound = h.home_sound;
        };
    imports = h.imports;
  }

-- ---- what runs over constants keep

-- a program that is ready, whose packages are well typed
abbrev pub BothReady : Standing → Type 0
BothReady st = IsReady st × (are_well_typed (members_of st.packages) ≡ true)

pub step-ready : settled.StepsStayReady → (marks : List MarkRef) (st : Standing) (l : Logged) (after : Standing) (n : Next marks st l after) → BothReady st → WritesFile n → TakesNameAnywhere n → BothReady after
step-ready stays marks st l after n h writes takes =
    let typed : are_well_typed (members_of after.packages) ≡ true = typed-next marks st l after n takes h.1 in
    (stays marks st l after n h.0 writes (linked_typed after.packages typed), typed)

each-takes : (marks : List MarkRef) (st last : Standing) (log : List Logged) (run : Run marks st log last) → AllTakeAnywhere run → EachTakesAnywhere run
each-takes marks st _ _ (ends _ over) h = tt
each-takes marks st last _ (goes_on _ next _ l log n run) h = (h.1.1.0, each-takes marks next last log run h.1.1.1)

module _ (settles : settled.ConstantsSettle) (stays : settled.StepsStayReady) (keep : settled.ConstantsKeepCycles) where
  last-ready : (marks : List MarkRef) (st last : Standing) (log : List Logged) (run : Run marks st log last) → AllTakeAnywhere run → BothReady st → BothReady last
  last-ready marks st _ _ (ends _ over) h r = r
  last-ready marks st last _ (goes_on _ next _ l log n run) h r =
      last-ready marks next last log run h.1.1.1 (step-ready stays marks st l next n r (writes-of (settles marks st l next n r.0 h.0)) h.1.1.0)

  same-cycles : (marks : List MarkRef) (st last : Standing) (log : List Logged) (run : Run marks st log last) → AllTakeAnywhere run → BothReady st → (m : MarkRef) → is_recursive st.packages marks m ≡ is_recursive last.packages marks m
  same-cycles marks st _ _ (ends _ over) h r m = refl
  same-cycles marks st last _ (goes_on _ next _ l log n run) h r m =
      keep marks st l next n r.0 h.0 h.1.0 m
      ∙ same-cycles marks next last log run h.1.1.1 (step-ready stays marks st l next n r (writes-of (settles marks st l next n r.0 h.0)) h.1.1.0) m

  pub run-over-constants : ReadModulesAreReady → RunsAnywhereKeep
  run-over-constants ready files ps texts marks last log r octets typed unspread run h =
      let first : BothReady (standing_as_read ps texts) = (ready files ps texts r octets typed unspread, typed_as_read ps typed) in
      let last_is : BothReady last = last-ready marks (standing_as_read ps texts) last log run h first in
      record {
        ready = last_is.0;
        typed = last_is.1;
        cycles = λ m. same-cycles marks (standing_as_read ps texts) last log run h first m;
        meaning = λ marked.
            program-means (packages_of ps marked) (packages_of (packages_with here_of last.packages) marked)
            (module-keeps ps texts marks last log run (each-takes marks (standing_as_read ps texts) last log run h) marked);
      }

-- ---- so they inline a module

module _ (settles : settled.ConstantsSettle) (stays : settled.StepsStayReady) where
  taken-write : (marks : List MarkRef) (st last : Standing) (log : List Logged) (run : Run marks st log last) → AllTakeAnywhere run → BothReady st → AllWrite run
  taken-write marks st _ _ (ends _ over) h r = tt
  taken-write marks st last _ (goes_on _ next _ l log n run) h r =
      let w : WritesFile n = writes-of (settles marks st l next n r.0 h.0) in
      (w, taken-write marks next last log run h.1.1.1 (step-ready stays marks st l next n r w h.1.1.0))

  pub constants-inline : KeptModulesAreInlined → ReadModulesAreReady → RunsAnywhereKeep → RunsAnywhereInline
  constants-inline inlined ready kept files ps texts marks last log r octets typed unspread run h =
      inlined files ps texts marks last log r typed run
      (taken-write marks (standing_as_read ps texts) last log run h (ready files ps texts r octets typed unspread, typed_as_read ps typed))
      (kept files ps texts marks last log r octets typed unspread run h)
