-- Each step of a run among constants and functions that print them is over a marked constant, as marked_runs asks.
use Rattle.std.proofs.Common.{◌≡◌, refl, sym, subst, ℕ, zero, suc, ◌≤◌, true, List, [], ◌∷◌, ◌++◌}
use Rattle.go_tree.specs.Tree.{ident, selector}
use Rattle.go_translation.specs.Packages.{are_well_typed}
use Rattle.run_rules.specs.ImportRules.SettledNames.{IsOwnName}
use Rattle.pkg_graph.specs.Package.{Package}
use Rattle.run_rules.specs.Run.{Standing, Logged, Next, Run, ends, goes_on, texts_size, the_limits}
use Rattle.run_rules.specs.Inlining.{Reaches, steps_on}
use Rattle.run_rules.specs.Sites.{MarkRef}
use Rattle.run_rules.specs.Steps.{At, change_nth}
use Rattle.run_rules.proofs.OneRun.{one_next}
use Rattle.pkg_graph.specs.Reads.{Source}
use Rattle.constant_steps.specs.FormImports.OwnNames.{AllOwn}
use Rattle.order_runs.specs.RunSteps.RunPackages.{members_of}
use Rattle.order_runs.proofs.CycleRuns.Runs.{linked-names}
use Rattle.put_names.specs.Uses.{UsesConstant}
use Rattle.printed_constants.specs.TypedParts.MarkedRuns.KeptMarks.Laws.{StepsKeepNamed}
use Rattle.printed_constants.specs.TypedParts.MarkedRuns.LinkedMembers.Laws.{HaveFiles}
use Rattle.printed_constants.specs.TypedParts.MarkedRuns.KeptMarks.Over.{IsOverName}
use Rattle.printed_constants.specs.TypedParts.MarkedRuns.Marked.{StandsAdded, AllOverNames}
use Rattle.printed_constants.specs.TypedParts.MarkedRuns.NamedMarks.Named.{AllNamed}
use Rattle.printed_constants.specs.TypedParts.MarkedRuns.SettledConstants.Laws.{ConstantsWrite}
use Rattle.printed_constants.specs.TypedParts.MarkedRuns.SettledConstants.Programs.{IsReady}
use Rattle.printed_constants.specs.TypedParts.MarkedRuns.SoundImports.Laws.{AddedImportsMayBeDeclared}
use Rattle.printed_constants.specs.TypedParts.MarkedRuns.TakenNames.Laws.{StepsStayReady}
use Rattle.printed_constants.specs.TypedParts.MarkedRuns.TakenNames.Taken.{TakesName}
use Rattle.printed_constants.proofs.TypedParts.MarkedRuns.KeptMarks.Kept.{writes, look-ups}
use Rattle.printed_constants.proofs.TypedParts.MarkedRuns.LinkedMembers.Files.{step-have}
use Rattle.printed_constants.proofs.TypedParts.MarkedRuns.KeptMarks.Puts.{Puts, puts_name, puts_member, step-puts}
use Rattle.printed_constants.proofs.TypedParts.MarkedRuns.NamedMarks.Used.{named-used}
use Rattle.printed_constants.proofs.TypedParts.MarkedRuns.Runs.{takes-name}
use Rattle.run_rules.specs.Printed.{a_name, a_selection, ArePrinted}
use Rattle.printed_constants.specs.NamedUses.Laws.{ConstantsNamesStand, StepsKeepConstantsNames}
use Rattle.printed_constants.specs.NamedUses.Names.{AllConstantsNames}
use Rattle.printed_constants.specs.PrintedRuns.Laws.{StaysWithin}
use Rattle.printed_constants.specs.UsedImports.Laws.{StepsLeaveImportsUsed}
use Rattle.printed_constants.proofs.CountedNames.Avoided.{stay_within}
use Rattle.printed_constants.proofs.PrintedUses.Added.{uses_stand}
use Rattle.printed_constants.proofs.PrintedUses.Over.{steps_over}
use Rattle.printed_constants.proofs.Steps.{stay_printed}

-- the texts stay within the limit where no step passes one
pub runs_within : (files : List Source) (marks : List MarkRef) (st last : Standing) (done log : List Logged) (run : Run marks st log last) → Reaches marks the_limits files done st log last → StaysWithin run
runs_within files marks st last done _ (ends _ over) r = tt
runs_within files marks st last done _ (goes_on _ next _ l log n run) (steps_on _ _ _ _ to _ k p rest) =
    let one = one_next marks st l l next to n k in (
      subst (λ (z : Standing). texts_size z.texts ≤ the_limits.total) (sym one.1) (stay_within files done l k.new to.texts p),
      runs_within files marks next last (done ++ l ∷ []) log run (subst (λ (z : Standing). Reaches marks the_limits files (done ++ l ∷ []) z log last) (sym one.1) rest),
    )

own_changed : (F : Package At → Package At) → ((p : Package At) → (F p).name ≡ p.name) → (i : ℕ) (ps : List (Package At)) → AllOwn ps → AllOwn (change_nth i F ps)
own_changed F same i [] h = h
own_changed F same zero (p ∷ ps) h = (subst IsOwnName (sym (same p)) h.0, h.1)
own_changed F same (suc i) (p ∷ ps) h = (h.0, own_changed F same i ps h.1)

module _ (marks : List MarkRef) (st : Standing) (l : Logged) (after : Standing) (n : Next marks st l after) where
  pub own_after : AllOwn st.packages → AllOwn after.packages
  own_after h = subst (λ (ps : List (Package At)). AllOwn ps) (sym n.packages_are) (own_changed _ (λ p. refl) n.found.site.at.number st.packages h)

  pub printed_after : UsesConstant n → ArePrinted st.packages → ArePrinted after.packages
  printed_after uses printed = by (step-puts marks st l after n uses)
    where
      by : Puts marks st l after n → ArePrinted after.packages
      by (puts_name m f) = stay_printed marks st l after n (ident _ m) f a_name printed
      by (puts_member k p m others there g f) = stay_printed marks st l after n (selector _ (ident _ _) _) f (a_selection a_name) printed

module _ (sound : AddedImportsMayBeDeclared) (write : ConstantsWrite) (step : StepsStayReady) (keep : StepsKeepNamed) (used : StepsLeaveImportsUsed) (stand : ConstantsNamesStand) (stay : StepsKeepConstantsNames) where
  pub all_over : (marks : List MarkRef) (st last : Standing) (log : List Logged) (run : Run marks st log last) → StaysWithin run → IsReady st → are_well_typed (members_of st.packages) ≡ true → AllNamed st.packages marks → AllConstantsNames st.packages marks → ArePrinted st.packages → AllOwn st.packages
      → HaveFiles st.packages → texts_size st.texts ≤ the_limits.total → AllOverNames run
  all_over marks st _ _ (ends _ over) fits ready typed named all printed own files small = tt
  all_over marks st last _ (goes_on _ next _ l log n run) fits ready typed named all printed own files small =
      let over : IsOverName n = steps_over marks st l next n ready printed own named small in
      let stands : StandsAdded n = uses_stand write used marks st l next n ready typed printed files own named small (stand marks st l next n ready typed printed own named all small) in
      let takes : TakesName n = takes-name sound marks st l next n ready.reads stands (look-ups marks st l next n over write ready named) (linked-names st.packages ready.links) typed over.few in
      let r = step marks st l next n ready typed (writes marks st l next n over write ready named) takes in
      (over, (stands, all_over marks next last log run fits.1 r.0 r.1 (keep marks st l next n ready named over) (stay marks st l next n ready typed printed own named all small) (printed_after marks st l next n (named-used marks st l next n over.old over.part named) printed) (own_after marks st l next n own) (step-have marks st l next n files) fits.0))
