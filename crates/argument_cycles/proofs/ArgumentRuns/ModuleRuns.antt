-- Runs of steps over calls, with arguments in the places of parameters, keep which marked functions lie on a cycle.
use Rattle.std.proofs.Common.{◌≡◌, refl, sym, ◌∙◌, ap, subst, ℕ, zero, suc, List, [], ◌∷◌, map, Some}
use Rattle.std.specs.Prelude.{slice_get}
use Rattle.std.proofs.lemmas.Option.{same_Some}
use Rattle.go_tree.specs.declared.spans.Span.{Span}
use Rattle.pkg_graph.specs.Package.{SourceTree, Package}
use Rattle.pkg_graph.specs.Reads.{Source}
use Rattle.run_rules.specs.Respanned.{source_with, packages_with}
use Rattle.run_rules.specs.Texts.{FileText}
use Rattle.run_rules.specs.Sites.{MarkRef}
use Rattle.run_rules.specs.Cycles.{is_recursive}
use Rattle.run_rules.specs.Steps.{At, change_nth}
use Rattle.run_rules.specs.ImportRules.SettledNames.{IsOwnName}
use Rattle.constant_steps.specs.FormImports.OwnNames.{AllOwn}
use Rattle.constant_steps.proofs.FormImports.OwnNames.{read_packages_are_named}
use Rattle.run_rules.specs.Run.{Standing, Logged, Next, Run, ends, goes_on, as_read}
use Rattle.run_rules.specs.Inlining.{ModuleReads, standing_as_read}
use Rattle.splice_laws.specs.RunLaws.Reading.{ProgramReads, FileAt, OnePathEach}
use Rattle.splice_laws.proofs.RunLaws.RunsRead.{modules_read, next_reads, next_paths}
use Rattle.splice_laws.proofs.RunLaws.PathsOwn.{paths_own}
use Rattle.order_runs.specs.CycleRuns.Linked.{Linked, SettlesFile}
use Rattle.order_runs.proofs.CycleRuns.OrderedSteps.Modules.{package-at}
use Rattle.order_runs.proofs.CycleRuns.Runs.{step-linked, writes-of, one-step}
use Rattle.literal_cycles.specs.FormCycles.Runs.{puts_what_stood, changes_a_body}
use Rattle.literal_cycles.proofs.FormCycles.FormSteps.{body-step}
use Rattle.literal_cycles.specs.Runs.{KeepsCycles, gives_way, puts_literal, puts_body, puts_block, puts_expression}
use Rattle.literal_cycles.proofs.ThroughLiterals.{literal_step}
use Rattle.literal_cycles.proofs.BodyForms.StepsPut.{body_step}
use Rattle.literal_cycles.proofs.BodyForms.StepsBound.{block_step}
use Rattle.literal_cycles.proofs.BodyForms.StepsExpressions.{expression_step}
use Rattle.literal_cycles.specs.FormCycles.Bodies.{StandsInFunction}
use Rattle.argument_cycles.specs.ArgumentRuns.Runs.{PutsArgumentsPlaced, an_expression, a_block, a_literal, a_free_block, a_free_literal, a_typed_block, a_typed_literal, a_block_with_methods, a_literal_with_methods, an_added_expression, an_added_block, an_added_literal, a_found_expression, a_found_block, a_found_literal, KeepsCallCycles, keeps_cycles, puts_arguments, AllKeepCallCycles}
use Rattle.argument_cycles.proofs.BraceSteps.{placed_block_step}
use Rattle.argument_cycles.proofs.LiteralSteps.{placed_literal_step}
use Rattle.argument_cycles.proofs.Steps.{placed_step}
use Rattle.argument_cycles.proofs.FreeSteps.{free_block_step, free_literal_step}
use Rattle.argument_cycles.proofs.TypedBodies.TypedSteps.{typed_block_step, typed_literal_step}
use Rattle.argument_cycles.proofs.TypedMethods.MethodSteps.{methods_block_step, methods_literal_step}
use Rattle.argument_cycles.proofs.ImportingSteps.AddedSteps as added
use Rattle.argument_cycles.proofs.FoundThere.Becoming as becoming

-- ---- files by their numbers, as a module is read

file_was_read : (fs : List (SourceTree Span)) (i : ℕ) (f : SourceTree At) → slice_get (map (source_with as_read) fs) i ≡ Some f → (x : SourceTree Span) × (slice_get fs i ≡ Some x) × (f ≡ source_with as_read x)
file_was_read [] i f h = absurd cc
file_was_read (x ∷ fs) zero f h = (x, refl, sym (same_Some (source_with as_read x) f h))
file_was_read (x ∷ fs) (suc i) f h = file_was_read fs i f h

was_at : (ps : List (Package Span)) (k i : ℕ) (f : SourceTree At) → FileAt (packages_with as_read ps) k i f → (x : SourceTree Span) × FileAt ps k i x × (f ≡ source_with as_read x)
was_at ps k i f at =
    let p = package-at as_read ps k at.of at.package_is in
    let x = file_was_read p.0.files i f (subst (λ (q : Package At). slice_get q.files i ≡ Some f) p.2 at.file_is) in
    (x.0, record { of = p.0; package_is = p.1; file_is = x.1 }, x.2)

paths_as_read : (ps : List (Package Span)) → OnePathEach ps → OnePathEach (packages_with as_read ps)
paths_as_read ps one k i l j f g a b e =
    let x = was_at ps k i f a in
    let y = was_at ps l j g b in
    one k i l j x.0 y.0 x.1 y.1 (sym (ap (λ (s : SourceTree At). s.path) x.2) ∙ e ∙ ap (λ (s : SourceTree At). s.path) y.2)

-- ---- runs

literal_way : (marks : List MarkRef) (st : Standing) (l : Logged) (after : Standing) (n : Next marks st l after) → Linked st.packages → ProgramReads st → SettlesFile n → KeepsCycles n → (m : MarkRef) → is_recursive st.packages marks m ≡ is_recursive after.packages marks m
literal_way marks st l after n h reads s (gives_way (puts_what_stood p)) m = one-step marks st l after n h s p m
literal_way marks st l after n h reads s (gives_way (changes_a_body b c)) m = body-step marks st l after n h s b c m
literal_way marks st l after n h reads s (puts_literal b k) m = literal_step marks st l after n k h reads s b m
literal_way marks st l after n h reads s (puts_body b k) m = body_step marks st l after n k h reads s b m
literal_way marks st l after n h reads s (puts_block b k) m = block_step marks st l after n k h reads s b m
literal_way marks st l after n h reads s (puts_expression b k) m = expression_step marks st l after n k h reads s b m

arguments_way : (marks : List MarkRef) (st : Standing) (l : Logged) (after : Standing) (n : Next marks st l after) → Linked st.packages → AllOwn st.packages → ProgramReads st → SettlesFile n → StandsInFunction n → PutsArgumentsPlaced n → (m : MarkRef) → is_recursive st.packages marks m ≡ is_recursive after.packages marks m
arguments_way marks st l after n h own reads s b (an_expression k) m = placed_step marks st l after n k h reads s b m
arguments_way marks st l after n h own reads s b (a_block k) m = placed_block_step marks st l after n k h reads s b m
arguments_way marks st l after n h own reads s b (a_literal k) m = placed_literal_step marks st l after n k h reads s b m
arguments_way marks st l after n h own reads s b (a_free_block k) m = free_block_step marks st l after n k h reads s b m
arguments_way marks st l after n h own reads s b (a_free_literal k) m = free_literal_step marks st l after n k h reads s b m
arguments_way marks st l after n h own reads s b (a_typed_block k) m = typed_block_step marks st l after n k h reads s b m
arguments_way marks st l after n h own reads s b (a_typed_literal k) m = typed_literal_step marks st l after n k h reads s b m
arguments_way marks st l after n h own reads s b (a_block_with_methods k) m = methods_block_step marks st l after n k h reads s b m
arguments_way marks st l after n h own reads s b (a_literal_with_methods k) m = methods_literal_step marks st l after n k h reads s b m
arguments_way marks st l after n h own reads s b (an_added_expression k) m = added.expression_step marks st l after n k h reads s b m
arguments_way marks st l after n h own reads s b (an_added_block k) m = added.block_step marks st l after n k h reads s b m
arguments_way marks st l after n h own reads s b (an_added_literal k) m = added.literal_step marks st l after n k h reads s b m
arguments_way marks st l after n h own reads s b (a_found_expression k) m = added.expression_step marks st l after n (becoming.expression_added marks st l after n h s own k) h reads s b m
arguments_way marks st l after n h own reads s b (a_found_block k) m = added.block_step marks st l after n (becoming.block_added marks st l after n h s own k) h reads s b m
arguments_way marks st l after n h own reads s b (a_found_literal k) m = added.literal_step marks st l after n (becoming.literal_added marks st l after n h s own k) h reads s b m

one_way : (marks : List MarkRef) (st : Standing) (l : Logged) (after : Standing) (n : Next marks st l after) → Linked st.packages → AllOwn st.packages → ProgramReads st → SettlesFile n → KeepsCallCycles n → (m : MarkRef) → is_recursive st.packages marks m ≡ is_recursive after.packages marks m
one_way marks st l after n h own reads s (keeps_cycles k) m = literal_way marks st l after n h reads s k m
one_way marks st l after n h own reads s (puts_arguments b k) m = arguments_way marks st l after n h own reads s b k m

-- a step leaves the names of packages
own_next : (F : Package At → Package At) → ((p : Package At) → (F p).name ≡ p.name) → (k : ℕ) (ps : List (Package At)) → AllOwn ps → AllOwn (change_nth k F ps)
own_next F same k [] h = tt
own_next F same zero (p ∷ ps) h = (subst IsOwnName (sym (same p)) h.0, h.1)
own_next F same (suc k) (p ∷ ps) h = (h.0, own_next F same k ps h.1)

step_own : (marks : List MarkRef) (st : Standing) (l : Logged) (after : Standing) (n : Next marks st l after) → AllOwn st.packages → AllOwn after.packages
step_own marks st l after n h =
    let F : Package At → Package At = λ p. record p { files = change_nth n.found.site.at.file_number (λ (s : SourceTree At). record s { tree = n.tree }) p.files } in
    subst (λ (qs : List (Package At)). AllOwn qs) (sym n.packages_are) (own_next F (λ p. refl) n.found.site.at.number st.packages h)

run_keeps : (marks : List MarkRef) (st last : Standing) (log : List Logged) (run : Run marks st log last) → Linked st.packages → AllOwn st.packages → ProgramReads st → OnePathEach st.packages → AllKeepCallCycles run → (m : MarkRef) → is_recursive st.packages marks m ≡ is_recursive last.packages marks m
run_keeps marks _ _ _ (ends st over) h own reads one a m = refl
run_keeps marks _ _ _ (goes_on st next last l log n run) h own reads one a m =
    one_way marks st l next n h own reads a.0 a.1.0 m ∙ run_keeps marks next last log run (step-linked marks st l next n h (writes-of a.0)) (step_own marks st l next n own) (next_reads marks st l next n reads one) (next_paths marks st l next n reads one) a.1.1 m

pub call_runs_keep : (files : List Source) (ps : List (Package Span)) (texts : List (List ℕ × FileText)) (marks : List MarkRef) (last : Standing) (log : List Logged) → ModuleReads files ps texts → Linked (standing_as_read ps texts).packages
    → (run : Run marks (standing_as_read ps texts) log last) → AllKeepCallCycles run → (m : MarkRef) → is_recursive (standing_as_read ps texts).packages marks m ≡ is_recursive last.packages marks m
call_runs_keep files ps texts marks last log r h run a m = run_keeps marks (standing_as_read ps texts) last log run h (read_packages_are_named files ps texts r) (modules_read files ps texts r) (paths_as_read ps (paths_own files ps texts r).0) a m
