-- Files stay settled after a step.
use Rattle.std.proofs.Common.{◌≡◌, ◌∙◌, false, List, sym, ap}
use Rattle.pkg_graph.specs.Reads.{Source}
use Rattle.run_rules.specs.Run.{Standing, Logged, Next}
use Rattle.run_rules.specs.Sites.{MarkRef}
use Rattle.repeated_parts.specs.UseSearch.MarkValues.Tables.{DeclKey, Known, same_key, values_at, value_in}
use Rattle.constant_modules.specs.KeyedImports.Steps.{IsOverNameKeyed}
use Rattle.stepped_programs.specs.declared.package_search.looks.ProgramSources.{ProgramSources}
use Rattle.programs.specs.declared.state.Program.{Program}
use Rattle.stepped_programs.specs.SearchedSites.OrderedSearches.Held.{IsHeld}
use Rattle.stepped_programs.specs.SearchedSites.SettledFiles.Left.{TellOthersTheSame}
use Rattle.stepped_programs.specs.SearchedSites.SettledFiles.Laws.{FlagsMayStay}
use Rattle.stepped_programs.specs.SteppedValues.OfSteps.{is_of_step, decl_of_step}
use Rattle.stepped_programs.specs.SteppedValues.Flags.{IsKeptProgram, SettledFlagsStay}
use Rattle.stepped_programs.specs.SteppedValues.Held.{tokens_in, ProgramsAreHeld}
use Rattle.stepped_programs.specs.SteppedValues.Laws.{MarkedValuesStay}

kept_held : ProgramsAreHeld → (files : List Source) (marks : List MarkRef) (st : Standing) (p : Program) (s : ProgramSources) → IsKeptProgram files marks st p s → IsHeld marks st s (tokens_in p)
kept_held held files marks st p s a = held files marks st p s a.is_program a.sources a.named a.ready.links.ordered a.ready.typed a.fields a.searchable

kept_told : MarkedValuesStay → (files : List Source) (marks : List MarkRef) (st : Standing) (l : Logged) (after : Standing) (n : Next marks st l after) (p q : Program) (s t : ProgramSources)
    → IsKeptProgram files marks st p s → IsKeptProgram files marks after q t → IsOverNameKeyed n → ((k : DeclKey) → is_of_step n.found k ≡ false → values_at k q.values ≡ values_at k p.values)
    → TellOthersTheSame marks (same_key (decl_of_step n.found)) s.values.now t.values.now
kept_told values files marks st l after n p q s t a b over others m among other =
    ap (λ (x : Known). value_in x m) b.sources.values_told
    ∙ values marks st l after n p.values q.values a.ready b.ready a.typed b.typed a.named over a.is_program.values b.is_program.values others m among other
    ∙ sym (ap (λ (x : Known). value_in x m) a.sources.values_told)

pub flags_stay : FlagsMayStay → ProgramsAreHeld → MarkedValuesStay → SettledFlagsStay
flags_stay flags held values files marks st l after n p q s t were users old new a b types over others keep settled may =
    flags marks st l after n s t (tokens_in p) (tokens_in q) (same_key (decl_of_step n.found)) were users old new a.is_program.paths
    (kept_held held files marks st p s a) (kept_held held files marks after q t b) (b.sources.types_told ∙ types ∙ sym a.sources.types_told) (kept_told values files marks st l after n p q s t a b over others) keep settled may
