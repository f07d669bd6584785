-- What is found is the use that a run takes next.
use Rattle.std.proofs.Common.{List}
use Rattle.std.specs.Option.{option_map}
use Rattle.pkg_graph.specs.Reads.{Source}
use Rattle.run_rules.specs.Run.{Standing}
use Rattle.run_rules.specs.Sites.{MarkRef}
use Rattle.stepped_programs.specs.declared.package_search.looks.ProgramSources.{ProgramSources}
use Rattle.programs.specs.declared.state.Program.{Program}
use Rattle.stepped_programs.specs.SearchedSites.OrderedSearches.Held.{IsHeld}
use Rattle.stepped_programs.specs.SearchedSites.OrderedSearches.Laws.{SearchesFindSteps, SearchesSettleFiles}
use Rattle.stepped_programs.specs.SteppedValues.Flags.{IsKeptProgram}
use Rattle.stepped_programs.specs.SteppedValues.Held.{ProgramsAreHeld, tokens_in}
use Rattle.stepped_programs.specs.Laws.{flags_of, users_of}
use Rattle.stepped_programs.specs.FirstUses.First.{found_in}
use Rattle.stepped_programs.specs.FirstUses.Laws.{FirstUsesAreSteps, FirstUsesSettleFiles}

is_held : ProgramsAreHeld → (files : List Source) (marks : List MarkRef) (st : Standing) (p : Program) (s : ProgramSources) → IsKeptProgram files marks st p s → IsHeld marks st s (tokens_in p)
is_held held files marks st p s a = held files marks st p s a.is_program a.sources a.named a.ready.links.ordered a.ready.typed a.fields a.searchable

pub settle : ProgramsAreHeld → SearchesSettleFiles → FirstUsesSettleFiles
settle held law files marks st old new s r a settled u =
    law marks st s (tokens_in old) (users_of old) (users_of new) (flags_of old) (flags_of new) (is_held held files marks st old s a)
    (λ d k i h. u.changes.keeps d (k, i) h) settled (u.come s a.sources)

pub are_steps : ProgramsAreHeld → SearchesSettleFiles → SearchesFindSteps → FirstUsesAreSteps
are_steps held law find files marks st old new s r a settled u =
    find marks st s (tokens_in old) (users_of new) (flags_of new) old.order.items (option_map found_in r) (is_held held files marks st old s a)
    (settle held law files marks st old new s r a settled u) a.is_program.order_is (u.first s a.sources)
