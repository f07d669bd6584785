use Rattle.std.proofs.Common.{◌∙◌, refl, sym, ap, subst, OnOk, List}
use Rattle.std.specs.Prelude.{slice_get}
use Rattle.pkg_graph.specs.declared.packages.Package.{Package}
use Rattle.stepped_programs.specs.HeldBlocks.{IsHeldIn}
use Rattle.stepped_programs.proofs.PackageSearch.SearchedPrograms.Packages.{program_searched}
use Rattle.stepped_programs.proofs.package_search.searched_programs.search.search_program.Goals as goal

pub search_kept-requires-clause-held : goal.search_kept-requires-clause-held
search_kept-requires-clause-held c = λ h home e f.
    c.requires.held h home e (sym (ap (λ (ps : List Package). slice_get ps h.home) c.deref.ensures.value) ∙ f)

pub returns-clause-held : goal.returns-clause-held
returns-clause-held c =
    subst (λ (ps : List Package). OnOk c.search_kept.result (IsHeldIn ps c.search_kept.new.held)) c.deref.ensures.value c.search_kept.ensures.held

pub returns-clause-search : goal.returns-clause-search
returns-clause-search c =
    program_searched c.args.program.now c.args.number _ c.deref_mut.result.now c.search_kept.new.files c.search_kept.new.users c.search_kept.result c.search_kept.ensures.search
    c.deref.ensures.value refl refl refl refl c.deref_mut.ensures.value
