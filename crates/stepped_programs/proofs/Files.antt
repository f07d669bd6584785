-- The files of a program after a step: that of the step, and those that it leaves.
use Rattle.std.proofs.Common.{◌≡◌, ◌∙◌, sym, ap, ℕ, ◌<◌, List, length, Some, subst}
use Rattle.std.specs.Prelude.{slice_get}
use Rattle.std.proofs.lemmas.Option.{slice_get_within}
use Rattle.pkg_graph.specs.Package.{SourceTree, Package}
use Rattle.pkg_graph.specs.Reads.{Source}
use Rattle.programs.specs.Kept.{text_with}
use Rattle.programs.specs.Programs.{IsProgramOf}
use Rattle.programs.specs.declared.state.Program.{Program}
use Rattle.splice_laws.specs.RunLaws.Reading.{ProgramReads}
use Rattle.run_rules.specs.Run.{Standing, Logged, Next}
use Rattle.run_rules.specs.Sites.{MarkRef, Where}
use Rattle.run_rules.specs.Steps.{At}
use Rattle.stepped_programs.specs.SearchedSites.OrderedSearches.Held.{IsThere}
use Rattle.stepped_programs.proofs.SearchedSites.KeptPrograms.Kept.{There, there}
use Rattle.stepped_programs.specs.SearchedSites.SettledFiles.Left.{IsLeft}
use Rattle.stepped_programs.proofs.SearchedSites.SettledFiles.Left.{source_same}
use Rattle.stepped_programs.proofs.SearchedSites.SettledFiles.Stay.{WasThere, was_there}

-- where a file stands
abbrev pub standing_at : ℕ → ℕ → Package At → SourceTree At → Where At
standing_at k i h f = record { number = k; of = h; file_number = i; source = f }

module _ (marks : List MarkRef) (st : Standing) (l : Logged) (after : Standing) (n : Next marks st l after) where
  -- The file stood there before the step, which left it.
  pub record LeftFile (k i : ℕ) (h : Package At) (f : SourceTree At) : Type 0 where
    pub was : Where At
    pub left : IsLeft n.found st.packages after.packages was (standing_at k i h f)
    pub home_is : slice_get st.packages k ≡ Some was.of
    pub file_is : slice_get was.of.files i ≡ Some was.source
    pub source_is : was.source ≡ f
    pub number_is : was.number ≡ k
    pub file_number_is : was.file_number ≡ i

  -- so it is with each but that of the step
  pub left_file : (k i : ℕ) (h : Package At) (f : SourceTree At) → slice_get after.packages k ≡ Some h → slice_get h.files i ≡ Some f
      → ((k ≡ n.found.site.at.number) × (i ≡ n.found.site.at.file_number) → ⊥) → LeftFile k i h f
  left_file k i h f package_is file_is differ =
      let t : IsThere after.packages (standing_at k i h f) = record { package_is = package_is; file_is = file_is } in
      let w : WasThere st.packages (standing_at k i h f) = was_there marks st l after n (standing_at k i h f) t in
      let left : IsLeft n.found st.packages after.packages w.file (standing_at k i h f) =
      record { before = w.there; after = t; number_is = w.number_is; file_is = w.file_is; other = λ o. differ (w.number_is ∙ o.0, w.file_is ∙ o.1) } in
      record {
        was = w.file;
        left = left;
        home_is = ap (slice_get st.packages) w.number_is ∙ w.there.package_is;
        file_is = ap (slice_get w.file.of.files) w.file_is ∙ w.there.file_is;
        source_is = sym (source_same marks st l after n w.file (standing_at k i h f) left);
        number_is = sym w.number_is;
        file_number_is = sym w.file_is;
      }

-- the files of a program read from the texts that are kept of them
pub program_reads : (files : List Source) (marks : List MarkRef) (st : Standing) (p : Program) → IsProgramOf files marks st p → ProgramReads st
program_reads files marks st p is k i f at =
    let within : k < length p.files.items = subst (λ (m : ℕ). k < m) (sym is.count) (slice_get_within st.packages k at.of at.package_is) in
    let kept : There p.files.items k = there p.files.items k within in
    let y = (is.kept k at.of kept.entry at.package_is kept.is).each i f at.file_is in
    record { text = text_with y.text y.tokens; there = y.stands; reads = y.reads }
