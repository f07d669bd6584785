-- All that is kept of a program stays its own.
use Rattle.std.proofs.Common.{◌≡◌, ◌∙◌, sym, ap, subst, ℕ, zero, suc, ◌<◌, List, [], ◌∷◌, map, length, get_or, Some, arith}
use Rattle.std.specs.Prelude.{slice_get}
use Rattle.std.proofs.lemmas.Option.{slice_get_within}
use Rattle.pkg_graph.specs.Package.{Package}
use Rattle.pkg_graph.specs.Reads.{Source}
use Rattle.run_rules.specs.Programs.{in_dependency_order}
use Rattle.run_rules.specs.Run.{Standing}
use Rattle.run_rules.specs.Sites.{MarkRef}
use Rattle.run_rules.specs.Steps.{At}
use Rattle.stepped_programs.specs.SearchedSites.Fields.{TellsFields}
use Rattle.stepped_programs.specs.declared.package_search.looks.ProgramSources.{ProgramSources}
use Rattle.programs.specs.declared.state.PackageFiles.{PackageFiles}
use Rattle.programs.specs.declared.state.Program.{Program}
use Rattle.programs.specs.Programs.{AreKeptFiles, IsProgramOf}
use Rattle.stepped_programs.proofs.SearchedSites.KeptPrograms.Kept.{There, there, are_open}
use Rattle.stepped_programs.proofs.SearchedSites.OrderedSearches.Beside.{EachItem, order_stands}
use Rattle.stepped_programs.specs.SteppedValues.Flags.{IsKeptProgram}
use Rattle.stepped_programs.specs.SteppedValues.Held.{AreSourcesOf}
use Rattle.stepped_programs.specs.FirstUses.First.{AreFlagged, IsFlagged}
use Rattle.stepped_programs.specs.FirstUses.Laws.{ProgramsAreOpenInOrder, FirstUsesKeepPrograms}

module _ (files : List Source) (marks : List MarkRef) (st : Standing) (old new : Program) (f : IsFlagged old new) where
  kept_now : IsProgramOf files marks st old → (j : ℕ) (h : Package At) (fs : PackageFiles) → slice_get st.packages j ≡ Some h → slice_get new.files.items j ≡ Some fs → AreKeptFiles st h fs
  kept_now is j h fs e g =
      let was : There old.files.items j = there old.files.items j (omega (arith, slice_get_within new.files.items j fs g, f.size)) in
      let y : AreFlagged was.entry fs = f.files j was.entry fs was.is g in
      let a : AreKeptFiles st h was.entry = is.kept j h was.entry e was.is in
      subst (λ (z : PackageFiles). AreKeptFiles st h z) (sym y.only_flags)
      (record {
        counted = record { texts = a.counted.texts; tokens = a.counted.tokens; flags = y.size ∙ a.counted.flags };
        each = λ i q w.
            let z = a.each i q w in
            record { text = z.text; text_is = z.text_is; tokens = z.tokens; tokens_are = z.tokens_are; stands = z.stands; reads = z.reads; small = z.small };
      })

  still : IsProgramOf files marks st old → IsProgramOf files marks st (record old { files = new.files; users = new.users })
  still is =
      record {
        packages_are = is.packages_are;
        few = is.few;
        paths = is.paths;
        places_are = is.places_are;
        order_is = is.order_is;
        marks_are = is.marks_are;
        constants = is.constants;
        values = is.values;
        count = f.size ∙ is.count;
        kept = kept_now is;
        origins = λ j i h e g k.
            let o = is.origins j i h e g k in record { home = o.home; there = o.there; kept = o.kept };
        bytes_are = is.bytes_are;
      }

  program_stays : IsProgramOf files marks st old → IsProgramOf files marks st new
  program_stays is = subst (λ (q : Program). IsProgramOf files marks st q) (sym f.rest) (still is)

  sources_stay : (s : ProgramSources) → AreSourcesOf old s → AreSourcesOf new s
  sources_stay s t =
      record {
        packages_told = t.packages_told ∙ sym (ap (λ (p : Program). p.packages.items) f.rest);
        places_told = t.places_told ∙ sym (ap (λ (p : Program). p.places) f.rest);
        marks_told = t.marks_told ∙ sym (ap (λ (p : Program). p.marks) f.rest);
        values_told = t.values_told ∙ sym (ap (λ (p : Program). p.values) f.rest);
        types_told = t.types_told ∙ sym (ap (λ (p : Program). p.types) f.rest);
      }

  kept_stays : (s : ProgramSources) → IsKeptProgram files marks st old s → IsKeptProgram files marks st new s
  kept_stays s a =
      record {
        is_program = program_stays a.is_program;
        sources = sources_stay s a.sources;
        ready = a.ready;
        typed = a.typed;
        named = a.named;
        fields = subst (TellsFields st.packages) (sym (ap (λ (p : Program). p.types) f.rest)) a.fields;
        searchable = a.searchable;
      }

pub keep_programs : FirstUsesKeepPrograms
keep_programs files marks st old new r u =
    (λ is. program_stays files marks st old new u.changes is, λ s a. kept_stays files marks st old new u.changes s a)

-- ---- packages in dependency order

each_within : (ps : List (Package At)) (qs : List (ℕ × Package At)) → EachItem (λ q. slice_get ps q.0 ≡ Some q.1) qs → (i d : ℕ) → i < length (map (λ q. q.0) qs)
    → get_or (map (λ q. q.0) qs) i d < length ps
each_within ps [] all i d h = absurd (omega (arith, h))
each_within ps (q ∷ qs) all zero d h = slice_get_within ps q.0 q.1 all.0
each_within ps (q ∷ qs) all (suc i) d h = each_within ps qs all.1 i d (omega (arith, h))

pub open_in_order : ProgramsAreOpenInOrder
open_in_order files marks st p is i d h =
    are_open files marks st p (get_or p.order.items i d) is
    (subst (λ (ks : List ℕ). i < length ks → get_or ks i d < length st.packages) (sym is.order_is)
    (each_within st.packages (in_dependency_order st.packages) (order_stands st.packages) i d) h)
