-- The next use of a run, and the program that it makes; programs that are reached are ready.
use Rattle.std.proofs.Common.{◌≡◌, ◌∙◌, sym, ap, zero, suc, true, subst, List, [], ◌∷◌, ◌++◌}
use Rattle.std.proofs.lemmas.Option.{same_Some}
use Rattle.go_tree.specs.GoWords.Tokens.Characters.{each}
use Rattle.splice_laws.specs.ImportSplices.AddedFile.{is_byte}
use Rattle.pkg_graph.specs.Package.{Package}
use Rattle.pkg_graph.specs.Reads.{Source}
use Rattle.run_rules.specs.Inlining.{Reaches, begins, steps_on, standing_as_read}
use Rattle.run_rules.specs.Marks.{text_at, marks_of}
use Rattle.run_rules.specs.Run.{Standing, Logged, Limits, the_limits, edits_in, logged}
use Rattle.run_rules.specs.Sites.{MarkRef}
use Rattle.run_rules.specs.Steps.{At, Found}
use Rattle.run_rules.specs.Texts.{FileText}
use Rattle.order_runs.specs.CycleRuns.Linked.{SettlesFile}
use Rattle.printed_constants.specs.TypedParts.ScopedParts.Laws.{WellTypedFilesAreScoped}
use Rattle.run_by_steps.proofs.NextPrograms.NextMade.{made_are_next}
use Rattle.run_by_steps.specs.WrittenImports.Laws.{AreNamed}
use Rattle.run_by_steps.proofs.WrittenImports.ReadNames.{read_packages_are_named}
use Rattle.put_names.specs.WrittenNames.NamedPackages.{PackagesAreNamed, PathsAreOctets}
use Rattle.put_names.proofs.WrittenNames.Kept as names
use Rattle.put_names.proofs.WrittenNames.ReadNames.{modules_named}
use Rattle.run_by_steps.proofs.Kept as keep
use Rattle.printed_constants.specs.TypedParts.MarkedRuns.SettledConstants.Programs.{IsOverConstant}
use Rattle.printed_constants.proofs.TypedParts.MarkedRuns.SettledConstants.Settled.{constant_settles, stays_ready}
use Rattle.printed_constants.specs.TypedParts.MarkedRuns.PutForms.Uses.{UsesNamedConstant}
use Rattle.printed_constants.specs.TypedParts.MarkedRuns.PutForms.Laws.{MadeConstantsAreNext, MadeConstantsStayReady, ConstantsComeNext, ReachedProgramsAreReady}
use Rattle.printed_constants.proofs.TypedParts.MarkedRuns.PutForms.Forms.{puts_form, named_in_program}

pub come_next : WellTypedFilesAreScoped → ConstantsComeNext
come_next scoped marks st f old ready is c =
    record {
      is_first = is.is_first;
      there = is.there;
      put = puts_form scoped marks st f old ready is c;
      in_program = (named_in_program scoped marks st f old ready is c).0;
    }

pub made_next : WellTypedFilesAreScoped → MadeConstantsAreNext
made_next scoped marks st f old new tree ready is c m =
    made_are_next marks st f old new tree is.is_first is.there (puts_form scoped marks st f old ready is c) (named_in_program scoped marks st f old ready is c).1 m

pub made_stay : WellTypedFilesAreScoped → MadeConstantsStayReady
made_stay scoped marks st f old new tree ready is c n removes typed =
    let settles : SettlesFile n.next = constant_settles marks st row n.after n.next scoped ready over in (settles, stays_ready marks st row n.after n.next ready settles typed)
  where
    row : Logged
    row = logged marks st f (edits_in marks st old f)

    same_found : n.next.found ≡ f
    same_found = same_Some n.next.found f (sym n.next.is_first ∙ is.is_first)

    same_old : n.next.old ≡ old
    same_old = same_Some n.next.old old (sym n.next.stands ∙ ap (λ (g : Found At). text_at g.site.at.source.path st.texts) same_found ∙ is.there)

    its_use : UsesNamedConstant st n.next.found n.next.old
    its_use =
        subst (λ (g : Found At). UsesNamedConstant st g n.next.old) (sym same_found)
        (subst (λ (t : FileText). UsesNamedConstant st f t) (sym same_old) c)

    over : IsOverConstant n.next
    over = record {
      uses = record {
        home = its_use.home;
        home_is = its_use.home_is;
        name = its_use.name;
        value = its_use.value;
        declared = its_use.declared;
        as_name = its_use.as_name;
      };
      old = its_use.expr;
      part = its_use.part;
      few = its_use.few;
      removes = removes;
    }

-- ---- programs that are reached

octets_of : (ps : List (Package At)) → AreNamed ps → PathsAreOctets ps
octets_of [] h k p e = absurd cc
octets_of (q ∷ ps) h zero p e = subst (λ (r : Package At). each is_byte r.path ≡ true) (same_Some q p e) h.1
octets_of (q ∷ ps) h (suc k) p e = octets_of ps h.2 k p e

reached_named : (marks : List MarkRef) (m : Limits) (files : List Source) (done log : List Logged) (st last : Standing) → Reaches marks m files done st log last → PackagesAreNamed st.packages → PathsAreOctets st.packages
    → PackagesAreNamed last.packages
reached_named marks m files done _ st _ (begins _ _) named octets = named
reached_named marks m files done _ st last (steps_on _ log l _ mid _ n p rest) named octets =
    let k : PackagesAreNamed mid.packages × PathsAreOctets mid.packages = names.step_keeps marks st l mid n named octets in
    reached_named marks m files (done ++ l ∷ []) log mid last rest k.0 k.1

pub reached_ready : ReachedProgramsAreReady
reached_ready files ps texts only done st r links typed unspread =
    let k : keep.Kept st = keep.kept_here files ps texts only done st r in
    record {
      reads = k.reads;
      paths = k.files_apart;
      links = links;
      named =
          reached_named (marks_of ps texts only) the_limits files [] done (standing_as_read ps texts) st r.steps (modules_named files ps texts r.read)
          (octets_of (standing_as_read ps texts).packages (read_packages_are_named files ps texts r.read r.octets));
      octets = octets_of st.packages k.named;
      typed = typed;
      unspread = unspread;
    }
