-- After a step whose form is an expression the imports are right at last, if they are used.
use Rattle.std.proofs.Common.{◌≡◌, refl, sym, subst, true, List, Option, None, Some}
use Rattle.go_tree.specs.Tree.{NameAt, Expr}
use Rattle.go_tree.specs.File.{Receiver, Decl, values, types, func}
use Rattle.pkg_graph.specs.Package.{Package}
use Rattle.typed_in_place.specs.HeaderReplaced.{SameReceiver, no_receiver, one_receiver}
use Rattle.typed_in_place.specs.Replaced.{SameName, no_name, one_name}
use Rattle.go_translation.specs.Packages as translated
use Rattle.go_translation.specs.Packages.{are_well_typed}
use Rattle.run_rules.specs.FormTrees.{Form, as_expr}
use Rattle.run_rules.specs.Programs.{top_place}
use Rattle.run_rules.specs.Run.{Standing, Logged, Next}
use Rattle.run_rules.specs.Sites.{MarkRef, Site, part_span}
use Rattle.run_rules.specs.Steps.{At, same_here, changes_for, new_receiver_option, new_decl}
use Rattle.run_rules.specs.Surroundings.{Place}
use Rattle.order_runs.specs.RunSteps.RunPackages.{members_of}
use Rattle.order_runs.specs.ImportCodes.PackagesMoved.{ImportsStand}
use Rattle.order_runs.specs.CycleRuns.StepCycles.PackagesAlike.{DeclAlike}
use Rattle.order_runs.proofs.CycleRuns.StepCycles.StepAlike.{ReceiverStays, new-alike}
use Rattle.order_runs.specs.CycleRuns.ImportCycles.ImportSteps.{DeclaresAlike}
use Rattle.order_runs.specs.CycleRuns.OrderCycles.NewNames.{AvoidsFew}
use Rattle.order_runs.proofs.CycleRuns.OrderedSteps.Steps.{steps-own}
use Rattle.order_runs.specs.CycleRuns.Linked.{Linked, WritesFile}
use Rattle.order_runs.proofs.CycleRuns.Runs.{linked-names, written-so}
use Rattle.printed_constants.specs.TypedParts.MarkedRuns.LinkedMembers.Laws.{HaveFiles, ImportsUsed}
use Rattle.printed_constants.proofs.TypedParts.MarkedRuns.LinkedMembers.Files.{step-have}
use Rattle.printed_constants.proofs.TypedParts.MarkedRuns.LinkedMembers.Linked.{members-linked}
use Rattle.printed_constants.proofs.TypedParts.MarkedRuns.LinkedMembers.Right.{used-right}
use Rattle.printed_constants.proofs.TypedParts.MarkedRuns.SoundImports.After.{after-sound}

name-stays : (o : Option (NameAt At)) → SameName o o
name-stays None = no_name
name-stays (Some n) = one_name refl

-- an expression leaves receivers as they are
receiver-stays : (ps : List (Package At)) (z : At) (e : Expr At) (q : Place At) (r : Option (Receiver At)) → SameReceiver r (new_receiver_option same_here ps (changes_for same_here z (as_expr e)) q r)
receiver-stays ps z e q None = no_receiver
receiver-stays ps z e q (Some r) = one_receiver (name-stays r.name) refl refl

stays : (ps : List (Package At)) (z : At) (e : Expr At) (q : Place At) (d : Decl At) → ReceiverStays same_here ps (changes_for same_here z (as_expr e)) q d
stays ps z e q (values s) = tt
stays ps z e q (types _ _ ts) = tt
stays ps z e q (func f) = receiver-stays ps z e q f.receiver

module _ (marks : List MarkRef) (st : Standing) (l : Logged) (after : Standing) (n : Next marks st l after) (e : Expr At) (form_is : n.found.form ≡ as_expr e) where
  abbrev x : Site At
  x = n.found.site

  declares-alike : DeclaresAlike n
  declares-alike d i =
      subst (λ (f : Form At). DeclAlike d (new_decl same_here st.packages (changes_for same_here (part_span x.part) f) x.at.number x.at.of x.at.source.tree d)) (sym form_is)
      (new-alike same_here st.packages (changes_for same_here (part_span x.part) (as_expr e)) x.at.number x.at.of x.at.source.tree d
      (stays st.packages (part_span x.part) e (top_place st.packages x.at.number x.at.of x.at.source.tree) d))

  pub imports-stand : Linked st.packages → HaveFiles st.packages → are_well_typed (members_of st.packages) ≡ true → AvoidsFew st.packages n.found → WritesFile n → (more : List (translated.Package At)) → ImportsUsed more (members_of after.packages) → ImportsStand more (members_of after.packages)
  imports-stand links files typed few write more used = record {
    linked = members-linked after.packages (steps-own marks st l after n links.own) (step-have marks st l after n files);
    right = used-right after.packages more (after-sound marks st l after n links.ordered (linked-names st.packages links) typed few (written-so marks st l after n links write) declares-alike) used;
  }
