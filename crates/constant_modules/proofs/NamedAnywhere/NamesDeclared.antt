-- A step that puts a constant's name leaves a declaration of the same names in the place of the use's.
use Rattle.std.proofs.Common.{refl, sym, subst, List, Option, Some, None}
use Rattle.go_tree.specs.Tree.{NameAt, Expr}
use Rattle.go_tree.specs.File.{Receiver, Decl, values, types, func}
use Rattle.pkg_graph.specs.Package.{Package}
use Rattle.order_runs.specs.CycleRuns.ImportCycles.ImportSteps.{DeclaresAlike}
use Rattle.order_runs.specs.CycleRuns.StepCycles.PackagesAlike.{DeclAlike}
use Rattle.order_runs.proofs.CycleRuns.StepCycles.StepAlike.{ReceiverStays, new-alike}
use Rattle.run_rules.specs.FormTrees.{Form, as_expr}
use Rattle.run_rules.specs.Programs.{top_place}
use Rattle.run_rules.specs.Run.{Standing, Logged, Next}
use Rattle.run_rules.specs.Sites.{MarkRef, part_span}
use Rattle.run_rules.specs.Steps.{At, same_here, changes_for, new_receiver_option, new_decl}
use Rattle.run_rules.specs.Surroundings.{Place}
use Rattle.typed_in_place.specs.HeaderReplaced.{SameReceiver, no_receiver, one_receiver}
use Rattle.typed_in_place.specs.Replaced.{SameName, no_name, one_name}
use Rattle.constant_modules.specs.NamedAnywhere.Puts.{PutsNameThere}

name-stays : (o : Option (NameAt At)) → SameName o o
name-stays None = no_name
name-stays (Some n) = one_name refl

receiver-stays : (ps : List (Package At)) (z : At) (e : Expr At) (q : Place At) (r : Option (Receiver At)) → SameReceiver r (new_receiver_option same_here ps (changes_for same_here z (as_expr e)) q r)
receiver-stays ps z e q None = no_receiver
receiver-stays ps z e q (Some r) = one_receiver (name-stays r.name) refl refl

-- a receiver stays where an expression is put
stays : (ps : List (Package At)) (z : At) (e : Expr At) (q : Place At) (d : Decl At) → ReceiverStays same_here ps (changes_for same_here z (as_expr e)) q d
stays ps z e q (values s) = tt
stays ps z e q (types _ _ ts) = tt
stays ps z e q (func f) = receiver-stays ps z e q f.receiver

pub declares_alike : (marks : List MarkRef) (st : Standing) (l : Logged) (after : Standing) (n : Next marks st l after) → PutsNameThere n → DeclaresAlike n
declares_alike marks st l after n h d i =
    subst (λ (f : Form At). DeclAlike d (new_decl same_here st.packages (changes_for same_here (part_span n.found.site.part) f) n.found.site.at.number n.found.site.at.of n.found.site.at.source.tree d)) (sym h.form)
    (new-alike same_here st.packages (changes_for same_here (part_span n.found.site.part) (as_expr h.use_.new)) n.found.site.at.number n.found.site.at.of n.found.site.at.source.tree d (stays st.packages (part_span n.found.site.part) h.use_.new (top_place st.packages n.found.site.at.number n.found.site.at.of n.found.site.at.source.tree) d))
