-- A step over a name of a type that becomes a name of a type puts it in the place of a node.
use Rattle.std.proofs.Common.{◌≡◌, ◌<◌, Bool, zero, suc, List, [], ◌∷◌, sym, ap, subst, ◌∙◌, arith}
use Rattle.std.specs.Prelude.{Contains}
use Rattle.std.proofs.lemmas.Option.{same_Some}
use Rattle.go_tree.specs.declared.spans.Span.{Span}
use Rattle.go_tree.specs.Tree.{TypeExpr, named}
use Rattle.go_tree.specs.File.{File}
use Rattle.go_tree.specs.FileBare.{bare_file}
use Rattle.order_runs.specs.CycleRuns.Linked.{SettlesFile}
use Rattle.splice_laws.specs.ImportSplices.AddedFile.{AreWritable}
use Rattle.order_runs.specs.CycleRuns.KeptImports.Files.{PutsNode, RemovesNoNames}
use Rattle.order_runs.specs.CycleRuns.OrderCycles.NewNames.{AvoidsFew}
use Rattle.order_runs.specs.CycleRuns.OrderedSteps.Ranks.{AddsLedTo}
use Rattle.put_names.specs.ReadImports.PutInText.{PutInText}
use Rattle.run_rules.specs.FormTrees.{Form, as_type}
use Rattle.run_rules.specs.Inlining.{ReadsAs}
use Rattle.run_rules.specs.Laws.{file_found}
use Rattle.run_rules.specs.Naming.{imports_added}
use Rattle.run_rules.specs.Run.{Standing, Logged, Next, here_of, is_commented}
use Rattle.run_rules.specs.Sites.{MarkRef, Part, part_span}
use Rattle.run_rules.specs.Steps.{At, same_here}
use Rattle.run_rules.specs.Texts.{FileText}
use Rattle.splice_laws.specs.RunLaws.Reading.{FileReads, FileAt, ProgramReads}
use Rattle.splice_laws.proofs.RunLaws.FoundSpans.{Placed, FoundIn, found_in}
use Rattle.splice_laws.specs.Dots.{UndottedFile}
use Rattle.splice_laws.specs.Swaps.{Swap, FileIn}
use Rattle.put_nodes.specs.Put.{FormIsPut}
use Rattle.put_nodes.specs.TypeNodes.Names.{Written, type_names}
use Rattle.put_nodes.specs.TypeNodes.Swapped.{TypeSwapped, AllTypesSwapped}
use Rattle.put_nodes.proofs.TypeNodes.TopWalk.{types-swapped}
use Rattle.put_nodes.proofs.TypeNodes.TypesPut.{type-name-put}
use Rattle.put_names.specs.PutTypes.Uses.{UsesTypeName, BecomesTypeName}

-- what holds of all types of a list holds of one
one-swapped : {A B : Type 0} (to : A → B) (Whole : Swap B → Type 0) (xs : Written A) (x : Bool × TypeExpr A) → Contains xs x → AllTypesSwapped to Whole xs → TypeSwapped to Whole x.0 x.1
one-swapped to Whole [] x c h = let lt : c.0 < 0 = c.1 in absurd (omega arith)
one-swapped {A = A} to Whole (y ∷ xs) x (zero, lt, e) h = subst (λ (y : Bool × TypeExpr A). TypeSwapped to Whole y.0 y.1) e h.0
one-swapped to Whole (y ∷ xs) x (suc k, lt, e) h = one-swapped to Whole xs x (k, omega (arith, lt), e) h.1

module _ (marks : List MarkRef) (st : Standing) (l : Logged) (after : Standing) (n : Next marks st l after) (reads : ProgramReads st) where
  abbrev Any : Span → Type 0
  Any s = Unit {0}

  placed : Placed here_of Any st.packages marks n.found.site
  placed = let f : FoundIn here_of Any st.packages marks same_here (is_commented st) n.found = found_in here_of Any st.packages marks same_here (is_commented st) n.found n.is_first in f.placed

  file-reads : ReadsAs n.old (file_found n.found)
  file-reads =
      let at : FileAt st.packages n.found.site.at.number n.found.site.at.file_number n.found.site.at.source = record { of = n.found.site.at.of; package_is = placed.package_is; file_is = placed.file_is } in
      let r : FileReads st.texts n.found.site.at.source = reads n.found.site.at.number n.found.site.at.file_number n.found.site.at.source at in
      subst (λ (t : FileText). ReadsAs t (file_found n.found)) (same_Some r.text n.old (sym r.there ∙ n.stands)) r.reads

  module _ (undotted : UndottedFile (bare_file (file_found n.found))) (used : UsesTypeName n) (becomes : BecomesTypeName n) where
    swapped : TypeSwapped here_of (λ w. (g : File Span) × FileIn w (file_found n.found) g) used.literal (named used.span used.before used.name)
    swapped =
        one-swapped here_of (λ w. (g : File Span) × FileIn w (file_found n.found) g) (type_names placed.decl) (used.literal, named used.span used.before used.name) (used.written placed.decl placed.decl_is)
        (types-swapped here_of n.old n.found.site.at.source.tree file-reads n.found.site.decl placed.decl placed.decl_is)

    span-is : here_of used.span ≡ here_of n.found.range
    span-is = sym (ap here_of becomes.range_is ∙ ap (λ (x : Part At). here_of (part_span x)) used.part)

    form-put : FormIsPut n.old (file_found n.found) n.found.range (here_of n.found.range) n.found.site.place.slot n.found.form
    form-put =
        subst (λ (f : Form At). FormIsPut n.old (file_found n.found) n.found.range (here_of n.found.range) n.found.site.place.slot f) (sym becomes.form_is)
        (subst (λ (s : Span). FormIsPut n.old (file_found n.found) n.found.range s n.found.site.place.slot (as_type becomes.new)) span-is
        (type-name-put here_of n.old n.found.site.at.source.tree file-reads undotted n.found.range used.span n.found.site.place.slot used.before used.name becomes.new becomes.is_name used.literal swapped))

    puts-node : PutsNode n
    puts-node = let f = form-put in record { swap = f.swap; new = f.new; indent = f.indent; dotted = f.dotted; wrapped = f.wrapped; blank = f.blank; edit_is = f.edit_is; put = f.put }

    put-in-text : PutInText n
    put-in-text = let f = form-put in record { put = f.new; swap = f.swap; indent = f.indent; dotted = f.dotted; wrapped = f.wrapped; blank = f.blank; in_text = f.put; edit = f.edit_is }

    pub steps-put : PutsNode n × PutInText n
    steps-put = (puts-node, put-in-text)

    pub names-settle : AreWritable (imports_added n.found.named) → AddsLedTo st.packages n.found → AvoidsFew st.packages n.found → RemovesNoNames n → SettlesFile n
    names-settle writable led few removes = record { puts = puts-node; writable = writable; led = led; few = few; removes = removes }
