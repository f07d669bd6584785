-- A type is put in the place of a name of a type.
use Rattle.std.proofs.Common.{◌≡◌, Bool, true, false, drop, Option, refl, ap, ◌∙◌}
use Rattle.go_tree.specs.declared.spans.Span.{Span}
use Rattle.go_tree.specs.Tree.{NameAt, TypeExpr, named}
use Rattle.go_tree.specs.Bare.{bare_type}
use Rattle.go_tree.specs.File.{File}
use Rattle.go_tree.specs.FileBare.{bare_file}
use Rattle.go_layout.specs.Layouts.{Layout}
use Rattle.go_layout.specs.TypeLayout.{type_layout}
use Rattle.go_layout.specs.LayoutLaws.Formed.{FormedType, FormedLiteralType}
use Rattle.go_layout.proofs.LayoutLaws.BareLayouts.{type_bare}
use Rattle.run_rules.specs.FormTrees.{as_type}
use Rattle.run_rules.specs.Inlining.{ReadsAs}
use Rattle.run_rules.specs.Respanned.{type_with, file_with}
use Rattle.run_rules.specs.Steps.{At}
use Rattle.run_rules.specs.Surroundings.{Slot}
use Rattle.run_rules.specs.Texts.{FileText, indent_at, spelling_before, first_spelling, needs_blank}
use Rattle.splice_laws.specs.Dots.{UndottedFile}
use Rattle.splice_laws.specs.Joints.{begins_with_dot}
use Rattle.splice_laws.specs.Splice.{are_apart, first_word}
use Rattle.splice_laws.specs.Swaps.{Swap, a_type, a_literal_type, FileIn}
use Rattle.splice_laws.specs.ImportSplices.FormSplices.Laws.{is_parted}
use Rattle.splice_laws.proofs.ImportSplices.FormSplices.FormLayouts.{type-spliced}
use Rattle.put_nodes.proofs.FormsApart.TypesApart.{types_apart}
use Rattle.put_nodes.specs.Put.{FormIsPut}
use Rattle.put_nodes.proofs.NamesLaid.{indent_spaces}
use Rattle.put_nodes.specs.TypeNodes.Swapped.{TypeSwapped}
use Rattle.taken_aliases.proofs.PutTexts.Texts.{formed-bare, literal-bare, bare-stays}

module _ (to : At → Span) (t : FileText) (tree : File At) (reads : ReadsAs t (file_with to tree)) (undotted : UndottedFile (bare_file (file_with to tree))) (z s : At) (p : Slot) (q : Option (NameAt At)) (n : NameAt At) (new : TypeExpr At) (formed : FormedType new) where
  abbrev range : Span
  range = to s

  abbrev old : TypeExpr Span
  old = type_with to (named s q n)

  abbrev InFile : Swap Span → Type 0
  InFile w = (g : File Span) × FileIn w (file_with to tree) g

  -- the layout without spans is that of the type
  laid : type_layout (bare_type (type_with to new)) ≡ type_layout new
  laid = ap (λ (u : TypeExpr (Unit {0})). type_layout u) (bare-stays to new) ∙ type_bare new

  apart : is_parted t z range p (as_type new) ≡ false → are_apart t.tokens range.start (first_word (type_layout (bare_type (type_with to new)))) ≡ true
  apart none =
      types_apart t.text t.tokens t.comments (file_with to tree) reads.scans reads.spells range.start (bare_type (type_with to new)) (formed-bare to new formed)
      (ap (λ (l : Layout). needs_blank (spelling_before range.start t.tokens) (first_spelling l)) laid ∙ none)

  pub type-put : (literal : Bool) → TypeSwapped to InFile literal (named s q n) → (literal ≡ true → FormedLiteralType new) → FormIsPut t (file_with to tree) z range p (as_type new)
  type-put false swapped fits =
      let put : InFile (a_type old (type_with to new)) = swapped (type_with to new) in
      record {
        new = put.0;
        swap = a_type old (type_with to new);
        indent = indent_at t.text range.start;
        dotted = begins_with_dot (drop range.end t.text);
        wrapped = false;
        blank = is_parted t z range p (as_type new);
        edit_is = type-spliced t z range p new old (type_with to new) (bare-stays to new);
        put = record {
          of_text = reads.scans;
          spelled = reads.spells;
          undotted_file = undotted;
          swapped = put.1;
          asks = tt;
          formed = formed-bare to new formed;
          spaces = indent_spaces t.text range.start;
          undotted = λ e. e;
          apart = apart;
        };
      }
  type-put true swapped fits =
      let put : InFile (a_literal_type false old (type_with to new)) = swapped (type_with to new) in
      record {
        new = put.0;
        swap = a_literal_type false old (type_with to new);
        indent = indent_at t.text range.start;
        dotted = begins_with_dot (drop range.end t.text);
        wrapped = false;
        blank = is_parted t z range p (as_type new);
        edit_is = type-spliced t z range p new old (type_with to new) (bare-stays to new);
        put = record {
          of_text = reads.scans;
          spelled = reads.spells;
          undotted_file = undotted;
          swapped = put.1;
          asks = tt;
          formed = (literal-bare to new (fits refl), λ e. absurd cc);
          spaces = indent_spaces t.text range.start;
          undotted = λ e. e;
          apart = apart;
        };
      }
