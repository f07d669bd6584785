-- A use of a constant that a step finds is a name, and stands once in its declaration (Go specification, Constant
-- declarations; Qualified identifiers).
use Rattle.std.specs.Prelude.{◌≡◌, List, Some, slice_get}
use Rattle.std.specs.Option.{option_map}
use Rattle.go_tree.specs.Tree.{NameAt, Expr}
use Rattle.go_tree.specs.File.{Decl}
use Rattle.go_tree.specs.FileView.{file_of}
use Rattle.scope_tables.specs.Table.{table_of}
use Rattle.run_rules.specs.Forms.{is_at}
use Rattle.run_rules.specs.Programs.{decl_seen}
use Rattle.run_rules.specs.Sites.{MarkRef, Where, an_expr, a_constant, inlinable, part_span}
use Rattle.run_rules.specs.Steps.{At, same_here, Found, new_decls, packages_between, where_between}
use Rattle.run_rules.specs.Run.{Standing, Logged, Next, here_of, is_commented}
use Rattle.run_rules.specs.Respanned.{decls_with, expr_with}
use Rattle.run_rules.specs.Laws.{file_found}
use Rattle.splice_laws.specs.RunLaws.Reading.{ProgramReads}
use Rattle.constant_edits.specs.ConstantUse.{ConstantUse}
use Rattle.constant_edits.specs.ConstantForm.{ConstantForm}
use Rattle.constant_edits.specs.ReducedConstant.TheVariants.{Becomes}
use Rattle.constant_edits.specs.Views.{name_expr}
use Rattle.constant_edits.specs.Uses.{IsUse, IsReducedTo}
use Rattle.repeated_parts.specs.ImportsUnused.Uses.{all_parts}
use Rattle.repeated_parts.specs.ImportsUnused.Told.{IsTold}
use Rattle.printed_constants.specs.TypedParts.StandingUses.ImportUses.Parts.{IsName, IsNoImport, StandsOnce}
use Rattle.printed_constants.specs.TypedParts.StandingUses.ImportUses.Steps.{EachDecl, IsStanding}

-- It is a name that nothing declares around it and that of no import, or a name behind a name. Of all parts of its
-- declaration it alone stands at its span, at its place.
pub record IsNamedOnce (st : Standing) (f : Found At) (e : Expr At) (d : Decl At) : Type 0 where
  pub is_name : IsName f.site.place e
  pub use_no_import : IsNoImport st.packages f.site.at f.site.place e
  pub once :
      StandsOnce (is_at same_here (part_span f.site.part)) f.site.place e
      (decl_seen st.packages f.site.at.number f.site.at.of f.site.at.source.tree d)

-- So is a use of a constant that a step finds, where the files of the program read from their texts.
abbrev pub ConstantUsesStandOnce : Type 0
ConstantUsesStandOnce =
    (marks : List MarkRef) (st : Standing) (l : Logged) (after : Standing) (n : Next marks st l after) → ProgramReads st
    → (c : NameAt At) (v e : Expr At) → inlinable st.packages n.found.site.mark ≡ Some (a_constant c v)
    → n.found.site.part ≡ an_expr e → (d : Decl At)
    → slice_get n.found.site.at.source.tree.decls n.found.site.decl ≡ Some d → IsNamedOnce st n.found e d

-- What typing gives: all declarations of the file are as import_uses asks, before the step and with the form in the
-- place of the use, and the form isn't the name of an import alone.
pub record AreTyped (marks : List MarkRef) (st : Standing) (f : Found At) (form : ConstantForm) : Type 0 where
  pub form_no_import :
      IsNoImport st.packages f.site.at f.site.place
      (name_expr f.range (option_map (λ q. q.name) form.package) form.name)
  pub before : EachDecl (IsStanding st.packages f.site.at) f.site.at.source.tree.decls
  pub after :
      EachDecl
      (IsStanding (packages_between same_here (is_commented st) st.packages marks f)
      (where_between same_here (is_commented st) st.packages marks f)) (new_decls same_here st.packages f.site f.form)

-- So a step over a constant, whose use the code is told of (constant_forms' `IsUse`) and becomes this form, is told to
-- `unused_imports`, by the file of the use as it stands, if that is typed.
abbrev pub ConstantStepsAreTold : Type 0
ConstantStepsAreTold =
    (marks : List MarkRef) (st : Standing) (l : Logged) (after : Standing) (n : Next marks st l after) → ProgramReads st
    → (home : Where At) (c : NameAt At) (v e : Expr At) (u : ConstantUse) (form : ConstantForm)
    → IsUse st.packages (is_commented st) n.found.site home c v u
    → IsReducedTo st.packages (is_commented st) marks n.found.site (Becomes form) → n.found.site.part ≡ an_expr e
    → file_of u.file.now ≡ file_found n.found → AreTyped marks st n.found form
    → IsTold marks st n.found u.names.now (table_of u.scopes.now)
    (all_parts (decls_with here_of n.found.site.at.source.tree.decls)) (expr_with here_of e) form
